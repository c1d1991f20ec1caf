-- A span more behind rising spans: joined to the last of them, or a span of its own.
use Rattle.std.proofs.Common.{◌≡◌, ℕ, ◌+◌, ◌-◌, ◌<◌, ◌≤◌, max, Bool, true, false, ◌||◌, ◌&&◌, leb, List, [], ◌∷◌, ◌++◌, length, get_or, set, take, refl, sym, ap, ◌∙◌, subst, suc, inl, inr, arith}
use Rattle.std.proofs.lemmas.Bool.{cases_lt, le-leb, lt-leb}
use Rattle.std.proofs.lemmas.List.{take_all, take_more, drop_all, get_or_default, set_split}
use Rattle.std.proofs.lemmas.List.Concat.{flat_map-append}
use Rattle.cb_lines.specs.declared.line_set.Span.{Span}
use Rattle.cb_lines.specs.Lines.{has_line, span_lines, AreMaximal}
use Rattle.cb_lines.specs.inner.Merging.{last_first}
use Rattle.cb_lines.proofs.Adding.{none}
use Rattle.cb_lines.proofs.SpanLists.{lines, Fits, bound, Fits-from_maximal, maximal_from_Fits, Fits-left, Fits-right, Fits-append, bound-take}
use Rattle.cb_lines.proofs.Members.{has-append, has-range_below, has-range_above, has-range_among}

-- what adding a span behind spans leaves
pub record Joins (next : Span) (old new : List Span) : Type 0 where
  pub maximal : AreMaximal new
  pub rising : last_first new ≤ next.first
  pub members : (line : ℕ) → has_line (lines new) line ≡ (has_line (lines old) line || has_line (span_lines next) line)

has-span : (s : Span) (l : ℕ) → s.first ≤ s.last → has_line (span_lines s) l ≡ (leb s.first l && leb l s.last)
has-span s l ends =
    elim (cases_lt l s.first) [
      | inl lt ↦ has-range_below s.first (s.last + 1 - s.first) l lt ∙ sym (rw (lt-leb s.first l lt) refl)
      | inr ge ↦ elim (cases_lt s.last l) [
        | inl beyond ↦ has-range_above s.first (s.last + 1 - s.first) l (omega arith) ∙ sym (rw (le-leb s.first l ge, lt-leb l s.last beyond) refl)
        | inr within ↦ has-range_among s.first (s.last + 1 - s.first) l ge (omega arith) ∙ sym (rw (le-leb s.first l ge, le-leb l s.last within) refl)
      ]
    ]

-- two spans that meet
has-both : (s t : Span) (l : ℕ) → s.first ≤ s.last → t.first ≤ t.last → s.first ≤ t.first → t.first ≤ s.last + 1 → has_line (span_lines (record { first = s.first; last = max s.last t.last })) l ≡ (has_line (span_lines s) l || has_line (span_lines t) l)
has-both s t l es et le meet =
    rw (has-span (record { first = s.first; last = max s.last t.last }) l (omega arith), has-span s l es, has-span t l et)
    (elim (cases_lt l s.first) [
      | inl lt ↦ rw (lt-leb s.first l lt, lt-leb t.first l (omega arith)) refl
      | inr ge ↦ elim (cases_lt s.last l) [
        | inl beyond ↦ elim (cases_lt t.last l) [
          | inl out ↦ rw (le-leb s.first l ge, lt-leb l (max s.last t.last) (omega arith), lt-leb l s.last beyond, le-leb t.first l (omega arith), lt-leb l t.last out) refl
          | inr inside ↦ rw (le-leb s.first l ge, le-leb l (max s.last t.last) (omega arith), lt-leb l s.last beyond, le-leb t.first l (omega arith), le-leb l t.last inside) refl
        ]
        | inr within ↦ rw (le-leb s.first l ge, le-leb l (max s.last t.last) (omega arith), le-leb l s.last within) refl
      ]
    ])

-- the last of spans that end in one
pub last_first-append : (xs : List Span) (s : Span) → last_first (xs ++ s ∷ []) ≡ s.first
last_first-append [] s = refl
last_first-append (x ∷ []) s = refl
last_first-append (x ∷ y ∷ xs) s = last_first-append (y ∷ xs) s

split_last : (ss : List Span) (q : ℕ) → length ss ≡ q + 1 → ss ≡ take q ss ++ (get_or ss q none ∷ [])
split_last ss q h = sym (take_all (q + 1) ss (omega arith)) ∙ take_more ss q none (omega arith)

or_assoc : (x y z : Bool) → ((x || y) || z) ≡ (x || (y || z))
or_assoc true y z = refl
or_assoc false y z = refl

or_false : (x : Bool) → (x || false) ≡ x
or_false true = refl
or_false false = refl

has-one : (xs : List Span) (s : Span) (l : ℕ) → has_line (lines (xs ++ s ∷ [])) l ≡ (has_line (lines xs) l || has_line (span_lines s) l)
has-one xs s l =
    ap (λ (ls : List ℕ). has_line ls l) (flat_map-append span_lines xs (s ∷ []))
    ∙ (has-append (lines xs) (span_lines s ++ []) l
    ∙ ap (λ (b : Bool). has_line (lines xs) l || b) (has-append (span_lines s) [] l ∙ or_false (has_line (span_lines s) l)))

pub joins_pushed : (next : Span) (ss : List Span) → AreMaximal ss → next.first ≤ next.last → bound 0 ss ≤ next.first → Joins next ss (ss ++ next ∷ [])
joins_pushed next ss h full low = record {
  maximal = maximal_from_Fits 0 (ss ++ next ∷ []) (Fits-append 0 ss (next ∷ []) (Fits-from_maximal ss h) (low, full, tt));
  rising = (let e = last_first-append ss next in omega (arith, e));
  members = λ l. has-one ss next l;
}

pub bound_last : (ss : List Span) (q : ℕ) → length ss ≡ q + 1 → bound 0 ss ≡ (get_or ss q none).last + 2
bound_last ss q h = ap (bound 0) (sym (take_all (q + 1) ss (omega arith))) ∙ bound-take ss q none (omega arith)

pub joins_joined : (next : Span) (ss : List Span) (q : ℕ) → length ss ≡ q + 1 → AreMaximal ss → last_first ss ≤ next.first → next.first ≤ next.last → next.first ≤ (get_or ss q none).last + 1 → Joins next ss (set ss q (record { first = (get_or ss q none).first; last = max (get_or ss q none).last next.last }))
joins_joined next ss q len h rising full meet =
    let xs : List Span = take q ss in
    let s : Span = get_or ss q none in
    let new : Span = record { first = s.first; last = max s.last next.last } in
    let split : ss ≡ xs ++ (s ∷ []) = split_last ss q len in
    let all : Fits 0 (xs ++ (s ∷ [])) = subst (Fits 0) split (Fits-from_maximal ss h) in
    let right = Fits-right 0 xs (s ∷ []) all in
    let begins : bound 0 xs ≤ s.first = right.0 in
    let ends : s.first ≤ s.last = right.1 in
    let tip : s.first ≤ next.first = (let e : last_first ss ≡ s.first = ap last_first split ∙ last_first-append xs s in omega arith) in
    let made : set ss q new ≡ xs ++ (new ∷ []) = set_split ss q new (omega arith) ∙ ap (λ (zs : List Span). xs ++ (new ∷ zs)) (drop_all (suc q) ss (omega arith)) in
    subst (Joins next ss) (sym made) (record {
      maximal = maximal_from_Fits 0 (xs ++ (new ∷ [])) (Fits-append 0 xs (new ∷ []) (Fits-left 0 xs (s ∷ []) all) (begins, omega arith, tt));
      rising = (let e = last_first-append xs new in omega (arith, e));
      members = λ l.
          has-one xs new l
          ∙ (ap (λ (b : Bool). has_line (lines xs) l || b) (has-both s next l ends full tip meet)
          ∙ (sym (or_assoc (has_line (lines xs) l) (has_line (span_lines s) l) (has_line (span_lines next) l))
          ∙ ap (λ (b : Bool). b || has_line (span_lines next) l) (sym (ap (λ (ss : List Span). has_line (lines ss) l) split ∙ has-one xs s l))));
    })

-- the same, at what was read of the last span
pub joins_read : (next : Span) (ss : List Span) (q m : ℕ) → length ss ≡ q + 1 → AreMaximal ss → last_first ss ≤ next.first → next.first ≤ next.last → (r s t : Span) → r ≡ get_or ss q r → s ≡ get_or ss q s → t ≡ get_or ss q t → next.first ≤ r.last + 1 → m ≡ max s.last next.last → Joins next ss (set ss q (record { first = t.first; last = m }))
joins_read next ss q m len h rising full r s t ris sis tis meet mis =
    let l : q < length ss = omega arith in
    let re : get_or ss q none ≡ r = get_or_default ss q none r l ∙ sym ris in
    let se : get_or ss q none ≡ s = get_or_default ss q none s l ∙ sym sis in
    let te : get_or ss q none ≡ t = get_or_default ss q none t l ∙ sym tis in
    let meet : next.first ≤ (get_or ss q none).last + 1 = subst (λ (x : Span). next.first ≤ x.last + 1) (sym re) meet in
    let mis : max (get_or ss q none).last next.last ≡ m = ap (λ (x : Span). max x.last next.last) se ∙ sym mis in
    subst (λ (x : Span). Joins next ss (set ss q (record { first = x.first; last = m }))) te
    (subst (λ (m : ℕ). Joins next ss (set ss q (record { first = (get_or ss q none).first; last = m }))) mis (joins_joined next ss q len h rising full meet))

pub bound_empty : (ss : List Span) → length ss ≡ 0 → bound 0 ss ≡ 0
bound_empty [] h = refl
bound_empty (s ∷ ss) h = absurd (omega arith)

pub bound_read : (ss : List Span) (q : ℕ) → length ss ≡ q + 1 → (r : Span) → r ≡ get_or ss q r → bound 0 ss ≡ r.last + 2
bound_read ss q len r ris =
    bound_last ss q len ∙ ap (λ (x : Span). x.last + 2) (get_or_default ss q none r (omega arith) ∙ sym ris)
