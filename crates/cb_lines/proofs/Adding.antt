-- Spans after one line more: a span of its own, a longer span, or two spans made one.
use Rattle.std.proofs.Common.{◌≡◌, ℕ, ◌+◌, ◌-◌, ◌<◌, ◌≤◌, List, [], ◌∷◌, ◌++◌, length, get_or, set, take, drop, sym, ap, ◌∙◌, subst, suc, zero, inl, inr, arith, append_assoc}
use Rattle.std.proofs.lemmas.Bool.{cases_lt}
use Rattle.std.specs.List.{insert, remove, range_with_len}
use Rattle.std.proofs.lemmas.List.{take-append-drop, drop_more, drop_all, get_or_default, set_split, take_more_set, drop-set-lt}
use Rattle.std.proofs.lemmas.List.Concat.{flat_map-append}
use Rattle.cb_lines.specs.declared.line_set.Span.{Span}
use Rattle.cb_lines.specs.Lines.{with_line, span_lines, AreMaximal}
use Rattle.cb_lines.proofs.SpanLists.{lines, Fits, bound, Fits-from_maximal, maximal_from_Fits, Fits-left, Fits-right, Fits-append, bound-take, with_line-before, with_line-behind, with_line-past, with_line-among, range-append, span_lines-first}

-- what adding a line to spans leaves
pub record Added (line : ℕ) (old new : List Span) : Type 0 where
  pub maximal : AreMaximal new
  pub numbers : lines new ≡ with_line line (lines old)

-- spans that end before the line stay
pub kept : (line : ℕ) (xs ys zs : List Span) → Fits 0 (xs ++ ys) → bound 0 xs ≤ line + 1 → Fits (bound 0 xs) zs → lines zs ≡ with_line line (lines ys) → Added line (xs ++ ys) (xs ++ zs)
kept line xs ys zs h le fits numbers =
    record {
      maximal = maximal_from_Fits 0 (xs ++ zs) (Fits-append 0 xs zs (Fits-left 0 xs ys h) fits);
      numbers =
          flat_map-append span_lines xs zs
          ∙ (ap (λ (ls : List ℕ). lines xs ++ ls) numbers
          ∙ (sym (with_line-behind line 0 xs (lines ys) (Fits-left 0 xs ys h) le)
          ∙ ap (with_line line) (sym (flat_map-append span_lines xs ys))));
    }

-- the numbers of spans from their first one on
numbers-first : (a b : ℕ) (ys : List Span) → a ≤ b → lines (record { first = a; last = b } ∷ ys) ≡ a ∷ (range_with_len (a + 1) (b - a) ++ lines ys)
numbers-first a b ys le = ap (λ (ls : List ℕ). ls ++ lines ys) (span_lines-first (record { first = a; last = b }) le)

pub alone : (line low : ℕ) (ys : List Span) → Fits (line + 2) ys → lines (record { first = line; last = line } ∷ ys) ≡ with_line line (lines ys)
alone line low ys h =
    let e : line - line ≡ 0 = omega arith in
    numbers-first line line ys (omega arith) ∙ (ap (λ (n : ℕ). line ∷ (range_with_len (line + 1) n ++ lines ys)) e ∙ sym (with_line-before line (line + 2) ys h (omega arith)))

longer_front : (line : ℕ) (y : Span) (ys : List Span) → Fits (line + 1) (y ∷ ys) → y.first ≡ line + 1 → lines (record { first = line; last = y.last } ∷ ys) ≡ with_line line (lines (y ∷ ys))
longer_front line y ys h e =
    let ends : y.first ≤ y.last = h.1 in
    let n : y.last - line ≡ y.last + 1 - y.first = omega arith in
    numbers-first line y.last ys (omega arith)
    ∙ (ap (λ (n : ℕ). line ∷ (range_with_len (line + 1) n ++ lines ys)) n
    ∙ (ap (λ (a : ℕ). line ∷ (range_with_len a (y.last + 1 - y.first) ++ lines ys)) (sym e)
    ∙ sym (with_line-before line (line + 1) (y ∷ ys) h (omega arith))))

-- the numbers up to the line
ended : (line : ℕ) (x : Span) → x.first ≤ x.last → line ≡ x.last + 1 → (b : ℕ) → line ≤ b → (ls : List ℕ) → range_with_len x.first (b + 1 - x.first) ++ ls ≡ span_lines x ++ (line ∷ (range_with_len (line + 1) (b - line) ++ ls))
ended line x h e b le ls =
    let n : b + 1 - x.first ≡ (x.last + 1 - x.first) + suc (b - line) = omega arith in
    let a : x.first + (x.last + 1 - x.first) ≡ line = omega arith in
    ap (λ (n : ℕ). range_with_len x.first n ++ ls) n
    ∙ (ap (λ (ms : List ℕ). ms ++ ls) (range-append x.first (x.last + 1 - x.first) (suc (b - line)))
    ∙ (ap (λ (a : ℕ). (span_lines x ++ range_with_len a (suc (b - line))) ++ ls) a
    ∙ append_assoc (span_lines x) (range_with_len line (suc (b - line))) ls))

longer_back : (line : ℕ) (x : Span) (ys : List Span) → x.first ≤ x.last → Fits (line + 2) ys → line ≡ x.last + 1 → lines (record { first = x.first; last = line } ∷ ys) ≡ with_line line (lines (x ∷ ys))
longer_back line x ys ends h e =
    let n : line - line ≡ 0 = omega arith in
    ended line x ends e line (omega arith) (lines ys)
    ∙ (ap (λ (n : ℕ). span_lines x ++ (line ∷ (range_with_len (line + 1) n ++ lines ys))) n
    ∙ (ap (λ (ls : List ℕ). span_lines x ++ ls) (sym (with_line-before line (line + 2) ys h (omega arith)))
    ∙ sym (with_line-past line x.first (x.last + 1 - x.first) (lines ys) (omega arith))))

joined : (line : ℕ) (x y : Span) (ys : List Span) → x.first ≤ x.last → Fits (line + 1) (y ∷ ys) → line ≡ x.last + 1 → y.first ≡ line + 1 → lines (record { first = x.first; last = y.last } ∷ ys) ≡ with_line line (lines (x ∷ y ∷ ys))
joined line x y ys ends h e f =
    let further : y.first ≤ y.last = h.1 in
    let n : y.last - line ≡ y.last + 1 - y.first = omega arith in
    ended line x ends e y.last (omega arith) (lines ys)
    ∙ (ap (λ (n : ℕ). span_lines x ++ (line ∷ (range_with_len (line + 1) n ++ lines ys))) n
    ∙ (ap (λ (a : ℕ). span_lines x ++ (line ∷ (range_with_len a (y.last + 1 - y.first) ++ lines ys))) (sym f)
    ∙ (ap (λ (ls : List ℕ). span_lines x ++ ls) (sym (with_line-before line (line + 1) (y ∷ ys) h (omega arith)))
    ∙ sym (with_line-past line x.first (x.last + 1 - x.first) (lines (y ∷ ys)) (omega arith)))))

-- no span
abbrev pub none : Span
none = record { first = 0; last = 0 }

-- where a line goes: behind the spans that end before it, and before one that begins behind it
pub record Place (line : ℕ) (ss : List Span) (p : ℕ) : Type 0 where
  pub maximal : AreMaximal ss
  pub within : p ≤ length ss
  pub before : (k : ℕ) (d : Span) → k < p → (get_or ss k d).last < line
  pub behind : p < length ss → line < (get_or ss p none).first

split_one : (ss : List Span) (q : ℕ) → q < length ss → ss ≡ take q ss ++ (get_or ss q none ∷ drop (q + 1) ss)
split_one ss q h = sym (take-append-drop q ss) ∙ ap (λ (ls : List Span). take q ss ++ ls) (drop_more ss q none h)

-- the bound behind the spans before a place
bound_at : (line : ℕ) (ss : List Span) (p : ℕ) → Place line ss p → bound 0 (take p ss) ≤ line + 1
bound_at line ss zero place = omega arith
bound_at line ss (suc q) place =
    let l : q < length ss = (let w : suc q ≤ length ss = place.within in omega arith) in
    let e : q + 1 ≡ suc q = omega arith in
    let b : bound 0 (take (suc q) ss) ≡ (get_or ss q none).last + 2 = subst (λ (n : ℕ). bound 0 (take n ss) ≡ (get_or ss q none).last + 2) e (bound-take ss q none l) in
    omega (arith, place.before q none (omega arith))

bound_apart : (line : ℕ) (ss : List Span) (p : ℕ) → Place line ss p → ((0 < p) × (line ≡ (get_or ss (p - 1) none).last + 1) → ⊥) → bound 0 (take p ss) ≤ line
bound_apart line ss zero place no_join = omega arith
bound_apart line ss (suc q) place no_join =
    let l : q < length ss = (let w : suc q ≤ length ss = place.within in omega arith) in
    let e : q + 1 ≡ suc q = omega arith in
    let same : suc q - 1 ≡ q = omega arith in
    let b : bound 0 (take (suc q) ss) ≡ (get_or ss q none).last + 2 = subst (λ (n : ℕ). bound 0 (take n ss) ≡ (get_or ss q none).last + 2) e (bound-take ss q none l) in
    let apart : line ≡ (get_or ss q none).last + 1 → ⊥ = λ f. no_join (omega arith, subst (λ (n : ℕ). line ≡ (get_or ss n none).last + 1) (sym same) f) in
    omega (arith, place.before q none (omega arith), apart)

-- the spans from a place on begin behind the line
fits_at : (line : ℕ) (ss : List Span) (p : ℕ) → Place line ss p → Fits (line + 1) (drop p ss)
fits_at line ss p place =
    elim (cases_lt p (length ss)) [
      | inl l ↦ (
          let all : Fits 0 (take p ss ++ (get_or ss p none ∷ drop (p + 1) ss)) = subst (Fits 0) (split_one ss p l) (Fits-from_maximal ss place.maximal) in
          let right = Fits-right 0 (take p ss) (get_or ss p none ∷ drop (p + 1) ss) all in
          rw (drop_more ss p none l) (omega (arith, place.behind l), right.1, right.2)
          )
      | inr ge ↦ rw (drop_all p ss ge) tt
    ]

fits_apart : (line : ℕ) (ss : List Span) (p : ℕ) → Place line ss p → ((p < length ss) × ((get_or ss p none).first ≡ line + 1) → ⊥) → Fits (line + 2) (drop p ss)
fits_apart line ss p place no_join =
    elim (cases_lt p (length ss)) [
      | inl l ↦ (
          let all : Fits 0 (take p ss ++ (get_or ss p none ∷ drop (p + 1) ss)) = subst (Fits 0) (split_one ss p l) (Fits-from_maximal ss place.maximal) in
          let right = Fits-right 0 (take p ss) (get_or ss p none ∷ drop (p + 1) ss) all in
          let apart : (get_or ss p none).first ≡ line + 1 → ⊥ = λ f. no_join (l, f) in
          rw (drop_more ss p none l) (omega (arith, place.behind l, apart), right.1, right.2)
          )
      | inr ge ↦ rw (drop_all p ss ge) tt
    ]

pub added_alone : (line : ℕ) (ss : List Span) (p : ℕ) → Place line ss p → ((0 < p) × (line ≡ (get_or ss (p - 1) none).last + 1) → ⊥) → ((p < length ss) × ((get_or ss p none).first ≡ line + 1) → ⊥) → Added line ss (insert ss p (record { first = line; last = line }))
added_alone line ss p place no_front no_back =
    let new : Span = record { first = line; last = line } in
    let all : Fits 0 (take p ss ++ drop p ss) = subst (Fits 0) (sym (take-append-drop p ss)) (Fits-from_maximal ss place.maximal) in
    let right : Fits (line + 2) (drop p ss) = fits_apart line ss p place no_back in
    subst (λ (old : List Span). Added line old (take p ss ++ (new ∷ drop p ss))) (take-append-drop p ss)
    (kept line (take p ss) (drop p ss) (new ∷ drop p ss) all (bound_at line ss p place) (bound_apart line ss p place no_front, omega arith, right) (alone line 0 (drop p ss) right))

pub added_front : (line : ℕ) (ss : List Span) (p : ℕ) → Place line ss p → ((0 < p) × (line ≡ (get_or ss (p - 1) none).last + 1) → ⊥) → p < length ss → (get_or ss p none).first ≡ line + 1 → (y : Span) → y ≡ get_or ss p y → Added line ss (set ss p (record { first = line; last = y.last }))
added_front line ss p place no_front l e y is =
    let y_is : get_or ss p none ≡ y = get_or_default ss p none y l ∙ sym is in
    let split : ss ≡ take p ss ++ (y ∷ drop (p + 1) ss) = subst (λ (y : Span). ss ≡ take p ss ++ (y ∷ drop (p + 1) ss)) y_is (split_one ss p l) in
    let new : Span = record { first = line; last = y.last } in
    let all : Fits 0 (take p ss ++ (y ∷ drop (p + 1) ss)) = subst (Fits 0) split (Fits-from_maximal ss place.maximal) in
    let right = Fits-right 0 (take p ss) (y ∷ drop (p + 1) ss) all in
    let e : y.first ≡ line + 1 = ap (λ (s : Span). s.first) (sym y_is) ∙ e in
    let made : set ss p new ≡ take p ss ++ (new ∷ drop (p + 1) ss) = set_split ss p new l ∙ (let n : suc p ≡ p + 1 = omega arith in ap (λ (n : ℕ). take p ss ++ (new ∷ drop n ss)) n) in
    let ends : y.first ≤ y.last = right.1 in
    subst (λ (now : List Span). Added line ss now) (sym made)
    (subst (λ (old : List Span). Added line old (take p ss ++ (new ∷ drop (p + 1) ss))) (sym split)
    (kept line (take p ss) (y ∷ drop (p + 1) ss) (new ∷ drop (p + 1) ss) all (bound_at line ss p place) (bound_apart line ss p place no_front, omega arith, right.2)
    (longer_front line y (drop (p + 1) ss) (omega arith, right.1, right.2) e)))

pub added_back : (line : ℕ) (ss : List Span) (p : ℕ) → Place line ss p → 0 < p → line ≡ (get_or ss (p - 1) none).last + 1 → ((p < length ss) × ((get_or ss p none).first ≡ line + 1) → ⊥) → (x : Span) → x ≡ get_or ss (p - 1) x → Added line ss (set ss (p - 1) (record { first = x.first; last = line }))
added_back line ss zero place h e no_back x is = absurd (omega arith)
added_back line ss (suc q) place h e no_back x is =
    let same : suc q - 1 ≡ q = omega arith in
    let next : suc q ≡ q + 1 = omega arith in
    let l : q < length ss = (let w : suc q ≤ length ss = place.within in omega arith) in
    let e : line ≡ (get_or ss q none).last + 1 = subst (λ (n : ℕ). line ≡ (get_or ss n none).last + 1) same e in
    let is : x ≡ get_or ss q x = subst (λ (n : ℕ). x ≡ get_or ss n x) same is in
    let x_is : get_or ss q none ≡ x = get_or_default ss q none x l ∙ sym is in
    let e : line ≡ x.last + 1 = subst (λ (s : Span). line ≡ s.last + 1) x_is e in
    let ys : List Span = drop (q + 1) ss in
    let split : ss ≡ take q ss ++ (x ∷ ys) = subst (λ (x : Span). ss ≡ take q ss ++ (x ∷ ys)) x_is (split_one ss q l) in
    let new : Span = record { first = x.first; last = line } in
    let all : Fits 0 (take q ss ++ (x ∷ ys)) = subst (Fits 0) split (Fits-from_maximal ss place.maximal) in
    let right = Fits-right 0 (take q ss) (x ∷ ys) all in
    let begins : bound 0 (take q ss) ≤ x.first = right.0 in
    let ends : x.first ≤ x.last = right.1 in
    let rest : Fits (line + 2) ys = subst (λ (n : ℕ). Fits (line + 2) (drop n ss)) next (fits_apart line ss (suc q) place no_back) in
    let made : set ss (suc q - 1) new ≡ take q ss ++ (new ∷ ys) = ap (λ (n : ℕ). set ss n new) same ∙ (set_split ss q new l ∙ ap (λ (n : ℕ). take q ss ++ (new ∷ drop n ss)) next) in
    subst (λ (now : List Span). Added line ss now) (sym made)
    (subst (λ (old : List Span). Added line old (take q ss ++ (new ∷ ys))) (sym split)
    (kept line (take q ss) (x ∷ ys) (new ∷ ys) all (omega arith) (begins, omega arith, rest) (longer_back line x ys ends rest e)))

-- the spans after one is made longer and the one behind it taken out
removed : (ss : List Span) (q : ℕ) (new : Span) → q < length ss → remove (set ss (suc q - 1) new) (suc q) ≡ take q ss ++ (new ∷ drop (suc q + 1) ss)
removed ss q new l =
    let same : suc q - 1 ≡ q = omega arith in
    let next : suc q ≡ q + 1 = omega arith in
    let further : suc (suc q) ≡ suc q + 1 = omega arith in
    let front : take (suc q) (set ss q new) ≡ take q ss ++ (new ∷ []) = subst (λ (n : ℕ). take n (set ss q new) ≡ take q ss ++ (new ∷ [])) (sym next) (take_more_set ss q new l) in
    let back : drop (suc (suc q)) (set ss q new) ≡ drop (suc q + 1) ss = drop-set-lt (suc (suc q)) ss q new (omega arith) ∙ ap (λ (n : ℕ). drop n ss) further in
    ap (λ (n : ℕ). remove (set ss n new) (suc q)) same
    ∙ (ap (λ (xs : List Span). xs ++ drop (suc (suc q)) (set ss q new)) front
    ∙ (append_assoc (take q ss) (new ∷ []) (drop (suc (suc q)) (set ss q new))
    ∙ ap (λ (zs : List Span). take q ss ++ (new ∷ zs)) back))

pub added_joined : (line : ℕ) (ss : List Span) (p : ℕ) → Place line ss p → 0 < p → line ≡ (get_or ss (p - 1) none).last + 1 → p < length ss → (get_or ss p none).first ≡ line + 1 → (x y : Span) → x ≡ get_or ss (p - 1) x → y ≡ get_or ss p y → Added line ss (remove (set ss (p - 1) (record { first = x.first; last = y.last })) p)
added_joined line ss zero place h e pl f x y xis yis = absurd (omega arith)
added_joined line ss (suc q) place h e pl f x y xis yis =
    let same : suc q - 1 ≡ q = omega arith in
    let next : suc q ≡ q + 1 = omega arith in
    let l : q < length ss = omega arith in
    let e : line ≡ (get_or ss q none).last + 1 = subst (λ (n : ℕ). line ≡ (get_or ss n none).last + 1) same e in
    let xis : x ≡ get_or ss q x = subst (λ (n : ℕ). x ≡ get_or ss n x) same xis in
    let x_is : get_or ss q none ≡ x = get_or_default ss q none x l ∙ sym xis in
    let y_is : get_or ss (suc q) none ≡ y = get_or_default ss (suc q) none y pl ∙ sym yis in
    let e : line ≡ x.last + 1 = subst (λ (s : Span). line ≡ s.last + 1) x_is e in
    let f : y.first ≡ line + 1 = subst (λ (s : Span). s.first ≡ line + 1) y_is f in
    let zs : List Span = drop (suc q + 1) ss in
    let tail : drop (q + 1) ss ≡ y ∷ zs = subst (λ (n : ℕ). drop n ss ≡ y ∷ zs) next (subst (λ (y : Span). drop (suc q) ss ≡ y ∷ zs) y_is (drop_more ss (suc q) none pl)) in
    let split : ss ≡ take q ss ++ (x ∷ y ∷ zs) = subst (λ (ys : List Span). ss ≡ take q ss ++ (x ∷ ys)) tail (subst (λ (x : Span). ss ≡ take q ss ++ (x ∷ drop (q + 1) ss)) x_is (split_one ss q l)) in
    let new : Span = record { first = x.first; last = y.last } in
    let all : Fits 0 (take q ss ++ (x ∷ y ∷ zs)) = subst (Fits 0) split (Fits-from_maximal ss place.maximal) in
    let right = Fits-right 0 (take q ss) (x ∷ y ∷ zs) all in
    let begins : bound 0 (take q ss) ≤ x.first = right.0 in
    let ends : x.first ≤ x.last = right.1 in
    let behind : y.first ≤ y.last = right.2.1 in
    let made : remove (set ss (suc q - 1) new) (suc q) ≡ take q ss ++ (new ∷ zs) = removed ss q new l in
    subst (λ (now : List Span). Added line ss now) (sym made)
    (subst (λ (old : List Span). Added line old (take q ss ++ (new ∷ zs))) (sym split)
    (kept line (take q ss) (x ∷ y ∷ zs) (new ∷ zs) all (omega arith) (begins, omega arith, right.2.2) (joined line x y zs ends (omega arith, behind, right.2.2) e f)))

-- a line that a span holds
pub already : (line : ℕ) (ss : List Span) (p : ℕ) → AreMaximal ss → p < length ss → (get_or ss p none).first ≤ line → line ≤ (get_or ss p none).last → lines ss ≡ with_line line (lines ss)
already line ss p maximal l begins ends =
    let xs : List Span = take p ss in
    let y : Span = get_or ss p none in
    let zs : List Span = drop (p + 1) ss in
    let split : ss ≡ xs ++ (y ∷ zs) = split_one ss p l in
    let all : Fits 0 (xs ++ (y ∷ zs)) = subst (Fits 0) split (Fits-from_maximal ss maximal) in
    let right = Fits-right 0 xs (y ∷ zs) all in
    let low : bound 0 xs ≤ y.first = right.0 in
    subst (λ (ss : List Span). lines ss ≡ with_line line (lines ss)) (sym split)
    (flat_map-append span_lines xs (y ∷ zs)
    ∙ (ap (λ (ls : List ℕ). lines xs ++ ls) (sym (with_line-among line y.first (y.last + 1 - y.first) (lines zs) begins (omega arith)))
    ∙ (sym (with_line-behind line 0 xs (lines (y ∷ zs)) (Fits-left 0 xs (y ∷ zs) all) (omega arith))
    ∙ ap (with_line line) (sym (flat_map-append span_lines xs (y ∷ zs))))))

-- the place from what a search of the spans answers
pub place_of : (line : ℕ) (held ss : List Span) (p : ℕ) → AreMaximal ss → held ≡ ss → p ≤ length held → ((k : ℕ) (d : Span) → k < p → (get_or held k d).last < line) → ((p < length held) × ((get_or held p none).first ≤ line) → ⊥) → Place line ss p
place_of line held ss p maximal e within before no_begin =
    subst (λ (ss : List Span). Place line ss p) e (record {
      maximal = subst AreMaximal (sym e) maximal;
      within = within;
      before = before;
      behind = λ l. elim (cases_lt line (get_or held p none).first) [ inl lt ↦ lt | inr ge ↦ absurd (no_begin (l, ge)) ];
    })
