-- The platforms of a set, found one after another; and the rows of a setmap.
use Rattle.std.proofs.Common.{◌≡◌, ℕ, ◌+◌, ◌-◌, ◌^◌, ◌<◌, ◌≤◌, Bool, true, false, ◌||◌, cond, eqb, leb, List, [], ◌∷◌, ◌++◌, length, map, filter, get_or, refl, sym, ap, ◌∙◌, inl, inr, zero, suc, arith}
use Rattle.std.specs.List.{range_with_len}
use Rattle.std.proofs.lemmas.Bool.{cases_Bool, cond-true, cond-false, eq-eqb, ne_eqb, or_left, or_from}
use Rattle.std.proofs.lemmas.List.{append-nil, append_assoc, map-id, map-append, length-map, get_or-map, get_or_default}
use Rattle.std.proofs.lemmas.List.FromFn.{map-range_with_len_more}
use Rattle.std.proofs.lemmas.List.Elements.{filter-append}
use Rattle.std.proofs.lemmas.List.Sums.{get_or-le-sum_by}
use Rattle.cb_lines.specs.Lines.{has_line}
use Rattle.cb_sets.specs.declared.platform_set.PlatformSet.{PlatformSet}
use Rattle.cb_sets.specs.declared.row.Row.{Row}
use Rattle.cb_sets.specs.Sets.{members_below, members}
use Rattle.cb_sets.specs.Tallies.{SetLines, lines_in, lines_where, is_any}
use Rattle.cb_sets.specs.inner.Rows.{seen}
use Rattle.cb_reports.specs.Inner.{separator}
use Rattle.cb_reports.specs.Words.{listed}
use Rattle.cb_reports.proofs.Growing.{listed_push}

range_more : (n : ℕ) → range_with_len 1 (n + 1) ≡ range_with_len 1 n ++ (n + 1) ∷ []
range_more n =
    let e : 1 + n ≡ n + 1 = omega arith in
    sym (map-id (range_with_len 1 (n + 1))) ∙ map-range_with_len_more (λ k. k) 1 n (n + 1) e ∙ ap (λ r. r ++ (n + 1) ∷ []) (map-id (range_with_len 1 n))

pub filter_yes : (p : ℕ → Bool) (n : ℕ) → p (n + 1) ≡ true → filter p (range_with_len 1 (n + 1)) ≡ filter p (range_with_len 1 n) ++ (n + 1) ∷ []
filter_yes p n h =
    ap (filter p) (range_more n) ∙ filter-append p (range_with_len 1 n) ((n + 1) ∷ [])
    ∙ ap (λ r. filter p (range_with_len 1 n) ++ r) (cond-true (p (n + 1)) ((n + 1) ∷ []) [] h)

pub filter_no : (p : ℕ → Bool) (n : ℕ) → p (n + 1) ≡ false → filter p (range_with_len 1 (n + 1)) ≡ filter p (range_with_len 1 n)
filter_no p n h =
    ap (filter p) (range_more n) ∙ filter-append p (range_with_len 1 n) ((n + 1) ∷ [])
    ∙ (ap (λ r. filter p (range_with_len 1 n) ++ r) (cond-false (p (n + 1)) ((n + 1) ∷ []) [] h) ∙ append-nil (filter p (range_with_len 1 n)))

-- a list of names that grows by a name
pub names_grow : (f : ℕ → List ℕ) (start old between text : List ℕ) (ps : List ℕ) (n x : ℕ) → old ≡ start ++ listed (map f ps) → n ≡ length ps
    → between ≡ old ++ separator n → text ≡ between ++ f x → text ≡ start ++ listed (map f (ps ++ x ∷ []))
names_grow f start old between text ps n x so_far count adds more =
    let len : n ≡ length (map f ps) = count ∙ sym (length-map ps f) in
    more ∙ ap (λ r. r ++ f x) (adds ∙ ap (λ r. r ++ separator n) so_far) ∙ append_assoc (start ++ listed (map f ps)) (separator n) (f x)
    ∙ append_assoc start (listed (map f ps)) (separator n ++ f x)
    ∙ ap (λ k. start ++ (listed (map f ps) ++ (separator k ++ f x))) len
    ∙ ap (λ r. start ++ r) (sym (ap listed (map-append f ps (x ∷ [])) ∙ listed_push (map f ps) (f x)))

filter-same : (p q : ℕ → Bool) (a n : ℕ) → ((x : ℕ) → a ≤ x → p x ≡ q x) → filter p (range_with_len a n) ≡ filter q (range_with_len a n)
filter-same p q a zero h = refl
filter-same p q a (suc n) h =
    ap (λ (t : Bool). cond t (a ∷ filter p (range_with_len (a + 1) n)) (filter p (range_with_len (a + 1) n))) (h a (omega arith))
    ∙ ap (λ r. cond (q a) (a ∷ r) r) (filter-same p q (a + 1) n (λ x le. h x (omega arith)))

-- no member of the lowest bits is less than the greatest platform of these bits
low : (k bits x : ℕ) → x + k < 33 → has_line (members_below k bits) x ≡ false
unfolding members_below
low zero bits x h = refl
low (suc k) bits x h =
    let here : eqb (32 - k) x ≡ false = ne_eqb (32 - k) x (λ e. omega arith) in
    elim (cases_Bool (leb (2 ^ k) bits)) [
      | inl t ↦ ap (λ ms. has_line ms x) (cond-true (leb (2 ^ k) bits) ((32 - k) ∷ members_below k (bits - 2 ^ k)) (members_below k bits) t)
          ∙ or_from (eqb (32 - k) x) (has_line (members_below k (bits - 2 ^ k)) x) here (low k (bits - 2 ^ k) x (omega arith))
      | inr f ↦ ap (λ ms. has_line ms x) (cond-false (leb (2 ^ k) bits) ((32 - k) ∷ members_below k (bits - 2 ^ k)) (members_below k bits) f) ∙ low k bits x (omega arith)
    ]

below : (k bits a : ℕ) → a + k ≡ 33 → filter (has_line (members_below k bits)) (range_with_len a k) ≡ members_below k bits
unfolding members_below
below zero bits a h = refl
below (suc k) bits a h =
    let e : 32 - k ≡ a = omega arith in
    let rest = range_with_len (a + 1) k in
    elim (cases_Bool (leb (2 ^ k) bits)) [
      | inl t ↦ (
          let ms = members_below k (bits - 2 ^ k) in
          let is : members_below (suc k) bits ≡ (32 - k) ∷ ms = cond-true (leb (2 ^ k) bits) ((32 - k) ∷ ms) (members_below k bits) t in
          let p : ℕ → Bool = has_line ((32 - k) ∷ ms) in
          let same = filter-same p (has_line ms) (a + 1) k (λ x le. ap (λ (u : Bool). u || has_line ms x) (ne_eqb (32 - k) x (λ f. omega arith))) in
          ap (λ ns. filter (has_line ns) (range_with_len a (suc k))) is
          ∙ cond-true (p a) (a ∷ filter p rest) (filter p rest) (or_left (eqb (32 - k) a) (has_line ms a) (eq-eqb (32 - k) a e))
          ∙ ap (λ r. a ∷ r) (same ∙ below k (bits - 2 ^ k) (a + 1) (omega arith)) ∙ ap (λ y. y ∷ ms) (sym e) ∙ sym is)
      | inr f ↦ (
          let ms = members_below k bits in
          let is : members_below (suc k) bits ≡ ms = cond-false (leb (2 ^ k) bits) ((32 - k) ∷ members_below k (bits - 2 ^ k)) ms f in
          let p : ℕ → Bool = has_line ms in
          ap (λ ns. filter (has_line ns) (range_with_len a (suc k))) is
          ∙ cond-false (p a) (a ∷ filter p rest) (filter p rest) (low k bits a (omega arith))
          ∙ below k bits (a + 1) (omega arith) ∙ sym is)
    ]

pub all_members : (set : PlatformSet) (n : ℕ) → n ≡ 32 → filter (has_line (members set)) (range_with_len 1 n) ≡ members set
unfolding members
all_members set n e = ap (λ m. filter (has_line (members set)) (range_with_len 1 m)) e ∙ below 32 _ 1 refl

pub row_within : (rows : List Row) (i : ℕ) (x : Row) → i < length rows → x ≡ get_or rows i x → x.lines ≤ lines_where is_any (map seen rows)
row_within rows i x h e =
    let d : SetLines = seen x in
    let len : length (map seen rows) ≡ length rows = length-map rows seen in
    let part = get_or-le-sum_by (lines_in is_any) (map seen rows) i d (omega arith) in
    let same : get_or (map seen rows) i d ≡ seen x = get_or-map seen rows i x d h ∙ ap seen (sym e) in
    let lines : lines_in is_any (get_or (map seen rows) i d) ≡ x.lines = ap (lines_in is_any) same in
    omega (arith, part, lines)

pub row_at : (rows : List Row) (i : ℕ) → i < length rows → (d : Row) → (get_or rows i d).lines ≤ lines_where is_any (map seen rows)
row_at rows i h d = row_within rows i (get_or rows i d) h (get_or_default rows i d (get_or rows i d) h)
