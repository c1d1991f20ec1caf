-- Lines added to sets, in any order.
use Rattle.std.proofs.Common.{◌≡◌, ℕ, ◌<◌, List, [], ◌∷◌, ◌++◌, eq-eqb, refl, sym, ap, ◌∙◌, ⊎_elim, arith}
use Rattle.std.proofs.lemmas.Bool.{cases_order, lt-ltb, le-ltb, ne_eqb}
use Rattle.cb_lines.specs.declared.mark.Mark.{Mark}
use Rattle.cb_lines.specs.Lines.{with_line, with_lines, lines_of, union_of}

-- a list with one more number, by its first one
pub with-before : (line l : ℕ) (ls : List ℕ) → line < l → with_line line (l ∷ ls) ≡ line ∷ l ∷ ls
with-before line l ls h = rw (lt-ltb line l h) refl

pub with-same : (line l : ℕ) (ls : List ℕ) → line ≡ l → with_line line (l ∷ ls) ≡ l ∷ ls
with-same line l ls h = rw (le-ltb line l (omega arith), eq-eqb line l h) refl

pub with-behind : (line l : ℕ) (ls : List ℕ) → l < line → with_line line (l ∷ ls) ≡ l ∷ with_line line ls
with-behind line l ls h = rw (le-ltb line l (omega arith), ne_eqb line l (λ e. omega arith)) refl

-- two numbers, one after the other
commute_below : (a b : ℕ) (s : List ℕ) → a < b → with_line a (with_line b s) ≡ with_line b (with_line a s)
commute_below a b [] lt = with-before a b [] lt ∙ sym (with-behind b a [] lt)
commute_below a b (x ∷ xs) lt =
    ⊎_elim
    (λ (e : b ≡ x).
    let below : a < x = omega arith in
    (ap (with_line a) (with-same b x xs e) ∙ with-before a x xs below)
    ∙ sym (ap (with_line b) (with-before a x xs below) ∙ (with-behind b a (x ∷ xs) lt ∙ ap (λ l. a ∷ l) (with-same b x xs e))))
    (λ d.
    ⊎_elim
    (λ (h : b < x).
    let below : a < x = omega arith in
    (ap (with_line a) (with-before b x xs h) ∙ with-before a b (x ∷ xs) lt)
    ∙ sym (ap (with_line b) (with-before a x xs below) ∙ (with-behind b a (x ∷ xs) lt ∙ ap (λ l. a ∷ l) (with-before b x xs h))))
    (λ (h : x < b).
    ⊎_elim
    (λ (e : a ≡ x).
    (ap (with_line a) (with-behind b x xs h) ∙ with-same a x (with_line b xs) e)
    ∙ sym (ap (with_line b) (with-same a x xs e) ∙ with-behind b x xs h))
    (λ c.
    ⊎_elim
    (λ (below : a < x).
    (ap (with_line a) (with-behind b x xs h) ∙ with-before a x (with_line b xs) below)
    ∙ sym (ap (with_line b) (with-before a x xs below) ∙ (with-behind b a (x ∷ xs) lt ∙ ap (λ l. a ∷ l) (with-behind b x xs h))))
    (λ (above : x < a).
    (ap (with_line a) (with-behind b x xs h) ∙ with-behind a x (with_line b xs) above)
    ∙ (ap (λ l. x ∷ l) (commute_below a b xs lt)
    ∙ sym (ap (with_line b) (with-behind a x xs above) ∙ with-behind b x (with_line a xs) h)))
    c)
    (cases_order a x))
    d)
    (cases_order b x)

commute : (a b : ℕ) (s : List ℕ) → with_line a (with_line b s) ≡ with_line b (with_line a s)
commute a b s =
    ⊎_elim (λ (e : a ≡ b). ap (λ n. with_line n (with_line b s)) e ∙ sym (ap (λ n. with_line b (with_line n s)) e))
    (λ d. ⊎_elim (commute_below a b s) (λ h. sym (commute_below b a s h)) d) (cases_order a b)

twice : (a : ℕ) (s : List ℕ) → with_line a (with_line a s) ≡ with_line a s
twice a [] = with-same a a [] refl
twice a (x ∷ xs) =
    ⊎_elim (λ (e : a ≡ x). ap (with_line a) (with-same a x xs e))
    (λ d.
    ⊎_elim (λ (h : a < x). ap (with_line a) (with-before a x xs h) ∙ (with-same a a (x ∷ xs) refl ∙ sym (with-before a x xs h)))
    (λ (h : x < a). ap (with_line a) (with-behind a x xs h) ∙ (with-behind a x (with_line a xs) h ∙ (ap (λ l. x ∷ l) (twice a xs) ∙ sym (with-behind a x xs h)))) d)
    (cases_order a x)

-- a number may be added to either set of a union
union_with : (s : List ℕ) (m : ℕ) (t : List ℕ) → union_of (with_line m s) t ≡ union_of s (with_line m t)
union_with [] m t = refl
union_with (l ∷ ls) m t =
    ⊎_elim
    (λ (e : m ≡ l).
    ap (λ xs. union_of xs t) (with-same m l ls e) ∙ ap (union_of ls) (sym (ap (λ n. with_line l (with_line n t)) e ∙ twice l t)))
    (λ d.
    ⊎_elim (λ (h : m < l). ap (λ xs. union_of xs t) (with-before m l ls h))
    (λ (h : l < m). ap (λ xs. union_of xs t) (with-behind m l ls h) ∙ (union_with ls m (with_line l t) ∙ ap (union_of ls) (commute m l t))) d)
    (cases_order m l)

union_past : (s : List ℕ) (m : ℕ) (t : List ℕ) → union_of s (with_line m t) ≡ with_line m (union_of s t)
union_past [] m t = refl
union_past (l ∷ ls) m t = ap (union_of ls) (commute l m t) ∙ union_past ls m (with_line l t)

union_lines : (ms : List Mark) (s t : List ℕ) → union_of (with_lines ms s) t ≡ with_lines ms (union_of s t)
union_lines [] s t = refl
union_lines (m ∷ ms) s t =
    union_lines ms (with_line m.line s) t ∙ ap (with_lines ms) (union_with s m.line t ∙ union_past s m.line t)

past_lines : (ms : List Mark) (line : ℕ) (s : List ℕ) → with_line line (with_lines ms s) ≡ with_lines ms (with_line line s)
past_lines [] line s = refl
past_lines (m ∷ ms) line s = past_lines ms line (with_line m.line s) ∙ ap (with_lines ms) (commute line m.line s)

lines_past : (more ms : List Mark) (s : List ℕ) → with_lines more (with_lines ms s) ≡ with_lines ms (with_lines more s)
lines_past [] ms s = refl
lines_past (m ∷ more) ms s = ap (with_lines more) (past_lines ms m.line s) ∙ lines_past more ms (with_line m.line s)

lines-append : (ms more : List Mark) (s : List ℕ) → with_lines (ms ++ more) s ≡ with_lines more (with_lines ms s)
lines-append [] more s = refl
lines-append (m ∷ ms) more s = lines-append ms more (with_line m.line s)

-- the lines of marks and more are the union of their lines
pub lines_of_both : (ms more : List Mark) → lines_of (ms ++ more) ≡ union_of (lines_of ms) (lines_of more)
lines_of_both ms more = lines-append ms more [] ∙ (lines_past more ms [] ∙ sym (union_lines ms [] (lines_of more)))
