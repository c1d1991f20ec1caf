-- The end of a quote, a byte at a time.
use Rattle.std.proofs.Common.{◌≡◌, ℕ, suc, zero, ◌+◌, ◌-◌, ◌<◌, ◌≤◌, ◌==◌, Bool, true, false, not, cond, ◌&&◌, ◌||◌, List, [], ◌∷◌, length, get_or, take, drop, ltb, zero-add, add-zero, sym, refl, ap, ◌∙◌, subst, arith, ◌⊎◌, inl, inr, ⊎_elim}
use Rattle.std.proofs.lemmas.Bool.{false≢true, or_cases, eqb-true, eq-eqb, lt-ltb, cases_lt, cases_Bool, and_parts, ltb-true, not-true, cond-true, cond-false}
use Rattle.std.proofs.lemmas.List.{drop_all}
use Rattle.cb_lines.specs.Marks.{is_line_feed}
use Rattle.cb_tokens.specs.Forms.{is_quote, quote_left, is_closed, is_still_open, closes, stays_unclosed}
use Rattle.cb_tokens.specs.Cut.{NoneLonger}
use Rattle.cb_tokens.specs.inner.Scan.{is_inner, HasNone, EndsQuote, quote_step}
use Rattle.cb_tokens.specs.declared.quote.QuoteEnd.{QuoteEnd}
use Rattle.cb_tokens.specs.declared.quote.QuoteEnd.TheVariants as ends
use Rattle.cb_tokens.specs.declared.left.QuoteLeft.{QuoteLeft}
use Rattle.cb_tokens.specs.declared.left.QuoteLeft.TheVariants.{Closed, Unclosed, Broken}
use Rattle.cb_tokens.proofs.Longest.{within_on, longest_on, none_on, within_over, longest_over, none_over, split_at}

-- a quote is ' or "
pub quote_cases : (q : ℕ) → is_quote q ≡ true → (q ≡ 39) ⊎ (q ≡ 34)
unfolding is_quote
quote_cases q h = ⊎_elim (λ e. inl (eqb-true q 39 e)) (λ e. inr (eqb-true q 34 e)) (or_cases (q == 39) (q == 34) h)

-- what holds of both quotes holds of a quote
pub for_quote : (P : ℕ → Type 0) (q : ℕ) → is_quote q ≡ true → P 39 → P 34 → P q
for_quote P q h one two = ⊎_elim (λ e. subst P (sym e) one) (λ e. subst P (sym e) two) (quote_cases q h)

-- a line end breaks a quote
pub feed_left : (q b : ℕ) (xs : List ℕ) → is_quote q ≡ true → is_line_feed b ≡ true → quote_left q (b ∷ xs) ≡ Broken
unfolding quote_left
feed_left q b [] h e =
    subst (λ v. quote_left q (v ∷ []) ≡ Broken) (sym (eqb-true b 10 e)) (for_quote (λ q. quote_left q (10 ∷ []) ≡ Broken) q h refl refl)
feed_left q b (x ∷ xs) h e =
    subst (λ v. quote_left q (v ∷ x ∷ xs) ≡ Broken) (sym (eqb-true b 10 e)) (for_quote (λ q. quote_left q (10 ∷ x ∷ xs) ≡ Broken) q h refl refl)

feed_closes : (q b : ℕ) (xs : List ℕ) → is_quote q ≡ true → is_line_feed b ≡ true → closes q (b ∷ xs) ≡ false
unfolding closes
feed_closes q b xs h e = ap is_closed (feed_left q b xs h e)

feed_stays : (q b : ℕ) (xs : List ℕ) → is_quote q ≡ true → is_line_feed b ≡ true → stays_unclosed q (b ∷ xs) ≡ false
unfolding stays_unclosed
feed_stays q b xs h e = ap is_still_open (feed_left q b xs h e)

-- both tests of a quote byte by byte
by_steps : (x y z : Bool) (l m : QuoteLeft) → is_closed (cond x Broken (cond y (cond z Broken l) m)) ≡ cond x false (cond y (not z && is_closed l) (is_closed m))
by_steps true y z l m = refl
by_steps false false z l m = refl
by_steps false true true l m = refl
by_steps false true false l m = refl

pub closes_by_steps : (q b c : ℕ) (cs : List ℕ) → closes q (b ∷ c ∷ cs) ≡ cond ((b == q) || is_line_feed b) false (cond (b == 92) (not (is_line_feed c) && closes q cs) (closes q (c ∷ cs)))
unfolding closes quote_left
closes_by_steps q b c cs = by_steps ((b == q) || is_line_feed b) (b == 92) (is_line_feed c) (quote_left q cs) (quote_left q (c ∷ cs))

one_by_steps : (x y : Bool) → is_closed (cond x Closed (cond y Broken Unclosed)) ≡ x
one_by_steps true y = refl
one_by_steps false true = refl
one_by_steps false false = refl

pub closes_one : (q b : ℕ) → closes q (b ∷ []) ≡ (b == q)
unfolding closes quote_left
closes_one q b = one_by_steps (b == q) (is_line_feed b)

open_by_steps : (x y z : Bool) (l m : QuoteLeft) → is_still_open (cond x Broken (cond y (cond z Broken l) m)) ≡ cond x false (cond y (not z && is_still_open l) (is_still_open m))
open_by_steps true y z l m = refl
open_by_steps false false z l m = refl
open_by_steps false true true l m = refl
open_by_steps false true false l m = refl

pub stays_by_steps : (q b c : ℕ) (cs : List ℕ) → stays_unclosed q (b ∷ c ∷ cs) ≡ cond ((b == q) || is_line_feed b) false (cond (b == 92) (not (is_line_feed c) && stays_unclosed q cs) (stays_unclosed q (c ∷ cs)))
unfolding stays_unclosed quote_left
stays_by_steps q b c cs = open_by_steps ((b == q) || is_line_feed b) (b == 92) (is_line_feed c) (quote_left q cs) (quote_left q (c ∷ cs))

one_open_by_steps : (x y : Bool) → is_still_open (cond x Closed (cond y Broken Unclosed)) ≡ not (x || y)
one_open_by_steps true y = refl
one_open_by_steps false true = refl
one_open_by_steps false false = refl

pub stays_one : (q b : ℕ) → stays_unclosed q (b ∷ []) ≡ not ((b == q) || is_line_feed b)
unfolding stays_unclosed quote_left
stays_one q b = one_open_by_steps (b == q) (is_line_feed b)

-- the tests at how the quote ends
pub closed_as_left : (q : ℕ) (xs : List ℕ) (end : QuoteLeft) → end ≡ quote_left q xs → closes q xs ≡ is_closed end
unfolding closes
closed_as_left q xs end e = ap is_closed (sym e)

pub open_as_left : (q : ℕ) (xs : List ℕ) (end : QuoteLeft) → end ≡ quote_left q xs → stays_unclosed q xs ≡ is_still_open end
unfolding stays_unclosed
open_as_left q xs end e = ap is_still_open (sym e)

-- the byte does not take the next one with it, as a backslash does
abbrev Alone : ℕ → List ℕ → Type 0
Alone b [] = Unit {0}
Alone b (c ∷ cs) = ((b == 92) && not (is_line_feed c)) ≡ false

-- a byte that is neither the quote nor a line end, and no backslash that takes the next one with it
pub record Plain (q b : ℕ) (bs : List ℕ) : Type 0 where
  pub other : (b == q) ≡ false
  pub stays : is_line_feed b ≡ false
  pub alone : Alone b bs

alone_of : (b : ℕ) (bs : List ℕ) → (b == 92) ≡ false → Alone b bs
alone_of b [] h = tt
alone_of b (c ∷ cs) h = rw h refl

pub plain_of : (q b : ℕ) (bs : List ℕ) → (b == q) ≡ false → is_line_feed b ≡ false → (b == 92) ≡ false → Plain q b bs
plain_of q b bs other stays h = record { other = other; stays = stays; alone = alone_of b bs h }

alone_goes : (x y : Bool) (u v : QuoteLeft) → (x && not y) ≡ false → (y ≡ true → v ≡ Broken) → cond x (cond y Broken u) v ≡ v
alone_goes false y u v e h = refl
alone_goes true true u v e h = sym (h refl)
alone_goes true false u v e h = absurd (false≢true (sym e))

-- a byte that neither ends the quote nor takes the next one with it
pub left_on : (q b : ℕ) (bs : List ℕ) → is_quote q ≡ true → Plain q b bs → (m : ℕ) → quote_left q (b ∷ take m bs) ≡ quote_left q (take m bs)
unfolding quote_left
left_on q b bs quote p zero = let other = p.other in let stays = p.stays in rw (other, stays) refl
left_on q b [] quote p (suc m) = let other = p.other in let stays = p.stays in rw (other, stays) refl
left_on q b (c ∷ cs) quote p (suc m) =
    let other = p.other in
    let stays = p.stays in
    rw (other, stays) (alone_goes (b == 92) (is_line_feed c) (quote_left q (take m cs)) (quote_left q (c ∷ take m cs)) p.alone (λ e. feed_left q c (take m cs) quote e))

closes_on : (q b : ℕ) (bs : List ℕ) → is_quote q ≡ true → Plain q b bs → (m : ℕ) → closes q (b ∷ take m bs) ≡ closes q (take m bs)
unfolding closes
closes_on q b bs quote p m = ap is_closed (left_on q b bs quote p m)

stays_on : (q b : ℕ) (bs : List ℕ) → is_quote q ≡ true → Plain q b bs → (m : ℕ) → stays_unclosed q (b ∷ take m bs) ≡ stays_unclosed q (take m bs)
unfolding stays_unclosed
stays_on q b bs quote p m = ap is_still_open (left_on q b bs quote p m)

-- a backslash and the byte that it takes with it
pub left_over : (q c : ℕ) (cs : List ℕ) → is_quote q ≡ true → is_line_feed c ≡ false → (m : ℕ) → quote_left q (92 ∷ c ∷ take m cs) ≡ quote_left q (take m cs)
unfolding quote_left
left_over q c cs quote e m =
    for_quote (λ q. quote_left q (92 ∷ c ∷ take m cs) ≡ quote_left q (take m cs)) q quote (rw e refl) (rw e refl)

closes_over : (q c : ℕ) (cs : List ℕ) → is_quote q ≡ true → is_line_feed c ≡ false → (m : ℕ) → closes q (92 ∷ c ∷ take m cs) ≡ closes q (take m cs)
unfolding closes
closes_over q c cs quote e m = ap is_closed (left_over q c cs quote e m)

stays_over : (q c : ℕ) (cs : List ℕ) → is_quote q ≡ true → is_line_feed c ≡ false → (m : ℕ) → stays_unclosed q (92 ∷ c ∷ take m cs) ≡ stays_unclosed q (take m cs)
unfolding stays_unclosed
stays_over q c cs quote e m = ap is_still_open (left_over q c cs quote e m)

pub none_closes : (q : ℕ) → closes q [] ≡ false
unfolding closes quote_left
none_closes q = refl

slash_closes : (q : ℕ) → is_quote q ≡ true → closes q (92 ∷ []) ≡ false
unfolding closes quote_left
slash_closes q quote = for_quote (λ q. closes q (92 ∷ []) ≡ false) q quote refl refl

-- the answer so many bytes further on
abbrev pub moved : ℕ → QuoteEnd → QuoteEnd
moved n (ends.Closed k) = ends.Closed (n + k)
moved n (ends.Unclosed k) = ends.Unclosed (n + k)

abbrev further : QuoteEnd → QuoteEnd
further (ends.Closed k) = ends.Closed (suc k)
further (ends.Unclosed k) = ends.Unclosed (suc k)

moved_none : (r : QuoteEnd) → moved 0 r ≡ r
moved_none (ends.Closed k) = ap ends.Closed (zero-add k)
moved_none (ends.Unclosed k) = ap ends.Unclosed (zero-add k)

moved_further : (n : ℕ) (r : QuoteEnd) → moved n (further r) ≡ moved (n + 1) r
moved_further n (ends.Closed k) = let e : n + suc k ≡ (n + 1) + k = omega arith in ap ends.Closed e
moved_further n (ends.Unclosed k) = let e : n + suc k ≡ (n + 1) + k = omega arith in ap ends.Unclosed e

moved_over : (n : ℕ) (r : QuoteEnd) → moved n (further (further r)) ≡ moved (n + 2) r
moved_over n (ends.Closed k) = let e : n + suc (suc k) ≡ (n + 2) + k = omega arith in ap ends.Closed e
moved_over n (ends.Unclosed k) = let e : n + suc (suc k) ≡ (n + 2) + k = omega arith in ap ends.Unclosed e

ends_on : (q b : ℕ) (bs : List ℕ) → is_quote q ≡ true → Plain q b bs → (r : QuoteEnd) → EndsQuote q bs r → EndsQuote q (b ∷ bs) (further r)
ends_on q b bs quote p (ends.Closed k) e = (
  longest_on (closes q) (closes q) b bs (closes_on q b bs quote p) k e.0,
  within_on (stays_unclosed q) (stays_unclosed q) b bs (stays_on q b bs quote p) k e.1,
)
ends_on q b bs quote p (ends.Unclosed k) e = (
  longest_on (stays_unclosed q) (stays_unclosed q) b bs (stays_on q b bs quote p) k e.0,
  none_on (closes q) (closes q) b bs (closes_on q b bs quote p) (none_closes q) e.1,
)

ends_over : (q c : ℕ) (cs : List ℕ) → is_quote q ≡ true → is_line_feed c ≡ false → (r : QuoteEnd) → EndsQuote q cs r → EndsQuote q (92 ∷ c ∷ cs) (further (further r))
ends_over q c cs quote f (ends.Closed k) e = (
  longest_over (closes q) (closes q) 92 c cs (closes_over q c cs quote f) k e.0,
  within_over (stays_unclosed q) (stays_unclosed q) 92 c cs (stays_over q c cs quote f) k e.1,
)
ends_over q c cs quote f (ends.Unclosed k) e = (
  longest_over (stays_unclosed q) (stays_unclosed q) 92 c cs (stays_over q c cs quote f) k e.0,
  none_over (closes q) (closes q) 92 c cs (closes_over q c cs quote f) (none_closes q) (slash_closes q quote) e.1,
)

-- the quote stands at the front
closed_within : (q : ℕ) (bs : List ℕ) → NoneLonger (closes q) (q ∷ bs) 1
unfolding closes quote_left
closed_within q bs zero le h = omega arith
closed_within q bs (suc zero) le h = omega arith
closed_within q [] (suc (suc m)) le h = omega arith
closed_within q (c ∷ cs) (suc (suc m)) le h = absurd (false≢true (sym (rw (eq-eqb q q refl) refl) ∙ h))

unclosed_within : (q : ℕ) (bs : List ℕ) → NoneLonger (stays_unclosed q) (q ∷ bs) 1
unfolding stays_unclosed quote_left
unclosed_within q bs zero le h = omega arith
unclosed_within q bs (suc zero) le h = omega arith
unclosed_within q [] (suc (suc m)) le h = omega arith
unclosed_within q (c ∷ cs) (suc (suc m)) le h = absurd (false≢true (sym (rw (eq-eqb q q refl) refl) ∙ h))

ends_here : (q : ℕ) (bs : List ℕ) → EndsQuote q (q ∷ bs) (ends.Closed 1)
ends_here q bs = (
  record { within = omega arith; holds = closes_one q q ∙ eq-eqb q q refl; longest = closed_within q bs },
  unclosed_within q bs,
)

-- nothing is left, or a line end stands at the front
abbrev AtLineEnd : List ℕ → Type 0
AtLineEnd [] = Unit {0}
AtLineEnd (b ∷ bs) = is_line_feed b ≡ true

left_within : (q : ℕ) (xs : List ℕ) → is_quote q ≡ true → AtLineEnd xs → NoneLonger (stays_unclosed q) xs 0
left_within q xs quote e zero le h = omega arith
left_within q [] quote e (suc m) le h = omega arith
left_within q (b ∷ bs) quote e (suc m) le h = absurd (false≢true (sym (feed_stays q b (take m bs) quote e) ∙ h))

none_left : (q : ℕ) (xs : List ℕ) → is_quote q ≡ true → AtLineEnd xs → HasNone (closes q) xs
none_left q xs quote e zero le = none_closes q
none_left q [] quote e (suc m) le = none_closes q
none_left q (b ∷ bs) quote e (suc m) le = feed_closes q b (take m bs) quote e

ends_left : (q : ℕ) (xs : List ℕ) → is_quote q ≡ true → AtLineEnd xs → EndsQuote q xs (ends.Unclosed 0)
unfolding stays_unclosed quote_left
ends_left q xs quote e =
    (record { within = omega arith; holds = refl; longest = left_within q xs quote e }, none_left q xs quote e)

-- where the quote ends from an index on is where it ends from the start
abbrev pub QuoteAhead : ℕ → List ℕ → ℕ → Type 0
QuoteAhead q xs n = (r : QuoteEnd) → EndsQuote q (drop n xs) r → EndsQuote q xs (moved n r)

pub ahead_start : (q : ℕ) (xs : List ℕ) → QuoteAhead q xs 0
ahead_start q xs r e = subst (EndsQuote q xs) (sym (moved_none r)) e

pub ahead_closed : (q : ℕ) (xs : List ℕ) (n : ℕ) → n < length xs → get_or xs n 0 ≡ q → QuoteAhead q xs n → EndsQuote q xs (ends.Closed (n + 1))
ahead_closed q xs n h e ahead =
    ahead (ends.Closed 1) (subst (λ ys. EndsQuote q ys (ends.Closed 1)) (sym (split_at xs n h ∙ ap (λ b. b ∷ drop (n + 1) xs) e)) (ends_here q (drop (n + 1) xs)))

ahead_left : (q : ℕ) (xs : List ℕ) (n : ℕ) → is_quote q ≡ true → AtLineEnd (drop n xs) → QuoteAhead q xs n → EndsQuote q xs (ends.Unclosed n)
ahead_left q xs n quote e ahead =
    subst (λ k. EndsQuote q xs (ends.Unclosed k)) (add-zero n) (ahead (ends.Unclosed 0) (ends_left q (drop n xs) quote e))

pub ahead_feed : (q : ℕ) (xs : List ℕ) (n : ℕ) → is_quote q ≡ true → n < length xs → is_line_feed (get_or xs n 0) ≡ true → QuoteAhead q xs n → EndsQuote q xs (ends.Unclosed n)
ahead_feed q xs n quote h e ahead = ahead_left q xs n quote (subst AtLineEnd (sym (split_at xs n h)) e) ahead

pub ahead_end : (q : ℕ) (xs : List ℕ) (n : ℕ) → is_quote q ≡ true → length xs ≤ n → QuoteAhead q xs n → EndsQuote q xs (ends.Unclosed n)
ahead_end q xs n quote h ahead = ahead_left q xs n quote (subst AtLineEnd (sym (drop_all n xs h)) tt) ahead

-- one byte further on
ahead_on : (q : ℕ) (xs : List ℕ) (n : ℕ) → is_quote q ≡ true → n < length xs → Plain q (get_or xs n 0) (drop (n + 1) xs) → QuoteAhead q xs n → QuoteAhead q xs (n + 1)
ahead_on q xs n quote h p ahead r e =
    subst (EndsQuote q xs) (moved_further n r)
    (ahead (further r) (subst (λ ys. EndsQuote q ys (further r)) (sym (split_at xs n h)) (ends_on q (get_or xs n 0) (drop (n + 1) xs) quote p r e)))

-- two bytes further on
ahead_over : (q : ℕ) (xs : List ℕ) (n : ℕ) → is_quote q ≡ true → n + 1 < length xs → get_or xs n 0 ≡ 92 → is_line_feed (get_or xs (n + 1) 0) ≡ false → QuoteAhead q xs n → QuoteAhead q xs (n + 2)
ahead_over q xs n quote h b f ahead r e =
    let two : (n + 1) + 1 ≡ n + 2 = omega arith in
    let opened : drop n xs ≡ 92 ∷ get_or xs (n + 1) 0 ∷ drop (n + 2) xs =
    split_at xs n (omega arith) ∙ ap (λ v. v ∷ drop (n + 1) xs) b ∙ ap (λ ys. 92 ∷ ys) (split_at xs (n + 1) h ∙ ap (λ k. get_or xs (n + 1) 0 ∷ drop k xs) two) in
    subst (EndsQuote q xs) (moved_over n r)
    (ahead (further (further r)) (subst (λ ys. EndsQuote q ys (further (further r))) (sym opened) (ends_over q (get_or xs (n + 1) 0) (drop (n + 2) xs) quote f r e)))

inner : (x z y : Bool) → y ≡ true → (x && y && z) ≡ false → (x && z) ≡ false
inner x z true h e = elim x as (λ x. (x && true && z) ≡ false → (x && z) ≡ false) [ true ↦ λ e. e | false ↦ λ e. e ] e
inner x z false h e = absurd (false≢true h)

alone_at : (xs : List ℕ) (n : ℕ) → ((get_or xs n 0 == 92) && ltb (n + 1) (length xs) && not (is_line_feed (get_or xs (n + 1) 0))) ≡ false → Alone (get_or xs n 0) (drop (n + 1) xs)
alone_at xs n e =
    ⊎_elim
    (λ h. subst (Alone (get_or xs n 0)) (sym (split_at xs (n + 1) h)) (inner (get_or xs n 0 == 92) (not (is_line_feed (get_or xs (n + 1) 0))) (ltb (n + 1) (length xs)) (lt-ltb (n + 1) (length xs) h) e))
    (λ h. subst (Alone (get_or xs n 0)) (sym (drop_all (n + 1) xs h)) tt)
    (cases_lt (n + 1) (length xs))

-- as far as a step goes
pub ahead_step : (q : ℕ) (xs : List ℕ) (n : ℕ) → is_quote q ≡ true → n < length xs → (get_or xs n 0 == q) ≡ false → is_line_feed (get_or xs n 0) ≡ false → QuoteAhead q xs n → (n + quote_step xs n ≤ length xs) × QuoteAhead q xs (n + quote_step xs n)
ahead_step q xs n quote h other stays ahead =
    let escapes : Bool = (get_or xs n 0 == 92) && ltb (n + 1) (length xs) in
    let same : Bool = not (is_line_feed (get_or xs (n + 1) 0)) in
    let P : ℕ → Type 0 = λ k. (n + k ≤ length xs) × QuoteAhead q xs (n + k) in
    ⊎_elim
    (λ e.
    let both = and_parts escapes same e in
    let parts = and_parts (get_or xs n 0 == 92) (ltb (n + 1) (length xs)) both.0 in
    let room : n + 1 < length xs = ltb-true (n + 1) (length xs) parts.1 in
    subst P (sym (cond-true (escapes && same) 2 1 e)) (
      omega arith,
      ahead_over q xs n quote room (eqb-true (get_or xs n 0) 92 parts.0) (not-true (is_line_feed (get_or xs (n + 1) 0)) both.1) ahead,
    ))
    (λ e.
    subst P (sym (cond-false (escapes && same) 2 1 e)) (
      omega arith,
      ahead_on q xs n quote h (record { other = other; stays = stays; alone = alone_at xs n e }) ahead,
    ))
    (cases_Bool (escapes && same))

-- over bytes within the quote
inner_parts : (q b : ℕ) → is_inner q b ≡ true → ((b == q) ≡ false) × ((b == 92) ≡ false) × (is_line_feed b ≡ false)
unfolding is_inner
inner_parts q b h =
    let none = not-true ((b == q) || (b == 92) || is_line_feed b) h in
    grind (arith)

ahead_by : (q : ℕ) (xs : List ℕ) (d n : ℕ) → is_quote q ≡ true → n + d ≤ length xs → ((k : ℕ) → n ≤ k → k < n + d → is_inner q (get_or xs k 0) ≡ true) → QuoteAhead q xs n → QuoteAhead q xs (n + d)
ahead_by q xs zero n quote le inner ahead = let e : n ≡ n + 0 = omega arith in subst (QuoteAhead q xs) e ahead
ahead_by q xs (suc d) n quote le inner ahead =
    let p = inner_parts q (get_or xs n 0) (inner n (omega arith) (omega arith)) in
    let e : (n + 1) + d ≡ n + suc d = omega arith in
    let one = ahead_on q xs n quote (omega arith) (plain_of q (get_or xs n 0) (drop (n + 1) xs) p.0 p.2 p.1) ahead in
    subst (QuoteAhead q xs) e (ahead_by q xs d (n + 1) quote (omega arith) (λ k low lt. inner k (omega arith) (omega arith)) one)

pub ahead_run : (q : ℕ) (xs : List ℕ) (n m : ℕ) → is_quote q ≡ true → n ≤ m → m ≤ length xs → ((k : ℕ) → n ≤ k → k < m → is_inner q (get_or xs k 0) ≡ true) → QuoteAhead q xs n → QuoteAhead q xs m
ahead_run q xs n m quote le within inner ahead =
    let e : n + (m - n) ≡ m = omega arith in
    subst (QuoteAhead q xs) e (ahead_by q xs (m - n) n quote (omega arith) (λ k low lt. inner k low (omega arith)) ahead)

pub quote_some : (q : ℕ) → is_quote q ≡ true → 0 < q
quote_some q h = for_quote (λ q. 0 < q) q h (omega arith) (omega arith)
