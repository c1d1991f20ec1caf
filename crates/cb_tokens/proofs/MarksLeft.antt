-- All the marks that are left, one by one.
use Rattle.std.proofs.Common.{◌≡◌, ℕ, suc, ◌==◌, Bool, true, false, not, Option, Some, None, MatchOption, is_some, List, [], ◌∷◌, length, drop, get_or, eq-eqb, ne_eqb, sym, refl, ap, ◌∙◌, subst, arith}
use Rattle.std.specs.Char.{is_ascii_digit}
use Rattle.std.proofs.lemmas.Bool.{false≢true}
use Rattle.std.proofs.lemmas.List.{take_all}
use Rattle.cb_lines.specs.declared.mark.Mark.{Mark}
use Rattle.cb_lines.specs.Marks.{bytes_of, is_line_feed}
use Rattle.cb_tokens.specs.Forms.{is_quote, is_punctuator, continues_number, is_number_rest, quote_left}
use Rattle.cb_tokens.specs.declared.left.QuoteLeft.TheVariants.{Closed, Unclosed, Broken}
use Rattle.cb_tokens.specs.inner.Whole.{byte_of}
use Rattle.cb_tokens.proofs.Punctuators.{too_long}
use Rattle.cb_tokens.proofs.Quotes.{Plain, plain_of, for_quote, left_on, left_over, feed_left}

-- the next mark before the others
abbrev pub with_next : Option Mark → List Mark → List Mark
with_next None ms = []
with_next (Some m) ms = m ∷ ms

abbrev pub so_many : Option Mark → ℕ
so_many None = 0
so_many (Some m) = 1

-- a number goes on over all the marks where it goes on over those that are left
abbrev pub NumberSame : ℕ → ℕ → List Mark → Option Mark → List Mark → Type 0
NumberSame before last all next left = is_number_rest before (bytes_of all) ≡ is_number_rest last (bytes_of (with_next next left))

-- a quote ends as what is left of it does
abbrev pub QuoteSame : ℕ → List Mark → List Mark → Type 0
QuoteSame q all left = quote_left q (bytes_of all) ≡ quote_left q (bytes_of left)

pub number_turn : (before last : ℕ) (all : List Mark) (next : Option Mark) (left : List Mark) (m : Mark) (after : Option Mark) (new : List Mark) → NumberSame before last all next left → next ≡ Some m → MatchOption after (left ≡ []) (λ a. left ≡ a ∷ new)
    → continues_number last m.byte (byte_of after) ≡ true → NumberSame before m.byte all after new
unfolding is_number_rest
number_turn before last all next left m None new same e h c =
    same ∙ ap (λ n. is_number_rest last (bytes_of (with_next n left))) e ∙ ap (λ ns. is_number_rest last (m.byte ∷ bytes_of ns)) h ∙ rw c refl
number_turn before last all next left m (Some a) new same e h c =
    same ∙ ap (λ n. is_number_rest last (bytes_of (with_next n left))) e ∙ ap (λ ns. is_number_rest last (m.byte ∷ bytes_of ns)) h ∙ rw c refl

pub number_stop : (before last : ℕ) (all : List Mark) (next : Option Mark) (left : List Mark) (m : Mark) (after : Option Mark) (new : List Mark) → NumberSame before last all next left → next ≡ Some m → MatchOption after (left ≡ []) (λ a. left ≡ a ∷ new)
    → continues_number last m.byte (byte_of after) ≡ false → is_number_rest before (bytes_of all) ≡ false
unfolding is_number_rest
number_stop before last all next left m None new same e h c =
    same ∙ ap (λ n. is_number_rest last (bytes_of (with_next n left))) e ∙ ap (λ ns. is_number_rest last (m.byte ∷ bytes_of ns)) h ∙ rw c refl
number_stop before last all next left m (Some a) new same e h c =
    same ∙ ap (λ n. is_number_rest last (bytes_of (with_next n left))) e ∙ ap (λ ns. is_number_rest last (m.byte ∷ bytes_of ns)) h ∙ rw c refl

pub number_done : (before last : ℕ) (all : List Mark) (next : Option Mark) (left : List Mark) → NumberSame before last all next left → next ≡ None → is_number_rest before (bytes_of all) ≡ true
unfolding is_number_rest
number_done before last all next left same e = same ∙ ap (λ n. is_number_rest last (bytes_of (with_next n left))) e

pub number_begin : (before : ℕ) (all : List Mark) (next : Option Mark) (new : List Mark) → MatchOption next (all ≡ []) (λ a. all ≡ a ∷ new) → NumberSame before before all next new
number_begin before all None new h = ap (λ ns. is_number_rest before (bytes_of ns)) h
number_begin before all (Some a) new h = ap (λ ns. is_number_rest before (bytes_of ns)) h

-- a quote
left_all : (q b : ℕ) (xs : List ℕ) → is_quote q ≡ true → Plain q b xs → quote_left q (b ∷ xs) ≡ quote_left q xs
left_all q b xs quote p =
    subst (λ ys. quote_left q (b ∷ ys) ≡ quote_left q ys) (take_all (length xs) xs (omega arith)) (left_on q b xs quote p (length xs))

left_two : (q c : ℕ) (xs : List ℕ) → is_quote q ≡ true → is_line_feed c ≡ false → quote_left q (92 ∷ c ∷ xs) ≡ quote_left q xs
left_two q c xs quote f =
    subst (λ ys. quote_left q (92 ∷ c ∷ ys) ≡ quote_left q ys) (take_all (length xs) xs (omega arith)) (left_over q c xs quote f (length xs))

-- all the marks at the marks that are left
at_left : (q : ℕ) (all left new : List Mark) → QuoteSame q all left → left ≡ new → QuoteSame q all new
at_left q all left new same e = same ∙ ap (λ ns. quote_left q (bytes_of ns)) e

pub quote_plain : (q : ℕ) (all left : List Mark) (m : Mark) (new : List Mark) → is_quote q ≡ true → QuoteSame q all left → left ≡ m ∷ new
    → (m.byte == q) ≡ false → is_line_feed m.byte ≡ false → (m.byte == 92) ≡ false → QuoteSame q all new
quote_plain q all left m new quote same e other stays h =
    at_left q all left (m ∷ new) same e ∙ left_all q m.byte (bytes_of new) quote (plain_of q m.byte (bytes_of new) other stays h)

pub quote_escape : (q : ℕ) (all left : List Mark) (m : Mark) (mid : List Mark) (c : Mark) (new : List Mark) → is_quote q ≡ true → QuoteSame q all left
    → left ≡ m ∷ mid → m.byte ≡ 92 → mid ≡ c ∷ new → is_line_feed c.byte ≡ false → QuoteSame q all new
quote_escape q all left m mid c new quote same e b f stays =
    at_left q all left (m ∷ c ∷ new) same (e ∙ ap (λ ns. m ∷ ns) f)
    ∙ (ap (λ v. quote_left q (v ∷ c.byte ∷ bytes_of new)) b ∙ left_two q c.byte (bytes_of new) quote stays)

pub quote_closed : (q : ℕ) (all left : List Mark) (m : Mark) (new : List Mark) → QuoteSame q all left → left ≡ m ∷ new → m.byte ≡ q → new ≡ []
    → Closed ≡ quote_left q (bytes_of all)
unfolding quote_left
quote_closed q all left m new same e b f =
    let h = eq-eqb m.byte q b in
    let ends : quote_left q (m.byte ∷ []) ≡ Closed = rw h refl in
    sym (at_left q all left (m ∷ []) same (e ∙ ap (λ ns. m ∷ ns) f) ∙ ends)

pub quote_behind : (q : ℕ) (all left : List Mark) (m : Mark) (new : List Mark) (c : Mark) (more : List Mark) → QuoteSame q all left → left ≡ m ∷ new
    → m.byte ≡ q → new ≡ c ∷ more → Broken ≡ quote_left q (bytes_of all)
unfolding quote_left
quote_behind q all left m new c more same e b f =
    let h = eq-eqb m.byte q b in
    let breaks : quote_left q (m.byte ∷ c.byte ∷ bytes_of more) ≡ Broken = rw h refl in
    sym (at_left q all left (m ∷ c ∷ more) same (e ∙ ap (λ ns. m ∷ ns) f) ∙ breaks)

pub quote_feed : (q : ℕ) (all left : List Mark) (m : Mark) (new : List Mark) → is_quote q ≡ true → QuoteSame q all left → left ≡ m ∷ new
    → is_line_feed m.byte ≡ true → Broken ≡ quote_left q (bytes_of all)
quote_feed q all left m new quote same e h =
    sym (at_left q all left (m ∷ new) same e ∙ feed_left q m.byte (bytes_of new) quote h)

slash_alone : (q : ℕ) → is_quote q ≡ true → quote_left q (92 ∷ []) ≡ Unclosed
unfolding quote_left
slash_alone q quote = for_quote (λ q. quote_left q (92 ∷ []) ≡ Unclosed) q quote refl refl

pub quote_slash : (q : ℕ) (all left : List Mark) (m : Mark) (new : List Mark) → is_quote q ≡ true → QuoteSame q all left → left ≡ m ∷ new
    → m.byte ≡ 92 → new ≡ [] → Unclosed ≡ quote_left q (bytes_of all)
quote_slash q all left m new quote same e b f =
    sym (at_left q all left (m ∷ []) same (e ∙ ap (λ ns. m ∷ ns) f) ∙ (ap (λ v. quote_left q (v ∷ [])) b ∙ slash_alone q quote))

slash_feed : (q c : ℕ) (xs : List ℕ) → is_quote q ≡ true → is_line_feed c ≡ true → quote_left q (92 ∷ c ∷ xs) ≡ Broken
unfolding quote_left
slash_feed q c xs quote h =
    for_quote (λ q. quote_left q (92 ∷ c ∷ xs) ≡ Broken) q quote (rw h refl) (rw h refl)

pub quote_slash_feed : (q : ℕ) (all left : List Mark) (m : Mark) (mid : List Mark) (c : Mark) (new : List Mark) → is_quote q ≡ true → QuoteSame q all left
    → left ≡ m ∷ mid → m.byte ≡ 92 → mid ≡ c ∷ new → is_line_feed c.byte ≡ true → Broken ≡ quote_left q (bytes_of all)
quote_slash_feed q all left m mid c new quote same e b f h =
    sym (
    at_left q all left (m ∷ c ∷ new) same (e ∙ ap (λ ns. m ∷ ns) f)
    ∙ (ap (λ v. quote_left q (v ∷ c.byte ∷ bytes_of new)) b ∙ slash_feed q c.byte (bytes_of new) quote h)
    )

pub quote_done : (q : ℕ) (all left : List Mark) → QuoteSame q all left → left ≡ [] → Unclosed ≡ quote_left q (bytes_of all)
unfolding quote_left
quote_done q all left same e = sym (at_left q all left [] same e)

-- what a look at the next mark says
pub none_next : (o : Option Mark) (old new : List Mark) → MatchOption o (old ≡ []) (λ a. old ≡ a ∷ new) → is_some o ≡ false → old ≡ []
none_next None old new h e = h
none_next (Some a) old new h e = absurd (false≢true (sym e))

pub some_next : (o : Option Mark) (old new : List Mark) → MatchOption o (old ≡ []) (λ a. old ≡ a ∷ new) → is_some o ≡ true → (a : Mark) × (old ≡ a ∷ new)
some_next None old new h e = absurd (false≢true e)
some_next (Some a) old new h e = (a, h)

pub five_left : (first : ℕ) (b c d : Mark) (all two three four more : List Mark) → all ≡ b ∷ two → two ≡ c ∷ three → three ≡ d ∷ four → (e : Mark) × (four ≡ e ∷ more) → is_punctuator (first ∷ bytes_of all) ≡ false
five_left first b c d all two three four more p q r (e, s) =
    ap (λ ns. is_punctuator (first ∷ bytes_of ns)) (p ∙ ap (λ ns. b ∷ ns) (q ∙ ap (λ ns. c ∷ ns) (r ∙ ap (λ ns. d ∷ ns) s)))
    ∙ too_long first b.byte c.byte d.byte e.byte (bytes_of more)

-- whether none is left, as a test
pub none_is : (o : Option Mark) (old new : List Mark) (t : Bool) → MatchOption o (old ≡ []) (λ a. old ≡ a ∷ new) → is_some o ≡ not t → t ≡ (length (bytes_of old) == 0)
none_is None old new true h e = sym (ap (λ ns. length (bytes_of ns) == 0) h)
none_is None old new false h e = absurd (false≢true e)
none_is (Some a) old new true h e = absurd (false≢true (sym e))
none_is (Some a) old new false h e = sym (ap (λ ns. length (bytes_of ns) == 0) h ∙ ne_eqb (suc (length (bytes_of new))) 0 (λ k. absurd (omega arith)))

-- the first of the marks before the others
pub whole_is : (ms : List Mark) (m : Mark) (rest : List Mark) → ms ≡ m ∷ rest → m.byte ∷ bytes_of (drop 1 ms) ≡ bytes_of ms
whole_is ms m rest e = ap (λ ns. m.byte ∷ bytes_of (drop 1 ns)) e ∙ sym (ap bytes_of e)

pub digit_none : (ns : List Mark) → ns ≡ [] → is_ascii_digit (get_or (bytes_of ns) 0 0) ≡ false
digit_none ns e = ap (λ ms. is_ascii_digit (get_or (bytes_of ms) 0 0)) e

pub digit_is : (ns : List Mark) (m : Mark) (more : List Mark) (v : Bool) → ns ≡ m ∷ more → is_ascii_digit m.byte ≡ v → is_ascii_digit (get_or (bytes_of ns) 0 0) ≡ v
digit_is ns m more v e h = ap (λ ms. is_ascii_digit (get_or (bytes_of ms) 0 0)) e ∙ h

pub two_first : (ms ns more : List Mark) (a b : Mark) (x y : ℕ) → ms ≡ a ∷ ns → ns ≡ b ∷ more → a.byte ≡ x → b.byte ≡ y → bytes_of ms ≡ x ∷ y ∷ bytes_of more
two_first ms ns more a b x y e f g h =
    ap bytes_of (e ∙ ap (λ ks. a ∷ ks) f) ∙ ap (λ v. v ∷ b.byte ∷ bytes_of more) g ∙ ap (λ v. x ∷ v ∷ bytes_of more) h
