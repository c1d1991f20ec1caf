-- No token and no white space has an LF.
use Rattle.std.proofs.Common.{◌≡◌, ℕ, ◌+◌, ◌-◌, ◌<◌, ◌≤◌, ◌==◌, Bool, true, false, not, cond, ◌&&◌, ◌||◌, List, [], ◌∷◌, length, get_or, take, drop, length-take-le, get_or-drop, refl, ap, sym, ◌∙◌, arith, ◌⊎◌, inl, inr, ⊎_elim}
use Rattle.std.specs.List.{list_all}
use Rattle.std.specs.Char.{is_ascii_digit}
use Rattle.std.proofs.lemmas.Bool.{false≢true, and_parts, and_from, or_cases, or_parts, eqb-true, not-true, cases_lt}
use Rattle.std.proofs.lemmas.Slice.Eq.{bytes_eq-Decides}
use Rattle.cb_lines.specs.Marks.{is_line_feed}
use Rattle.cb_tokens.specs.declared.token.TokenKind.{TokenKind}
use Rattle.cb_tokens.specs.declared.token.TokenKind.TheVariants.{Identifier, Number, Char, Str, Punct, Other}
use Rattle.cb_tokens.specs.declared.token.PieceKind.TheVariants.{White, LineEnd, Token}
use Rattle.cb_tokens.specs.declared.first.First.TheVariants as first
use Rattle.cb_tokens.specs.Forms.{is_white, is_white_run, is_name_start, is_quote, is_prefix_letter, is_punctuator, is_quoted, closes, is_character, is_string, stays_unclosed, is_unclosed, is_stray, fits}
use Rattle.cb_tokens.specs.Cut.{StandsFirst}
use Rattle.cb_tokens.specs.inner.Breaks.{IsTokenAt}
use Rattle.cb_tokens.proofs.Quotes.{none_closes, closes_one, closes_by_steps, stays_one, stays_by_steps}
use Rattle.cb_tokens.proofs.Stretches.{taken_at, is_solid, identifier_solid, number_solid, punctuator_solid, prefix_solid, white_no_feed_byte}

-- no LF
unfoldable goes_on : ℕ → Bool
goes_on b = not (is_line_feed b)

solid_goes_on : (b : ℕ) → is_solid b ≡ true → goes_on b ≡ true
unfolding is_solid goes_on
solid_goes_on b h = ap not (or_parts (is_white b) (is_line_feed b) (not-true (is_white b || is_line_feed b) h)).1

no_feed : (b : ℕ) → goes_on b ≡ true → (b == 10) ≡ false
unfolding goes_on
no_feed b h = not-true (b == 10) h

branch : (x y l m : Bool) → cond x false (cond y l m) ≡ true → (x ≡ false) × ((l ≡ true) ⊎ (m ≡ true))
branch true y l m h = absurd (false≢true h)
branch false true l m h = (refl, inl h)
branch false false l m h = (refl, inr h)

unquoted : (b q : ℕ) → ((b == q) || is_line_feed b) ≡ false → goes_on b ≡ true
unfolding goes_on
unquoted b q h = ap not (or_parts (b == q) (is_line_feed b) h).1

-- behind a quote
closing : (q : ℕ) (l : List ℕ) → goes_on q ≡ true → closes q l ≡ true → list_all goes_on l ≡ true
unfolding goes_on
closing q [] g h = absurd (false≢true (sym (none_closes q) ∙ h))
closing q (b ∷ []) g h = and_from (goes_on b) true (ap goes_on (eqb-true b q (sym (closes_one q b) ∙ h)) ∙ g) refl
closing q (b ∷ c ∷ cs) g h =
    let s = branch ((b == q) || is_line_feed b) (b == 92) (not (is_line_feed c) && closes q cs) (closes q (c ∷ cs)) (sym (closes_by_steps q b c cs) ∙ h) in
    and_from (goes_on b) (list_all goes_on (c ∷ cs)) (unquoted b q s.0)
    (⊎_elim (λ e. let p = and_parts (not (is_line_feed c)) (closes q cs) e in and_from (goes_on c) (list_all goes_on cs) p.0 (closing q cs g p.1)) (λ e. closing q (c ∷ cs) g e) s.1)

staying : (q : ℕ) (l : List ℕ) → stays_unclosed q l ≡ true → list_all goes_on l ≡ true
unfolding goes_on
staying q [] h = refl
staying q (b ∷ []) h = and_from (goes_on b) true (unquoted b q (not-true ((b == q) || is_line_feed b) (sym (stays_one q b) ∙ h))) refl
staying q (b ∷ c ∷ cs) h =
    let s = branch ((b == q) || is_line_feed b) (b == 92) (not (is_line_feed c) && stays_unclosed q cs) (stays_unclosed q (c ∷ cs)) (sym (stays_by_steps q b c cs) ∙ h) in
    and_from (goes_on b) (list_all goes_on (c ∷ cs)) (unquoted b q s.0)
    (⊎_elim (λ e. let p = and_parts (not (is_line_feed c)) (stays_unclosed q cs) e in and_from (goes_on c) (list_all goes_on cs) p.0 (staying q cs p.1)) (λ e. staying q (c ∷ cs) e) s.1)

quoted : (q : ℕ) (l : List ℕ) → goes_on q ≡ true → is_quoted q l ≡ true → list_all goes_on l ≡ true
unfolding is_quoted
quoted q [] g h = refl
quoted q (b ∷ bs) g h =
    let p = and_parts (b == q) (closes q bs) h in
    and_from (goes_on b) (list_all goes_on bs) (ap goes_on (eqb-true b q p.0) ∙ g) (closing q bs g p.1)

behind_letter : (q : ℕ) (l : List ℕ) → goes_on q ≡ true → (is_prefix_letter (get_or l 0 0) && is_quoted q (drop 1 l)) ≡ true → list_all goes_on l ≡ true
behind_letter q [] g h = refl
behind_letter q (b ∷ bs) g h =
    let p = and_parts (is_prefix_letter b) (is_quoted q bs) h in
    and_from (goes_on b) (list_all goes_on bs) (solid_goes_on b (prefix_solid b p.0)) (quoted q bs g p.1)

u_goes_on : goes_on 117 ≡ true
unfolding goes_on
u_goes_on = refl

eight_goes_on : goes_on 56 ≡ true
unfolding goes_on
eight_goes_on = refl

quote_39 : goes_on 39 ≡ true
unfolding goes_on
quote_39 = refl

quote_34 : goes_on 34 ≡ true
unfolding goes_on
quote_34 = refl

behind_u8 : (l : List ℕ) → ((get_or l 0 0 == 117) && (get_or l 1 0 == 56) && is_quoted 34 (drop 2 l)) ≡ true → list_all goes_on l ≡ true
behind_u8 [] h = refl
behind_u8 (b ∷ []) h =
    let p = and_parts ((b == 117) && (0 == 56)) (is_quoted 34 []) h in
    absurd (false≢true (and_parts (b == 117) (0 == 56) p.0).1)
behind_u8 (b ∷ c ∷ cs) h =
    let p = and_parts ((b == 117) && (c == 56)) (is_quoted 34 cs) h in
    let r = and_parts (b == 117) (c == 56) p.0 in
    and_from (goes_on b) (list_all goes_on (c ∷ cs)) (ap goes_on (eqb-true b 117 r.0) ∙ u_goes_on)
    (and_from (goes_on c) (list_all goes_on cs) (ap goes_on (eqb-true c 56 r.1) ∙ eight_goes_on) (quoted 34 cs quote_34 p.1))

character : (l : List ℕ) → is_character l ≡ true → list_all goes_on l ≡ true
unfolding is_character
character l h =
    ⊎_elim (quoted 39 l quote_39) (behind_letter 39 l quote_39) (or_cases (is_quoted 39 l) (is_prefix_letter (get_or l 0 0) && is_quoted 39 (drop 1 l)) h)

string : (l : List ℕ) → is_string l ≡ true → list_all goes_on l ≡ true
unfolding is_string
string l h =
    let first : Bool = is_quoted 34 l in
    let second : Bool = is_prefix_letter (get_or l 0 0) && is_quoted 34 (drop 1 l) in
    let third : Bool = (get_or l 0 0 == 117) && (get_or l 1 0 == 56) && is_quoted 34 (drop 2 l) in
    ⊎_elim (λ d. ⊎_elim (quoted 34 l quote_34) (behind_letter 34 l quote_34) (or_cases first second d)) (behind_u8 l) (or_cases (first || second) third h)

quote_goes_on : (b : ℕ) → is_quote b ≡ true → goes_on b ≡ true
unfolding is_quote
quote_goes_on b h = ⊎_elim (λ e. ap goes_on (eqb-true b 39 e) ∙ quote_39) (λ e. ap goes_on (eqb-true b 34 e) ∙ quote_34) (or_cases (b == 39) (b == 34) h)

unclosed : (l : List ℕ) → is_unclosed l ≡ true → list_all goes_on l ≡ true
unfolding is_unclosed
unclosed [] h = refl
unclosed (b ∷ bs) h =
    let p = and_parts (is_quote b) (stays_unclosed b bs) h in
    and_from (goes_on b) (list_all goes_on bs) (quote_goes_on b p.0) (staying b bs p.1)

solid_all : (l : List ℕ) → list_all is_solid l ≡ true → list_all goes_on l ≡ true
solid_all [] h = refl
solid_all (b ∷ bs) h =
    let p = and_parts (is_solid b) (list_all is_solid bs) h in
    and_from (goes_on b) (list_all goes_on bs) (solid_goes_on b p.0) (solid_all bs p.1)

whites : (l : List ℕ) → is_white_run l ≡ true → list_all is_white l ≡ true
unfolding is_white_run
whites [] h = refl
whites (b ∷ bs) h = h

stray_goes_on : (w f n d q p : Bool) → not (w || f || n || d || q || p) ≡ true → f ≡ false
stray_goes_on true f n d q p h = absurd (false≢true h)
stray_goes_on false true n d q p h = absurd (false≢true h)
stray_goes_on false false n d q p h = refl

stray : (l : List ℕ) → is_stray l ≡ true → list_all goes_on l ≡ true
unfolding is_stray goes_on
stray [] h = refl
stray (b ∷ []) h =
    and_from (goes_on b) true (ap not (stray_goes_on (is_white b) (is_line_feed b) (is_name_start b) (is_ascii_digit b) (is_quote b) (is_punctuator (b ∷ [])) h)) refl
stray (b ∷ c ∷ cs) h = absurd (false≢true h)

going : (bytes : List ℕ) (len k : ℕ) → len ≤ length bytes → list_all goes_on (take len bytes) ≡ true → k < len → (get_or bytes k 0 == 10) ≡ false
going bytes len k within h lt = no_feed (get_or bytes k 0) (taken_at goes_on bytes len k within h lt)

pub white_in_line : (bytes : List ℕ) (len k : ℕ) → StandsFirst bytes (first.Piece White len) → k < len → (get_or bytes k 0 == 10) ≡ false
unfolding fits
white_in_line bytes len k h lt =
    white_no_feed_byte (get_or bytes k 0) (taken_at is_white bytes len k h.1.within (whites (take len bytes) h.1.holds) lt)

pub line_end_in_line : (bytes : List ℕ) (len k : ℕ) → StandsFirst bytes (first.Piece LineEnd len) → k + 1 < len → (get_or bytes k 0 == 10) ≡ false
unfolding fits
line_end_in_line bytes len k h lt =
    let e = (bytes_eq-Decides (take len bytes) (10 ∷ [])).0 h.1.holds in
    let one : length (take len bytes) ≡ 1 = ap length e in
    absurd (omega (arith, one, length-take-le len bytes h.1.within))

pub token_in_line : (bytes : List ℕ) (kind : TokenKind) (len k : ℕ) → StandsFirst bytes (first.Piece (Token kind) len) → k < len → (get_or bytes k 0 == 10) ≡ false
unfolding fits
token_in_line bytes Identifier len k h lt = going bytes len k h.1.within (solid_all (take len bytes) (identifier_solid (take len bytes) h.1.holds)) lt
token_in_line bytes Number len k h lt = going bytes len k h.1.within (solid_all (take len bytes) (number_solid (take len bytes) h.1.holds)) lt
token_in_line bytes Char len k h lt = going bytes len k h.1.within (character (take len bytes) h.1.holds) lt
token_in_line bytes Str len k h lt = going bytes len k h.1.within (string (take len bytes) h.1.holds) lt
token_in_line bytes Punct len k h lt = going bytes len k h.1.within (solid_all (take len bytes) (punctuator_solid (take len bytes) h.1.holds)) lt
token_in_line bytes Other len k h lt =
    ⊎_elim (λ e. going bytes len k h.1.within (unclosed (take len bytes) e) lt) (λ e. going bytes len k h.1.within (stray (take len bytes) e) lt)
    (or_cases (is_unclosed (take len bytes)) (is_stray (take len bytes)) h.1.holds)

pub token_no_feed : (bs : List ℕ) (at end : ℕ) → ((k : ℕ) → k < at → (get_or bs k 0 == 10) ≡ false) → IsTokenAt bs at end → (k : ℕ) → k < end → (get_or bs k 0 == 10) ≡ false
token_no_feed bs at end before t k lt =
    elim (cases_lt k at) [
      | inl l ↦ before k l
      | inr ge ↦ (let there_ : at + (k - at) ≡ k = omega arith in
          ap (λ (i : ℕ). get_or bs i 0 == 10) (sym there_) ∙ ap (λ (b : ℕ). b == 10) (sym (get_or-drop at bs (k - at) 0)) ∙ token_in_line (drop at bs) t.0 (end - at) (k - at) t.1 (omega arith))
    ]
