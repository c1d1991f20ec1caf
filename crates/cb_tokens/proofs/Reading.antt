-- A logical line, piece by piece.
use Rattle.std.proofs.Common.{◌≡◌, ℕ, suc, ◌<◌, ◌≤◌, ◌==◌, Bool, true, false, not, cond, List, [], ◌∷◌, ◌++◌, length, take, drop, sym, refl, ap, ◌∙◌, subst, arith, append_assoc, length-drop}
use Rattle.std.specs.List.{flat_map}
use Rattle.std.proofs.lemmas.Bool.{false≢true, ne_eqb}
use Rattle.std.proofs.lemmas.List.{append-nil, flat_map_more, take-map}
use Rattle.cb_lines.specs.declared.mark.Mark.{Mark}
use Rattle.cb_lines.specs.Marks.{bytes_of}
use Rattle.cb_lines.specs.Lines.{with_line, with_lines}
use Rattle.cb_tokens.specs.declared.token.TokenKind.{TokenKind}
use Rattle.cb_tokens.specs.declared.token.PieceKind.{PieceKind}
use Rattle.cb_tokens.specs.declared.token.PieceKind.TheVariants as kinds
use Rattle.cb_tokens.specs.declared.token.Token.{Token}
use Rattle.cb_tokens.specs.declared.first.First.TheVariants as first
use Rattle.cb_tokens.specs.Cut.{StandsFirst, Piece, Cuts}
use Rattle.cb_tokens.specs.Logical.{with_piece, before_parts, split_lines, token_marks, token_of, spaced_after, later_tokens, is_token, line_tokens, counted_lines}
use Rattle.cb_tokens.specs.inner.LineCuts.{BeginsWithLine}
use Rattle.cb_tokens.proofs.Cutting.{piece_at, cuts_append, cuts_push, nothing_left, open_behind, piece_some, piece_within}

-- the piece ends a logical line
abbrev pub ends_line : PieceKind → Bool
ends_line kinds.White = false
ends_line kinds.Comment = false
ends_line kinds.LineEnd = true
ends_line (kinds.Token k) = false

-- none of the pieces does
abbrev pub InLine : List Piece → Type 0
InLine [] = Unit {0}
InLine (p ∷ ps) = (ends_line p.kind ≡ false) × InLine ps

in_line_push : (ps : List Piece) (p : Piece) → InLine ps → ends_line p.kind ≡ false → InLine (ps ++ p ∷ [])
in_line_push [] p h e = (e, tt)
in_line_push (q ∷ ps) p h e = (h.0, in_line_push ps p h.1 e)

before_in : (k : PieceKind) (p : Piece) (parts : List (List Piece)) → ends_line k ≡ false → before_parts k p parts ≡ with_piece p parts
before_in kinds.White p parts e = refl
before_in kinds.Comment p parts e = refl
before_in kinds.LineEnd p parts e = absurd (false≢true (sym e))
before_in (kinds.Token k) p parts e = refl

before_end : (k : PieceKind) (p : Piece) (parts : List (List Piece)) → k ≡ kinds.LineEnd → before_parts k p parts ≡ [] ∷ parts
before_end k p parts e = ap (λ j. before_parts j p parts) e

split_part : (part : List Piece) (e : Piece) (ps : List Piece) → InLine part → e.kind ≡ kinds.LineEnd → split_lines (part ++ e ∷ ps) ≡ part ∷ split_lines ps
split_part [] e ps h k = before_end e.kind e (split_lines ps) k
split_part (p ∷ part) e ps h k =
    before_in p.kind p (split_lines (part ++ e ∷ ps)) h.0 ∙ ap (with_piece p) (split_part part e ps h.1 k)

split_last : (p : Piece) (part : List Piece) → InLine (p ∷ part) → split_lines (p ∷ part) ≡ (p ∷ part) ∷ []
split_last p [] h = before_in p.kind p [] h.0
split_last p (q ∷ part) h = before_in p.kind p (split_lines (q ∷ part)) h.0 ∙ ap (with_piece p) (split_last q part h.1)

assoc : (part : List Piece) (e : Piece) (ps : List Piece) → (part ++ e ∷ []) ++ ps ≡ part ++ e ∷ ps
assoc part e ps = append_assoc part (e ∷ []) ps

pub line_at_feed : (ms : List Mark) (part : List Piece) (mid : List Mark) (n : ℕ) → InLine part → Cuts ms part mid → StandsFirst (bytes_of mid) (first.Piece kinds.LineEnd n) → BeginsWithLine ms part (drop n mid)
line_at_feed ms part mid n i c h =
    let e = piece_at kinds.LineEnd n mid in
    let read = cuts_push ms part mid kinds.LineEnd n c h in
    record {
      cut = λ ps d. ((part ++ e ∷ []) ++ ps, cuts_append ms (part ++ e ∷ []) (drop n mid) ps [] read d, ap split_lines (assoc part e ps) ∙ split_part part e ps i refl);
      open_comment = λ line o. open_behind ms (part ++ e ∷ []) (drop n mid) line read o;
    }

pub line_at_end : (ms : List Mark) (part : List Piece) → InLine part → Cuts ms part [] → 0 < length ms → BeginsWithLine ms part []
line_at_end ms [] i c some = let none : length ms ≡ 0 = ap length c in absurd (omega arith)
line_at_end ms (p ∷ part) i c some = record {
  cut = λ ps d. let none = nothing_left ps d in (p ∷ part, c, split_last p part i ∙ ap (λ qs. (p ∷ part) ∷ split_lines qs) (sym none));
  open_comment = λ line o. open_behind ms (p ∷ part) [] line c o;
}

-- whether a token that comes next is spaced
abbrev space_after : Bool → List Piece → Bool
space_after s [] = s
space_after s (p ∷ ps) = space_after (spaced_after p.kind) ps

abbrev pub next_spaced : List Piece → Bool
next_spaced [] = false
next_spaced (p ∷ ps) = cond (is_token p.kind) (space_after false (p ∷ ps)) (next_spaced ps)

later_push : (s : Bool) (ps : List Piece) (p : Piece) → later_tokens s (ps ++ p ∷ []) ≡ later_tokens s ps ++ token_of p.kind p.marks (space_after s ps)
later_push s [] p = append-nil (token_of p.kind p.marks s)
later_push s (q ∷ ps) p =
    ap (λ ts. token_of q.kind q.marks s ++ ts) (later_push (spaced_after q.kind) ps p)
    ∙ sym (append_assoc (token_of q.kind q.marks s) (later_tokens (spaced_after q.kind) ps) (token_of p.kind p.marks (space_after (spaced_after q.kind) ps)))

first_token : (k : PieceKind) (ms : List Mark) → cond (is_token k) (token_of k ms false ++ []) [] ≡ token_of k ms false
first_token kinds.White ms = refl
first_token kinds.Comment ms = refl
first_token kinds.LineEnd ms = refl
first_token (kinds.Token k) ms = refl

either : (b : Bool) (x y u v : List Token) (t : Bool → List Token) (s r : Bool) → x ≡ u ++ t s → y ≡ v ++ t r → cond b x y ≡ cond b u v ++ t (cond b s r)
either true x y u v t s r e f = e
either false x y u v t s r e f = f

pub line_tokens_push : (ps : List Piece) (p : Piece) → line_tokens (ps ++ p ∷ []) ≡ line_tokens ps ++ token_of p.kind p.marks (next_spaced ps)
line_tokens_push [] p = first_token p.kind p.marks
line_tokens_push (q ∷ ps) p =
    either (is_token q.kind) (later_tokens false (q ∷ (ps ++ p ∷ []))) (line_tokens (ps ++ p ∷ [])) (later_tokens false (q ∷ ps)) (line_tokens ps) (token_of p.kind p.marks)
    (space_after false (q ∷ ps)) (next_spaced ps) (later_push false (q ∷ ps) p) (line_tokens_push ps p)

space_push : (s : Bool) (ps : List Piece) (p : Piece) → space_after s (ps ++ p ∷ []) ≡ spaced_after p.kind
space_push s [] p = refl
space_push s (q ∷ ps) p = space_push (spaced_after q.kind) ps p

same : (b x : Bool) → cond b x x ≡ x
same true x = refl
same false x = refl

-- behind a token nothing is spaced
pub spaced_token : (ps : List Piece) (k : TokenKind) (ms : List Mark) → next_spaced (ps ++ record { kind = kinds.Token k; marks = ms } ∷ []) ≡ false
spaced_token [] k ms = refl
spaced_token (q ∷ ps) k ms =
    let p : Piece = record { kind = kinds.Token k; marks = ms } in
    ap (λ s. cond (is_token q.kind) s (next_spaced (ps ++ p ∷ []))) (space_push false (q ∷ ps) p)
    ∙ ap (λ s. cond (is_token q.kind) false s) (spaced_token ps k ms) ∙ same (is_token q.kind) false

some_tokens : (k : PieceKind) (ms : List Mark) (ts : List Token) → is_token k ≡ true → not (length (token_of k ms false ++ ts) == 0) ≡ true
some_tokens kinds.White ms ts h = absurd (false≢true h)
some_tokens kinds.Comment ms ts h = absurd (false≢true h)
some_tokens kinds.LineEnd ms ts h = absurd (false≢true h)
some_tokens (kinds.Token k) ms ts h = ap not (ne_eqb (suc (length ts)) 0 (λ e. absurd (omega arith)))

by_first : (b : Bool) (ts us : List Token) → (b ≡ true → not (length ts == 0) ≡ true) → cond b true (not (length us == 0)) ≡ not (length (cond b ts us) == 0)
by_first true ts us h = sym (h refl)
by_first false ts us h = refl

-- behind white space what comes next is spaced where a token stands before it
pub spaced_space : (ps : List Piece) (k : PieceKind) (ms : List Mark) → is_token k ≡ false → spaced_after k ≡ true → next_spaced (ps ++ record { kind = k; marks = ms } ∷ []) ≡ not (length (line_tokens ps) == 0)
spaced_space [] k ms t s = rw t refl
spaced_space (q ∷ ps) k ms t s =
    let p : Piece = record { kind = k; marks = ms } in
    ap (λ v. cond (is_token q.kind) v (next_spaced (ps ++ p ∷ []))) (space_push false (q ∷ ps) p ∙ s)
    ∙ (ap (λ v. cond (is_token q.kind) true v) (spaced_space ps k ms t s)
    ∙ by_first (is_token q.kind) (later_tokens false (q ∷ ps)) (line_tokens ps) (λ h. some_tokens q.kind q.marks (later_tokens (spaced_after q.kind) ps) h))

-- the lines of more marks
with_lines_append : (ms ns : List Mark) (set : List ℕ) → with_lines (ms ++ ns) set ≡ with_lines ns (with_lines ms set)
with_lines_append [] ns set = refl
with_lines_append (m ∷ ms) ns set = with_lines_append ms ns (with_line m.line set)

counted_push : (ps : List Piece) (p : Piece) → counted_lines (ps ++ p ∷ []) ≡ with_lines (token_marks p.kind p.marks) (counted_lines ps)
counted_push ps p =
    ap (λ ms. with_lines ms []) (sym (flat_map_more (λ (q : Piece). token_marks q.kind q.marks) [] ps p))
    ∙ with_lines_append (flat_map (λ (q : Piece). token_marks q.kind q.marks) ps) (token_marks p.kind p.marks) []

-- the marks are read so far, up to a rest, and these are the tokens and lines of what was read
pub record ReadsTo (ms : List Mark) (part : List Piece) (rest : List Mark) (tokens : List Token) (counted : List ℕ) (spaced : Bool) : Type 0 where
  pub in_line : InLine part
  pub cuts : Cuts ms part rest
  pub tokens_are : tokens ≡ line_tokens part
  pub counted_are : counted ≡ counted_lines part
  pub spaced_is : spaced ≡ next_spaced part
  pub no_longer : length rest ≤ length ms

abbrev pub HasRead : List Mark → List Mark → List Token → List ℕ → Bool → Type 0
HasRead ms rest tokens counted spaced = (part : List Piece) × ReadsTo ms part rest tokens counted spaced

pub read_none : (ms : List Mark) → HasRead ms ms [] [] false
read_none ms = (
  [],
  record {
    in_line = tt;
    cuts = refl;
    tokens_are = refl;
    counted_are = refl;
    spaced_is = refl;
    no_longer = omega arith;
  },
)

no_token : (k : PieceKind) (ms : List Mark) (s : Bool) → is_token k ≡ false → token_of k ms s ≡ []
no_token kinds.White ms s h = refl
no_token kinds.Comment ms s h = refl
no_token kinds.LineEnd ms s h = refl
no_token (kinds.Token k) ms s h = absurd (false≢true (sym h))

no_marks : (k : PieceKind) (ms : List Mark) → is_token k ≡ false → token_marks k ms ≡ []
no_marks kinds.White ms h = refl
no_marks kinds.Comment ms h = refl
no_marks kinds.LineEnd ms h = refl
no_marks (kinds.Token k) ms h = absurd (false≢true (sym h))

pub read_token : (ms rest : List Mark) (tokens : List Token) (counted : List ℕ) (spaced : Bool) (k : TokenKind) (n : ℕ) → HasRead ms rest tokens counted spaced → StandsFirst (bytes_of rest) (first.Piece (kinds.Token k) n)
    → HasRead ms (drop n rest) (tokens ++ record { kind = k; text = take n (bytes_of rest); spaced = spaced } ∷ []) (with_lines (take n rest) counted) false
read_token ms rest tokens counted spaced k n (part, r) h =
    let p = piece_at (kinds.Token k) n rest in (
      part ++ p ∷ [],
      record {
        in_line = in_line_push part p r.in_line refl;
        cuts = cuts_push ms part rest (kinds.Token k) n r.cuts h;
        tokens_are = ap (λ ts. ts ++ record { kind = k; text = take n (bytes_of rest); spaced = spaced } ∷ []) r.tokens_are
            ∙ ap (λ t. line_tokens part ++ record { kind = k; text = t; spaced = spaced } ∷ []) (take-map (λ (m : Mark). m.byte) n rest)
            ∙ ap (λ s. line_tokens part ++ record { kind = k; text = bytes_of (take n rest); spaced = s } ∷ []) r.spaced_is ∙ sym (line_tokens_push part p);
        counted_are = ap (with_lines (take n rest)) r.counted_are ∙ sym (counted_push part p);
        spaced_is = sym (spaced_token part k (take n rest));
        no_longer = let k = r.no_longer in omega (arith, length-drop n rest);
      },
    )

pub read_space : (ms rest : List Mark) (tokens : List Token) (counted : List ℕ) (spaced : Bool) (k : PieceKind) (n : ℕ) → HasRead ms rest tokens counted spaced → StandsFirst (bytes_of rest) (first.Piece k n) → is_token k ≡ false → spaced_after k ≡ true → ends_line k ≡ false
    → HasRead ms (drop n rest) tokens counted (not (length tokens == 0))
read_space ms rest tokens counted spaced k n (part, r) h t s e =
    let p = piece_at k n rest in (
      part ++ p ∷ [],
      record {
        in_line = in_line_push part p r.in_line e;
        cuts = cuts_push ms part rest k n r.cuts h;
        tokens_are = r.tokens_are ∙ sym (append-nil (line_tokens part)) ∙ ap (λ ts. line_tokens part ++ ts) (sym (no_token k (take n rest) (next_spaced part) t)) ∙ sym (line_tokens_push part p);
        counted_are = r.counted_are ∙ ap (λ ns. with_lines ns (counted_lines part)) (sym (no_marks k (take n rest) t)) ∙ sym (counted_push part p);
        spaced_is = ap (λ ts. not (length ts == 0)) r.tokens_are ∙ sym (spaced_space part k (take n rest) t s);
        no_longer = let k = r.no_longer in omega (arith, length-drop n rest);
      },
    )

-- the same, under equal names
pub read_as : (ms rest rest' : List Mark) (tokens tokens' : List Token) (counted counted' : List ℕ) (spaced spaced' : Bool) → HasRead ms rest tokens counted spaced → rest' ≡ rest → tokens' ≡ tokens → counted' ≡ counted → spaced' ≡ spaced → HasRead ms rest' tokens' counted' spaced'
read_as ms rest rest' tokens tokens' counted counted' spaced spaced' h e f g i =
    subst (λ v. HasRead ms v tokens' counted' spaced') (sym e)
    (subst (λ v. HasRead ms rest v counted' spaced') (sym f) (subst (λ v. HasRead ms rest tokens v spaced') (sym g) (subst (λ v. HasRead ms rest tokens counted v) (sym i) h)))

-- a line at its end, and at the end of the marks
pub read_feed : (ms rest : List Mark) (tokens : List Token) (counted : List ℕ) (spaced : Bool) (n : ℕ) → HasRead ms rest tokens counted spaced → StandsFirst (bytes_of rest) (first.Piece kinds.LineEnd n)
    → (part : List Piece) × BeginsWithLine ms part (drop n rest) × (tokens ≡ line_tokens part) × (counted ≡ counted_lines part)
read_feed ms rest tokens counted spaced n (part, r) h = (part, line_at_feed ms part rest n r.in_line r.cuts h, r.tokens_are, r.counted_are)

pub read_end : (ms rest : List Mark) (tokens : List Token) (counted : List ℕ) (spaced : Bool) → HasRead ms rest tokens counted spaced → rest ≡ [] → 0 < length ms
    → (part : List Piece) × BeginsWithLine ms part rest × (tokens ≡ line_tokens part) × (counted ≡ counted_lines part)
read_end ms rest tokens counted spaced (part, r) e some =
    (part, subst (λ v. BeginsWithLine ms part v) (sym e) (line_at_end ms part r.in_line (subst (λ v. Cuts ms part v) e r.cuts) some), r.tokens_are, r.counted_are)

pub not_longer : (ms rest : List Mark) (tokens : List Token) (counted : List ℕ) (spaced : Bool) → HasRead ms rest tokens counted spaced → length rest ≤ length ms
not_longer ms rest tokens counted spaced (part, r) = r.no_longer

-- what is left behind a piece is shorter
pub shorter : (rest : List Mark) (k : PieceKind) (n : ℕ) → StandsFirst (bytes_of rest) (first.Piece k n) → length (drop n rest) < length rest
shorter rest k n h = omega (arith, length-drop n rest, piece_some (bytes_of rest) k n h, piece_within rest k n h)
