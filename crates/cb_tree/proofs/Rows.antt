-- A directive line, piece by piece in a row.
use Rattle.std.proofs.Common.{◌≡◌, ℕ, ◌+◌, ◌-◌, ◌<◌, ◌≤◌, Bool, true, false, nat_lt, if◌then◌else◌, List, [], ◌∷◌, ◌++◌, length, take, drop, None, Some, refl, ap, sym, subst, ◌∙◌, arith, inl, inr, get_or, get_or-drop, get_or-take, length-append, length-drop}
use Prim.Native.Nat.{zero, suc}
use Rattle.std.proofs.lemmas.Bool.{cases_lt, ltb-true, lt-ltb, le-ltb}
use Rattle.std.proofs.lemmas.List.{append-nil, drop-drop, drop-map, length-map, length-take-le}
use Rattle.cb_lines.specs.declared.mark.Mark.{Mark}
use Rattle.cb_lines.specs.Marks.{bytes_of, is_line_feed}
use Rattle.cb_lines.specs.Lines.{with_line, with_lines, StandOn}
use Rattle.cb_tokens.specs.declared.token.Token.{Token}
use Rattle.cb_tokens.specs.declared.token.TokenKind.{TokenKind}
use Rattle.cb_tokens.specs.declared.token.PieceKind.{PieceKind}
use Rattle.cb_tokens.specs.declared.token.PieceKind.TheVariants as kinds
use Rattle.cb_tokens.specs.declared.first.First.TheVariants as first
use Rattle.cb_tokens.specs.Cut.{StandsFirst}
use Rattle.cb_tree.specs.inner.Reads.{DirectiveGoes, DirectiveStands, GoesInRow, row_counted}
use Rattle.cb_tree.proofs.Pieces.{some_bytes}
use Rattle.cb_tree.proofs.Runs.{one_line}
use Rattle.cb_tree.proofs.Directives.{directive_white, directive_token, directive_ends_line, goes_none, goes_on}

-- what is known of marks on one line
abbrev pub Once : Type 0
Once = (line : ℕ) (ms : List Mark) (set : List ℕ) → 0 < length ms → StandOn line ms → with_lines ms set ≡ with_line line set

-- a line that is added again
again : Once → (line : ℕ) (set : List ℕ) → with_line line (with_line line set) ≡ with_line line set
again once line set = once line (record { byte = 0; line = line } ∷ record { byte = 0; line = line } ∷ []) set (omega arith) (refl, (refl, tt))

again_by : Once → (b : Bool) (line : ℕ) (set : List ℕ) → with_line line (if b then with_line line set else set) ≡ with_line line set
again_by once true line set = again once line set
again_by once false line set = refl

-- marks on one line, in two parts
stand_front : (line n k : ℕ) (ms : List Mark) → StandOn line (take (n + k) ms) → StandOn line (take n ms)
stand_front line zero k ms h = tt
stand_front line (suc n) k [] h = tt
stand_front line (suc n) k (m ∷ ms) h =
    let e : suc n + k ≡ suc (n + k) = omega arith in
    let g : StandOn line (take (suc (n + k)) (m ∷ ms)) = subst (λ (i : ℕ). StandOn line (take i (m ∷ ms))) e h in
    (g.0, stand_front line n k ms g.1)

stand_behind : (line n k : ℕ) (ms : List Mark) → StandOn line (take (n + k) ms) → StandOn line (take k (drop n ms))
stand_behind line zero k ms h = let e : 0 + k ≡ k = omega arith in subst (λ (i : ℕ). StandOn line (take i ms)) e h
stand_behind line (suc n) zero [] h = tt
stand_behind line (suc n) (suc k) [] h = tt
stand_behind line (suc n) k (m ∷ ms) h =
    let e : suc n + k ≡ suc (n + k) = omega arith in
    stand_behind line n k ms (subst (λ (i : ℕ). StandOn line (take i (m ∷ ms))) e h).1

-- the bytes behind so many
pub bytes_behind : (n : ℕ) (bytes : List ℕ) (from : List Mark) → bytes ≡ bytes_of from → drop n bytes ≡ bytes_of (drop n from)
bytes_behind n bytes from e = ap (drop n) e ∙ drop-map (λ (m : Mark). m.byte) n from

pub behind_both : (n len : ℕ) (from : List Mark) → drop len (drop n from) ≡ drop (n + len) from
behind_both n len from = drop-drop len n from

some_taken : (len : ℕ) (mid : List Mark) (kind : TokenKind) → StandsFirst (bytes_of mid) (first.Piece (kinds.Token kind) len) → 0 < length (take len mid)
some_taken len mid kind h =
    let some : 0 < len = some_bytes (bytes_of mid) (kinds.Token kind) len h.1 in
    let within : len ≤ length mid = omega (arith, h.1.within, length-map mid (λ (m : Mark). m.byte)) in
    omega (arith, length-take-le len mid within)

self : (n : ℕ) → nat_lt n n ≡ false
self n = le-ltb n n (omega arith)

-- nothing is read yet
pub row_none : (spaced : Bool) (bytes : List ℕ) (before : List Token) → GoesInRow spaced bytes before before spaced 0
row_none spaced bytes before = λ from line counted e stands.
    rw (self (length before)) (goes_none spaced counted from before)

-- white space more
pub row_white : (spaced spaced' : Bool) (bytes : List ℕ) (before after : List Token) (n len : ℕ) → GoesInRow spaced bytes before after spaced' n
    → StandsFirst (drop n bytes) (first.Piece kinds.White len) → GoesInRow spaced bytes before after true (n + len)
row_white spaced spaced' bytes before after n len h stands = λ from line counted e on.
    let counted' : List ℕ = row_counted (length before) (length after) line counted in
    let there : StandsFirst (bytes_of (drop n from)) (first.Piece kinds.White len) = subst (λ (bs : List ℕ). StandsFirst bs (first.Piece kinds.White len)) (bytes_behind n bytes from e) stands in
    subst (λ (rest : List Mark). DirectiveGoes spaced counted from before after (Some true) counted' rest) (behind_both n len from)
    (goes_on spaced spaced' counted counted' counted' from (drop n from) (drop len (drop n from)) before after after (Some true)
    (h from line counted e (stand_front line n len from on))
    (record { kept = []; added = sym (append-nil after); goes = λ ms own directive. rw (append-nil own) (directive_white ms own spaced' counted' (drop n from) len there directive) }))

-- a token more
pub row_token : Once → (spaced spaced' : Bool) (bytes : List ℕ) (before after : List Token) (n len : ℕ) (kind : TokenKind) (text : List ℕ) → GoesInRow spaced bytes before after spaced' n
    → StandsFirst (drop n bytes) (first.Piece (kinds.Token kind) len) → text ≡ take len (drop n bytes)
    → GoesInRow spaced bytes before (after ++ record { kind = kind; text = text; spaced = spaced' } ∷ []) false (n + len)
row_token once spaced spaced' bytes before after n len kind text h stands text_is = λ from line counted e on.
    let counted' : List ℕ = row_counted (length before) (length after) line counted in
    let mid : List Mark = drop n from in
    let token : Token = record { kind = kind; text = text; spaced = spaced' } in
    let behind : drop n bytes ≡ bytes_of mid = bytes_behind n bytes from e in
    let there : StandsFirst (bytes_of mid) (first.Piece (kinds.Token kind) len) = subst (λ (bs : List ℕ). StandsFirst bs (first.Piece (kinds.Token kind) len)) behind stands in
    let a = h from line counted e (stand_front line n len from on) in
    let more : length (after ++ token ∷ []) ≡ length after + 1 = length-append after (token ∷ []) in
    let fewer : length before ≤ length after = omega (arith, ap length a.added, length-append before a.kept) in
    let grown : row_counted (length before) (length (after ++ token ∷ [])) line counted ≡ with_line line counted =
    rw (lt-ltb (length before) (length (after ++ token ∷ [])) (omega arith)) refl in
    let added : with_lines (take len mid) counted' ≡ row_counted (length before) (length (after ++ token ∷ [])) line counted =
    once line (take len mid) counted' (some_taken len mid kind there) (stand_behind line n len from on)
    ∙ (again_by once (nat_lt (length before) (length after)) line counted ∙ sym grown) in
    subst (λ (rest : List Mark). DirectiveGoes spaced counted from before (after ++ token ∷ []) (Some false) (row_counted (length before) (length (after ++ token ∷ [])) line counted) rest) (behind_both n len from)
    (goes_on spaced spaced' counted counted' (row_counted (length before) (length (after ++ token ∷ [])) line counted) from mid (drop len mid) before after (after ++ token ∷ []) (Some false) a
    (record {
      kept = token ∷ [];
      added = refl;
      goes = λ ms own directive.
          subst (λ (set : List ℕ). DirectiveStands ms (own ++ token ∷ []) (Some false) set (drop len mid)) added
          (directive_token ms own spaced' counted' mid kind len text there (text_is ∙ ap (take len) behind) directive);
    }))

-- bytes behind others without an LF
pub no_feed_behind : (bytes : List ℕ) (n m : ℕ) → ((k : ℕ) → k < n → is_line_feed (get_or bytes k 0) ≡ false)
    → ((k : ℕ) → k < m → is_line_feed (get_or (drop n bytes) k 0) ≡ false) → (k : ℕ) → k < n + m → is_line_feed (get_or bytes k 0) ≡ false
no_feed_behind bytes n m h g k l =
    elim (cases_lt k n) [
      | inl lt ↦ h k lt
      | inr ge ↦ (
          let i : n + (k - n) ≡ k = omega arith in
          ap (λ (j : ℕ). is_line_feed (get_or bytes j 0)) (sym i) ∙ (ap is_line_feed (sym (get_or-drop n bytes (k - n) 0)) ∙ g (k - n) (omega arith))
          )
    ]

pub no_feed_more : ((bs : List ℕ) (kind : TokenKind) (len k : ℕ) → StandsFirst bs (first.Piece (kinds.Token kind) len) → k < len → is_line_feed (get_or bs k 0) ≡ false)
    → (kind : TokenKind) (bytes : List ℕ) (n len : ℕ) → StandsFirst (drop n bytes) (first.Piece (kinds.Token kind) len)
    → ((k : ℕ) → k < n → is_line_feed (get_or bytes k 0) ≡ false) → (k : ℕ) → k < n + len → is_line_feed (get_or bytes k 0) ≡ false
no_feed_more token kind bytes n len stands h = no_feed_behind bytes n len h (λ i g. token (drop n bytes) kind len i stands g)

pub longer : (bytes : List ℕ) (kind : PieceKind) (len : ℕ) → StandsFirst bytes (first.Piece kind len) → 0 < len
longer bytes kind len h = some_bytes bytes kind len h.1

pub one_kept : (before after : List Token) (token : Token) → after ≡ before ++ token ∷ [] → length after ≡ length before + 1
one_kept before after token e = ap length e ∙ length-append before (token ∷ [])

-- a row adds one line at most, and none where no token was kept
row_few_by : (b : Bool) (line n : ℕ) (set : List ℕ) → (b ≡ true → 0 < n) → length (if b then with_line line set else set) ≤ length set + n
row_few_by true line n set h = omega (arith, one_line line set, h refl)
row_few_by false line n set h = omega arith

pub row_few : (before after line n : ℕ) (set : List ℕ) → after ≤ before + n → length (row_counted before after line set) ≤ length set + n
row_few before after line n set h = row_few_by (nat_lt before after) line n set (λ e. omega (arith, ltb-true before after e, h))

-- a byte of the front
pub front_byte : (front bytes : List ℕ) (k : ℕ) → front ≡ take (length front) bytes → k < length front → get_or front k 0 ≡ get_or bytes k 0
front_byte front bytes k e l = ap (λ (bs : List ℕ). get_or bs k 0) e ∙ get_or-take (length front) bytes k 0 l

-- a row that ends with its line
pub row_ends : (spaced spaced' : Bool) (counted counted' : List ℕ) (bytes : List ℕ) (from : List Mark) (before after : List Token) (n : ℕ)
    → DirectiveGoes spaced counted from before after (Some spaced') counted' (drop n from) → bytes ≡ bytes_of from
    → StandsFirst (drop n bytes) (first.Piece kinds.LineEnd 1) → DirectiveGoes spaced counted from before after None counted' (drop (n + 1) from)
row_ends spaced spaced' counted counted' bytes from before after n h e stands =
    let there : StandsFirst (bytes_of (drop n from)) (first.Piece kinds.LineEnd 1) = subst (λ (bs : List ℕ). StandsFirst bs (first.Piece kinds.LineEnd 1)) (bytes_behind n bytes from e) stands in
    subst (λ (rest : List Mark). DirectiveGoes spaced counted from before after None counted' rest) (behind_both n 1 from)
    (goes_on spaced spaced' counted counted' counted' from (drop n from) (drop 1 (drop n from)) before after after None h
    (record { kept = []; added = sym (append-nil after); goes = λ ms own directive. rw (append-nil own) (directive_ends_line ms own spaced' counted' (drop n from) 1 there directive) }))

-- it has a mark more
pub one_more : (bytes : List ℕ) (n : ℕ) → StandsFirst (drop n bytes) (first.Piece kinds.LineEnd 1) → n + 1 ≤ length bytes
one_more bytes n h = let within : 1 ≤ length (drop n bytes) = h.1.within in omega (arith, within, length-drop n bytes)
