-- A directive line, piece by piece.
use Rattle.std.proofs.Common.{◌≡◌, ℕ, Bool, true, false, List, [], ◌∷◌, ◌++◌, take, drop, map, Option, Some, refl, ap, sym, subst, ◌∙◌, append_assoc}
use Rattle.std.proofs.lemmas.List.{append-nil}
use Rattle.cb_lines.specs.declared.mark.Mark.{Mark}
use Rattle.cb_lines.specs.Marks.{bytes_of}
use Rattle.cb_lines.specs.Lines.{with_lines, lines_of}
use Rattle.cb_tokens.specs.declared.token.Token.{Token}
use Rattle.cb_tokens.specs.declared.token.TokenKind.{TokenKind}
use Rattle.cb_tokens.specs.declared.token.PieceKind.{PieceKind}
use Rattle.cb_tokens.specs.declared.token.PieceKind.TheVariants as kinds
use Rattle.cb_tokens.specs.declared.first.First.TheVariants as first
use Rattle.cb_tokens.specs.Cut.{Piece, StandsFirst, IsCut}
use Rattle.cb_tokens.specs.Logical.{split_lines, with_piece, token_of, token_marks, spaced_after}
use Rattle.cb_tree.specs.declared.fault.BuildFault.{BuildFault}
use Rattle.cb_tree.specs.declared.fault.BuildFault.TheVariants.{Bad, NoMemory}
use Rattle.cb_tree.specs.Kinds.{is_hash_text, kind_behind_hash}
use Rattle.cb_tree.specs.inner.Reads.{piece_nodes}
use Rattle.cb_tree.specs.declared.hash.Hash.{Hash}
use Rattle.cb_tokens.specs.declared.token.TokenKind.TheVariants as token
use Rattle.cb_tree.specs.inner.Heads.{hash_text, hash_token, tokens_with}
use Rattle.cb_tree.proofs.HashTokens.{hash_kind}
use Rattle.cb_tree.specs.inner.Reads.{Reads, ReadsDirective, DirectiveStands, DirectiveGoes, Directive, node_in_brief, briefs_of, directive_on, Tells}
use Rattle.cb_tree.specs.Nodes.{directive_node}
use Rattle.cb_tree.proofs.Pieces.{passes, Cuts-trans, cut_of_none, open_after}
use Rattle.cb_tree.proofs.Briefs.{in_brief, directive_line}
use Rattle.cb_tree.proofs.BriefSteps.{directive_begins, directive_goes, directive_ends}
use Rattle.cb_tree.proofs.Runs.{counted_more, same_text}

-- a piece of a directive line
directive_piece : (ms : List Mark) (tokens : List Token) (spaced : Bool) (counted : List ℕ) (rest : List Mark) (k : PieceKind) (n : ℕ)
    → StandsFirst (bytes_of rest) (first.Piece k n) → ReadsDirective ms tokens spaced counted rest
    → ((more : List Piece) → split_lines (record { kind = k; marks = take n rest } ∷ more) ≡ with_piece (record { kind = k; marks = take n rest }) (split_lines more))
    → ReadsDirective ms (tokens ++ token_of k (take n rest) spaced) (spaced_after k) (with_lines (token_marks k (take n rest)) counted) (drop n rest)
directive_piece ms tokens spaced counted rest k n h line same = record {
  pieces = line.pieces ++ record { kind = k; marks = take n rest } ∷ [];
  marks = line.marks ++ token_marks k (take n rest);
  cut = Cuts-trans ms line.pieces rest (record { kind = k; marks = take n rest } ∷ []) (drop n rest) line.cut (passes rest k n h);
  counted_are = counted_more counted line.marks (token_marks k (take n rest)) line.counted_are;
  nodes_are = λ more.
      ap piece_nodes (append_assoc line.pieces (record { kind = k; marks = take n rest } ∷ []) more)
      ∙ (line.nodes_are (record { kind = k; marks = take n rest } ∷ more)
      ∙ (ap (λ x. map node_in_brief (directive_on tokens spaced line.marks x)) (same more)
      ∙ ap (map node_in_brief) (directive_goes k (take n rest) tokens spaced line.marks (split_lines more))));
}

-- white space or a comment in a directive line
pub directive_white : (ms : List Mark) (tokens : List Token) (spaced : Bool) (counted : List ℕ) (rest : List Mark) (n : ℕ)
    → StandsFirst (bytes_of rest) (first.Piece kinds.White n) → ReadsDirective ms tokens spaced counted rest → ReadsDirective ms tokens true counted (drop n rest)
directive_white ms tokens spaced counted rest n h line =
    subst (λ (ts : List Token). ReadsDirective ms ts true counted (drop n rest)) (append-nil tokens) (directive_piece ms tokens spaced counted rest kinds.White n h line (λ more. refl))

pub directive_comment : (ms : List Mark) (tokens : List Token) (spaced : Bool) (counted : List ℕ) (rest : List Mark) (n : ℕ)
    → StandsFirst (bytes_of rest) (first.Piece kinds.Comment n) → ReadsDirective ms tokens spaced counted rest → ReadsDirective ms tokens true counted (drop n rest)
directive_comment ms tokens spaced counted rest n h line =
    subst (λ (ts : List Token). ReadsDirective ms ts true counted (drop n rest)) (append-nil tokens) (directive_piece ms tokens spaced counted rest kinds.Comment n h line (λ more. refl))

-- a token of these bytes
pub token_is : (j : TokenKind) (rest : List Mark) (n : ℕ) (spaced : Bool) (text : List ℕ) → text ≡ take n (bytes_of rest)
    → token_of (kinds.Token j) (take n rest) spaced ≡ record { kind = j; text = text; spaced = spaced } ∷ []
token_is j rest n spaced text h = ap (λ x. record { kind = j; text = x; spaced = spaced } ∷ []) (same_text n rest ∙ sym h)

pub directive_token : (ms : List Mark) (tokens : List Token) (spaced : Bool) (counted : List ℕ) (rest : List Mark) (j : TokenKind) (n : ℕ) (text : List ℕ)
    → StandsFirst (bytes_of rest) (first.Piece (kinds.Token j) n) → text ≡ take n (bytes_of rest) → ReadsDirective ms tokens spaced counted rest
    → ReadsDirective ms (tokens ++ record { kind = j; text = text; spaced = spaced } ∷ []) false (with_lines (take n rest) counted) (drop n rest)
directive_token ms tokens spaced counted rest j n text h e line =
    subst (λ (ts : List Token). ReadsDirective ms (tokens ++ ts) false (with_lines (take n rest) counted) (drop n rest)) (token_is j rest n spaced text e)
    (directive_piece ms tokens spaced counted rest (kinds.Token j) n h line (λ more. refl))

-- the # of a directive
pub directive_start : (rest : List Mark) (j : TokenKind) (n : ℕ) (text : List ℕ)
    → StandsFirst (bytes_of rest) (first.Piece (kinds.Token j) n) → text ≡ take n (bytes_of rest) → is_hash_text (take n (bytes_of rest)) ≡ true
    → ReadsDirective rest (record { kind = j; text = text; spaced = false } ∷ []) false (with_lines (take n rest) []) (drop n rest)
directive_start rest j n text h e hash = record {
  pieces = record { kind = kinds.Token j; marks = take n rest } ∷ [];
  marks = take n rest;
  cut = passes rest (kinds.Token j) n h;
  counted_are = refl;
  nodes_are = λ more.
      in_brief (record { kind = kinds.Token j; marks = take n rest } ∷ more)
      ∙ (ap (map node_in_brief) (directive_begins j (take n rest) (split_lines more) (ap is_hash_text (same_text n rest) ∙ hash))
      ∙ ap (λ ts. map node_in_brief (directive_on ts false (take n rest) (split_lines more))) (token_is j rest n false text e));
}

node_first : (tokens : List Token) (counted : List ℕ) (marks : List Mark) (more : List Piece) → counted ≡ lines_of marks
    → map node_in_brief (Directive tokens marks ∷ briefs_of (split_lines more)) ≡ directive_node tokens counted ∷ piece_nodes more
node_first tokens counted marks more h =
    ap (λ x. directive_node tokens x ∷ map node_in_brief (briefs_of (split_lines more))) (sym h)
    ∙ ap (λ ns. directive_node tokens counted ∷ ns) (sym (in_brief more))

-- a directive ends with its line
pub directive_ends_line : (ms : List Mark) (tokens : List Token) (spaced : Bool) (counted : List ℕ) (rest : List Mark) (n : ℕ)
    → StandsFirst (bytes_of rest) (first.Piece kinds.LineEnd n) → ReadsDirective ms tokens spaced counted rest
    → Reads ms (directive_node tokens counted ∷ []) (drop n rest)
directive_ends_line ms tokens spaced counted rest n h line = record {
  pieces = line.pieces ++ record { kind = kinds.LineEnd; marks = take n rest } ∷ [];
  cut = Cuts-trans ms line.pieces rest (record { kind = kinds.LineEnd; marks = take n rest } ∷ []) (drop n rest) line.cut (passes rest kinds.LineEnd n h);
  nodes_are = λ more g.
      ap piece_nodes (append_assoc line.pieces (record { kind = kinds.LineEnd; marks = take n rest } ∷ []) more)
      ∙ (line.nodes_are (record { kind = kinds.LineEnd; marks = take n rest } ∷ more)
      ∙ (ap (map node_in_brief) (directive_ends tokens spaced line.marks (split_lines more))
      ∙ node_first tokens counted line.marks more line.counted_are));
}

-- or with the source
pub directive_ends_source : (ms : List Mark) (tokens : List Token) (spaced : Bool) (counted : List ℕ) (rest : List Mark) → rest ≡ []
    → ReadsDirective ms tokens spaced counted rest → Reads ms (directive_node tokens counted ∷ []) rest
directive_ends_source ms tokens spaced counted rest h line = record {
  pieces = line.pieces;
  cut = line.cut;
  nodes_are = λ more g.
      let e : more ≡ [] = cut_of_none more (subst (λ (x : List Mark). IsCut x more) h g) in
      rw e (line.nodes_are [] ∙ node_first tokens counted line.marks [] line.counted_are);
}

-- a fault in a directive is a fault of the whole
pub directive_tells : (ms : List Mark) (tokens : List Token) (spaced : Bool) (counted : List ℕ) (rest : List Mark) (fault : BuildFault)
    → ReadsDirective ms tokens spaced counted rest → Tells rest fault → Tells ms fault
directive_tells ms tokens spaced counted rest (Bad fault) line h = (h.0, open_after ms line.pieces rest fault.line line.cut h.1)
directive_tells ms tokens spaced counted rest NoMemory line h = tt

-- nothing is read on yet
pub goes_none : (spaced : Bool) (counted : List ℕ) (from : List Mark) (before : List Token) → DirectiveGoes spaced counted from before before (Some spaced) counted from
goes_none spaced counted from before = record {
  kept = [];
  added = sym (append-nil before);
  goes = λ ms own line. rw (append-nil own) line;
}

stands_as : (ms : List Mark) (own own' : List Token) (next : Option Bool) (counted : List ℕ) (rest : List Mark) → own ≡ own'
    → DirectiveStands ms own next counted rest → DirectiveStands ms own' next counted rest
stands_as ms own own' next counted rest e h = subst (λ (ts : List Token). DirectiveStands ms ts next counted rest) e h

-- one reading on after another
pub goes_on : (spaced spaced' : Bool) (counted counted' counted'' : List ℕ) (from mid rest : List Mark) (before between after : List Token) (next : Option Bool)
    → DirectiveGoes spaced counted from before between (Some spaced') counted' mid → DirectiveGoes spaced' counted' mid between after next counted'' rest
    → DirectiveGoes spaced counted from before after next counted'' rest
goes_on spaced spaced' counted counted' counted'' from mid rest before between after next a b = record {
  kept = a.kept ++ b.kept;
  added = b.added ∙ (ap (λ (ts : List Token). ts ++ b.kept) a.added ∙ append_assoc before a.kept b.kept);
  goes = λ ms own line.
      stands_as ms ((own ++ a.kept) ++ b.kept) (own ++ (a.kept ++ b.kept)) next counted'' rest (append_assoc own a.kept b.kept)
      (b.goes ms (own ++ a.kept) (a.goes ms own line));
}

-- the tokens of a directive line, of which those behind its # are kept
pub line_tokens_are : (hash : Hash) (kept : List Token) → hash_token hash ∷ kept ≡ tokens_with (kind_behind_hash kept) hash kept
line_tokens_are hash kept = rw (directive_line (hash_token hash ∷ kept)) refl

-- the # of a directive by its spelling
pub hash_start : (rest : List Mark) (j : TokenKind) (n : ℕ) (hash : Hash) (counted : List ℕ) (behind : List Mark)
    → StandsFirst (bytes_of rest) (first.Piece (kinds.Token j) n) → is_hash_text (take n (bytes_of rest)) ≡ true → hash_text hash ≡ take n (bytes_of rest)
    → counted ≡ with_lines (take n rest) [] → behind ≡ drop n rest → ReadsDirective rest (hash_token hash ∷ []) false counted behind
hash_start rest j n hash counted behind h t e f g =
    let k : j ≡ token.Punct = hash_kind (bytes_of rest) j n h t in
    let same : record { kind = j; text = take n (bytes_of rest); spaced = false } ≡ hash_token hash =
    ap (λ (x : TokenKind). record { kind = x; text = take n (bytes_of rest); spaced = false }) k
    ∙ ap (λ (x : List ℕ). record { kind = token.Punct; text = x; spaced = false }) (sym e) in
    rw (f, g) (subst (λ (x : Token). ReadsDirective rest (x ∷ []) false (with_lines (take n rest) []) (drop n rest)) same (directive_start rest j n (take n (bytes_of rest)) h refl t))
