-- What the private steps of reading a source's nodes say.
use Rattle.std.specs.Prelude.{◌≡◌, ◌⊎◌, ℕ, ◌+◌, ◌<◌, ◌≤◌, Bool, nat_lt, if◌then◌else◌, List, [], ◌∷◌, ◌++◌, length, take, drop, map, Option, Some, None}
use Rattle.std.specs.List.{flat_map}
use Rattle.cb_lines.specs.declared.mark.Mark.{Mark}
use Rattle.cb_lines.specs.Marks.{bytes_of}
use Rattle.cb_lines.specs.Lines.{lines_of, with_line, StandOn}
use Rattle.cb_tokens.specs.declared.token.Token.{Token}
use Rattle.cb_tokens.specs.declared.token.PieceKind.TheVariants as piece
use Rattle.cb_tokens.specs.declared.first.First.TheVariants as first
use Rattle.cb_tokens.specs.Cut.{Piece, StandsFirst, Cuts, IsCut, HasOpenComment}
use Rattle.cb_tokens.specs.Logical.{split_lines, line_tokens, later_tokens, token_marks}
use Rattle.cb_tree.specs.declared.fault.SourceKind.TheVariants as kind
use Rattle.cb_tree.specs.declared.fault.BuildFault.{BuildFault}
use Rattle.cb_tree.specs.declared.fault.BuildFault.TheVariants.{Bad, NoMemory}
use Rattle.cb_tree.specs.declared.nodes.Head.{Head}
use Rattle.cb_tree.specs.declared.node.NodeKind.TheVariants.{Text}
use Rattle.cb_tree.specs.declared.reading.Ahead.{Ahead}
use Rattle.cb_tree.specs.declared.reading.Start.{Start}
use Rattle.cb_tree.specs.declared.reading.Place.{Place}
use Rattle.cb_tree.specs.declared.reading.Place.TheVariants.{LineStart, InLine}
use Rattle.cb_tree.specs.declared.row.InRow.{InRow}
use Rattle.cb_tree.specs.declared.row.InRow.TheVariants as row
use Rattle.cb_tree.specs.Kinds.{is_hash, kind_of}
use Rattle.cb_tree.specs.Nodes.{Node, total_lines, text_node, directive_node}
use Rattle.cb_tree.specs.inner.Heads.{Adds, node_with}
use Rattle.cb_tree.specs.Sections.{first_fault}
use Rattle.cb_tree.specs.Sound.{IsRead, Unsound}

-- a fault that is met while pieces are read: an open comment
abbrev pub Tells : List Mark → BuildFault → Type 0
Tells ms (Bad fault) = (fault ≡ record { kind = kind.OpenComment; line = fault.line }) × HasOpenComment ms fault.line
Tells ms NoMemory = Unit {0}

-- a node in brief: a directive's tokens, and the marks of its tokens, or the marks of the tokens of a run of text
pub data Brief : Type 0 where
  Directive : List Token → List Mark → Brief
  Run : List Mark → Brief

-- the node
abbrev pub node_in_brief : Brief → Node
node_in_brief (Directive ts ms) = record { kind = kind_of ts; tokens = ts; counted = lines_of ms }
node_in_brief (Run ms) = record { kind = Text; tokens = []; counted = lines_of ms }

-- the marks of the tokens of pieces
abbrev pub solid : List Piece → List Mark
solid ps = flat_map (λ p. token_marks p.kind p.marks) ps

-- a run, and then nodes, of which a run at their front joins it
abbrev pub run_before : List Mark → List Brief → List Brief
run_before ms [] = Run ms ∷ []
run_before ms (Run more ∷ briefs) = Run (ms ++ more) ∷ briefs
run_before ms (Directive ts more ∷ briefs) = Run ms ∷ Directive ts more ∷ briefs

-- a logical line, and then nodes
abbrev pub line_before : List Token → List Mark → List Brief → List Brief
line_before [] ms briefs = briefs
line_before (t ∷ ts) ms briefs = if is_hash t then Directive (t ∷ ts) ms ∷ briefs else run_before ms briefs

-- the nodes of logical lines
abbrev pub briefs_of : List (List Piece) → List Brief
briefs_of [] = []
briefs_of (part ∷ parts) = line_before (line_tokens part) (solid part) (briefs_of parts)

-- the nodes of pieces
abbrev pub piece_nodes : List Piece → List Node
piece_nodes ps = map node_in_brief (briefs_of (split_lines ps))

-- pieces lead from some marks to others, and their nodes come before those of whatever cut follows
pub record Reads (ms : List Mark) (nodes : List Node) (rest : List Mark) : Type 0 where
  pub pieces : List Piece
  pub cut : Cuts ms pieces rest
  pub nodes_are : (more : List Piece) → IsCut rest more → piece_nodes (pieces ++ more) ≡ nodes ++ piece_nodes more

-- a run whose last line goes on with the first of these parts
abbrev pub run_on : List Mark → List (List Piece) → List Brief
run_on ms [] = Run ms ∷ []
run_on ms (part ∷ parts) = run_before (ms ++ solid part) (briefs_of parts)

-- a run, at the start of a line or in one
abbrev pub run_from : Place → List Mark → List (List Piece) → List Brief
run_from LineStart ms parts = run_before ms (briefs_of parts)
run_from InLine ms parts = run_on ms parts

-- a directive whose line goes on with the first of these parts
abbrev pub directive_on : List Token → Bool → List Mark → List (List Piece) → List Brief
directive_on ts spaced ms [] = Directive ts ms ∷ []
directive_on ts spaced ms (part ∷ parts) = Directive (ts ++ later_tokens spaced part) (ms ++ solid part) ∷ briefs_of parts

-- a run of text is read up to the rest, and its counted lines are these so far
pub record ReadsRun (ms : List Mark) (place : Place) (counted : List ℕ) (rest : List Mark) : Type 0 where
  pub pieces : List Piece
  pub marks : List Mark
  pub cut : Cuts ms pieces rest
  pub counted_are : counted ≡ lines_of marks
  pub nodes_are : (more : List Piece) → piece_nodes (pieces ++ more) ≡ map node_in_brief (run_from place marks (split_lines more))

-- a directive is read up to the rest, and its tokens and counted lines are these so far
pub record ReadsDirective (ms : List Mark) (tokens : List Token) (spaced : Bool) (counted : List ℕ) (rest : List Mark) : Type 0 where
  pub pieces : List Piece
  pub marks : List Mark
  pub cut : Cuts ms pieces rest
  pub counted_are : counted ≡ lines_of marks
  pub nodes_are : (more : List Piece)
      → piece_nodes (pieces ++ more) ≡ map node_in_brief (directive_on tokens spaced marks (split_lines more))

-- the piece that stands next, or none at the end
abbrev pub StandsNext : List Mark → Option Ahead → Type 0
StandsNext ms None = ms ≡ []
StandsNext ms (Some next) = StandsFirst (bytes_of ms) (first.Piece next.kind next.len)

-- the token that stands next, or none at the end
abbrev pub StartsNext : List Mark → Option Start → Type 0
StartsNext ms None = ms ≡ []
StartsNext ms (Some start) = StandsFirst (bytes_of ms) (first.Piece (piece.Token start.kind) start.len)

-- a run goes on, or has ended and is a node
abbrev pub RunGoes : List Mark → Option Place → List ℕ → List Mark → Type 0
RunGoes ms None counted rest = Reads ms (text_node counted ∷ []) rest
RunGoes ms (Some place) counted rest = ReadsRun ms place counted rest

-- a directive stands: it goes on, with the white space before its next token, or has ended and is a node
abbrev pub DirectiveStands : List Mark → List Token → Option Bool → List ℕ → List Mark → Type 0
DirectiveStands ms own None counted rest = Reads ms (directive_node own counted ∷ []) rest
DirectiveStands ms own (Some spaced) counted rest = ReadsDirective ms own spaced counted rest

-- a directive is read on from some marks to others, and its tokens are kept behind those before them
pub record DirectiveGoes (spaced : Bool) (counted : List ℕ) (from : List Mark) (before after : List Token) (next : Option Bool) (counted' : List ℕ) (rest : List Mark) : Type 0 where
  pub kept : List Token
  pub added : after ≡ before ++ kept
  pub goes : (ms : List Mark) (own : List Token) → ReadsDirective ms own spaced counted from → DirectiveStands ms (own ++ kept) next counted' rest

-- what stands at a place of bytes, of a row that ends at another one: a token to its end, a line end, or else
abbrev pub IsInRow : List ℕ → ℕ → ℕ → InRow → Type 0
IsInRow bytes at end (row.Token t) = StandsFirst (drop at bytes) (first.Piece (piece.Token t.kind) t.len) × (at + t.len ≤ end)
IsInRow bytes at end row.LineEnd = StandsFirst (drop at bytes) (first.Piece piece.LineEnd 1)
IsInRow bytes at end row.Beyond = Unit {0}

-- counted lines with that of a row, where tokens of it were kept
abbrev pub row_counted : ℕ → ℕ → ℕ → List ℕ → List ℕ
row_counted before after line counted = if nat_lt before after then with_line line counted else counted

-- so many bytes of a directive line are read in a row, and the tokens among them kept, wherever the bytes stand on one line
abbrev pub GoesInRow : Bool → List ℕ → List Token → List Token → Bool → ℕ → Type 0
GoesInRow spaced bytes before after spaced' n =
    (from : List Mark) (line : ℕ) (counted : List ℕ) → bytes ≡ bytes_of from → StandOn line (take n from)
    → DirectiveGoes spaced counted from before after (Some spaced') (row_counted (length before) (length after) line counted) (drop n from)

-- a directive that began with these tokens is a node, and is kept behind the nodes before it
abbrev pub HeadReads : List Token → Bool → List ℕ → List Mark → List Token → List Token → List Mark → Head → Type 0
HeadReads first spaced counted from before after rest head =
    (ms : List Mark) → ReadsDirective ms first spaced counted from
    → (own : List Token) × Adds before after head own × Reads ms (node_with own head ∷ []) rest

-- or has a fault
abbrev pub HeadTells : List Token → Bool → List ℕ → List Mark → BuildFault → Type 0
HeadTells first spaced counted from fault = (ms : List Mark) → ReadsDirective ms first spaced counted from → Tells ms fault

-- the next node is read and its tokens are kept, or the source has ended
abbrev pub ReadsNode : List Mark → List Mark → List Token → List Token → Option Head → Type 0
ReadsNode ms rest before after None = Reads ms [] rest × (rest ≡ []) × (after ≡ before)
ReadsNode ms rest before after (Some head) =
    ((own : List Token) × Adds before after head own × Reads ms (node_with own head ∷ []) rest)
    × (length rest < length ms) × (length head.counted + length rest ≤ length ms)

-- the rest of a source is read after a node's fault, which an open comment behind it overrules
abbrev pub ReadsOut : List Mark → BuildFault → BuildFault → Type 0
ReadsOut ms fault result = ((result ≡ fault) × (nodes : List Node) × Reads ms nodes []) ⊎ Tells ms result

-- the marks have the fault: an open comment, or the first fault of their nodes
abbrev pub Refuses : List Mark → BuildFault → Type 0
Refuses ms NoMemory = Unit {0}
Refuses ms (Bad fault) = Tells ms (Bad fault) ⊎ ((nodes : List Node) × Reads ms nodes [] × (first_fault nodes [] ≡ Some fault))

-- these are the nodes of the marks, and they have no fault
pub record AreSound (ms : List Mark) (nodes : List Node) : Type 0 where
  pub reads : Reads ms nodes []
  pub no_fault : first_fault nodes [] ≡ None
  pub few : length nodes ≤ length ms
  pub few_lines : total_lines nodes ≤ length ms

-- the source has the fault
abbrev pub IsReadAs : List ℕ → BuildFault → Type 0
IsReadAs source NoMemory = Unit {0}
IsReadAs source (Bad fault) = IsRead source (Unsound fault)
