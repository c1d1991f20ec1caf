-- The nodes of logical lines, by the marks of their pieces.
use Rattle.std.proofs.Common.{◌≡◌, ℕ, Bool, true, false, if◌then◌else◌, List, [], ◌∷◌, ◌++◌, map, refl, sym, ap, ◌∙◌}
use Rattle.std.specs.Str.{bytes_eq}
use Rattle.std.specs.Prelude.{codes}
use Rattle.std.proofs.lemmas.Grind.{flat_map-append}
use Rattle.cb_lines.specs.declared.mark.Mark.{Mark}
use Rattle.cb_lines.specs.Lines.{lines_of}
use Rattle.cb_tokens.specs.declared.token.Token.{Token}
use Rattle.cb_tokens.specs.Kinds.{is_identifier_kind}
use Rattle.cb_tokens.specs.Cut.{Piece}
use Rattle.cb_tokens.specs.Logical.{split_lines, line_tokens, line_of, logical_lines, token_marks}
use Rattle.cb_tree.specs.declared.node.NodeKind.{NodeKind}
use Rattle.cb_tree.specs.declared.node.NodeKind.TheVariants.{Once, Other}
use Rattle.cb_tree.specs.Kinds.{is_hash, kind_of, kind_of_name, begins_with_name}
use Rattle.cb_tree.specs.Roles.{is_line}
use Rattle.cb_tree.specs.Nodes.{nodes_of, line_before, join_text, directive_node, text_node}
use Rattle.cb_tree.specs.inner.Reads.{Brief, Directive, Run, node_in_brief, solid, run_before, briefs_of, piece_nodes}
use Rattle.cb_tree.specs.inner.Reads as inner
use Rattle.cb_tree.proofs.LineUnions.{lines_of_both}

pub solid-append : (ps xs : List Piece) → solid (ps ++ xs) ≡ solid ps ++ solid xs
solid-append ps xs = flat_map-append (λ p. token_marks p.kind p.marks) ps xs

-- no directive line is text
either_line : (b : Bool) (x y : NodeKind) → is_line x ≡ true → is_line y ≡ true → is_line (if b then x else y) ≡ true
either_line true x y h i = h
either_line false x y h i = i

-- an if-chain of kinds, of which the last is a line
named_line : (name : List ℕ) (rest : List Token) → is_line (kind_of_name name rest) ≡ true
unfolding kind_of_name
named_line name rest =
    either_line (bytes_eq name (codes "if")) _ _ refl (either_line (bytes_eq name (codes "ifdef")) _ _ refl (either_line (bytes_eq name (codes "ifndef")) _ _ refl
    (either_line (bytes_eq name (codes "elif")) _ _ refl (either_line (bytes_eq name (codes "else")) _ _ refl (either_line (bytes_eq name (codes "endif")) _ _ refl
    (either_line (bytes_eq name (codes "define")) _ _ refl (either_line (bytes_eq name (codes "undef")) _ _ refl (either_line (bytes_eq name (codes "include")) _ _ refl
    (either_line (bytes_eq name (codes "error")) _ _ refl
    (either_line (bytes_eq name (codes "pragma")) (if begins_with_name (codes "once") rest then Once else Other) Other
    (either_line (begins_with_name (codes "once") rest) Once Other refl refl) refl))))))))))

pub directive_line : (tokens : List Token) → is_line (kind_of tokens) ≡ true
directive_line [] = refl
directive_line (hash ∷ []) = refl
directive_line (hash ∷ t ∷ ts) = either_line (is_identifier_kind t.kind) (kind_of_name t.text ts) Other (named_line t.text ts) refl

-- a line of text before nodes
joined : (ms : List Mark) (bs : List Brief) → join_text (lines_of ms) (map node_in_brief bs) ≡ map node_in_brief (run_before ms bs)
joined ms [] = refl
joined ms (Run more ∷ bs) = ap (λ counted. text_node counted ∷ map node_in_brief bs) (sym (lines_of_both ms more))
joined ms (Directive ts more ∷ bs) = rw (directive_line ts) refl

before_by : (b : Bool) (t : Token) (ts : List Token) (ms : List Mark) (bs : List Brief)
    → (if b then directive_node (t ∷ ts) (lines_of ms) ∷ map node_in_brief bs else join_text (lines_of ms) (map node_in_brief bs))
    ≡ map node_in_brief (if b then Directive (t ∷ ts) ms ∷ bs else run_before ms bs)
before_by true t ts ms bs = refl
before_by false t ts ms bs = joined ms bs

before : (tokens : List Token) (ms : List Mark) (bs : List Brief) → line_before tokens (lines_of ms) (map node_in_brief bs) ≡ map node_in_brief (inner.line_before tokens ms bs)
before [] ms bs = refl
before (t ∷ ts) ms bs = before_by (is_hash t) t ts ms bs

parts_nodes : (parts : List (List Piece)) → nodes_of (map line_of parts) ≡ map node_in_brief (briefs_of parts)
parts_nodes [] = refl
parts_nodes (part ∷ parts) =
    ap (line_before (line_tokens part) (lines_of (solid part))) (parts_nodes parts) ∙ before (line_tokens part) (solid part) (briefs_of parts)

-- the nodes of a cut's logical lines are those of its pieces
pub line_nodes : (ps : List Piece) → nodes_of (logical_lines ps) ≡ piece_nodes ps
line_nodes ps = parts_nodes (split_lines ps)

pub in_brief : (ps : List Piece) → piece_nodes ps ≡ map node_in_brief (briefs_of (split_lines ps))
in_brief ps = refl
