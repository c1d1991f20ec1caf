-- The nodes of a source: its directive lines, and the maximal runs of its other logical lines with tokens (6.10).
use Rattle.std.specs.Prelude.{ℕ, ◌<◌, if◌then◌else◌, List, [], ◌∷◌, length, All}
use Rattle.std.specs.List.{flat_map, sum_by}
use Rattle.std.specs.List.Sorted.{IsStrictlyIncreasing}
use Rattle.cb_lines.specs.Lines.{union_of}
use Rattle.cb_tokens.specs.declared.token.Token.{Token}
use Rattle.cb_tokens.specs.Logical.{Line}
use Rattle.cb_tree.specs.declared.node.NodeKind.{NodeKind}
use Rattle.cb_tree.specs.declared.node.NodeKind.TheVariants.{Text}
use Rattle.cb_tree.specs.Kinds.{is_hash, kind_of, rest_of}
use Rattle.cb_tree.specs.Roles.{is_line}

-- a node: its kind, all tokens of a directive and none of text, and the set of its counted lines (6.10 paragraph 2; own)
pub record Node : Type 0 where
  pub kind : NodeKind
  pub tokens : List Token
  pub counted : List ℕ

-- the first physical line with a byte of a token of the node; 0 where there is none (own)
abbrev pub first_of : List ℕ → ℕ
first_of [] = 0
first_of (line ∷ lines) = line

-- the line of a node (own)
abbrev pub node_line : Node → ℕ
node_line n = first_of n.counted

-- the tokens of a node behind its directive's name; none of text (6.10)
abbrev pub node_rest : Node → List Token
node_rest n = rest_of n.tokens

-- the number of the counted lines of all nodes (own)
abbrev pub total_lines : List Node → ℕ
total_lines nodes = sum_by (λ n. length n.counted) nodes

-- each node has a line, and the counted lines of all of them, node after node, rise from 1 on: none stands in two nodes (own)
pub record AreCounted (nodes : List Node) : Type 0 where
  pub lines : All (λ n. 0 < node_line n) nodes
  pub rise : IsStrictlyIncreasing (0 ∷ flat_map (λ n. n.counted) nodes)

-- the node of a run of text with these counted lines (own)
abbrev pub text_node : List ℕ → Node
text_node counted = record { kind = Text; tokens = []; counted = counted }

-- the node of a directive line of these tokens and counted lines (6.10 paragraph 2)
abbrev pub directive_node : List Token → List ℕ → Node
directive_node tokens counted = record { kind = kind_of tokens; tokens = tokens; counted = counted }

-- a line of text before nodes: it joins a run of text that stands at their front (own)
abbrev pub join_text : List ℕ → List Node → List Node
join_text counted [] = text_node counted ∷ []
join_text counted (n ∷ ns) =
    if is_line n.kind then text_node counted ∷ n ∷ ns else text_node (union_of counted n.counted) ∷ ns

-- a logical line before nodes: a directive line is a node, and one without tokens is in none and ends none (6.10 paragraph 2; own)
abbrev pub line_before : List Token → List ℕ → List Node → List Node
line_before [] counted nodes = nodes
line_before (t ∷ ts) counted nodes = if is_hash t then directive_node (t ∷ ts) counted ∷ nodes else join_text counted nodes

-- the nodes of logical lines: the directive lines, and the maximal runs of others with tokens (6.10 paragraph 2; own)
abbrev pub nodes_of : List Line → List Node
nodes_of [] = []
nodes_of (l ∷ ls) = line_before l.tokens l.counted (nodes_of ls)
