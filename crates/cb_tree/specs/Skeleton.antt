-- What of a tree a pass can see without the lines of its text.
use Rattle.std.specs.Prelude.{List, map}
use Rattle.cb_tokens.specs.declared.token.Token.{Token}
use Rattle.cb_tree.specs.declared.node.NodeKind.{NodeKind}
use Rattle.cb_tree.specs.Nodes.{Node}

-- a node's kind, and all tokens of a directive (own)
pub record Bone : Type 0 where
  pub kind : NodeKind
  pub tokens : List Token

-- a node without its lines (own)
abbrev pub bone_of : Node → Bone
bone_of n = record { kind = n.kind; tokens = n.tokens }

-- the kinds of the nodes, with all tokens of each directive, and nothing of text or lines (own)
abbrev pub skeleton : List Node → List Bone
skeleton nodes = map bone_of nodes
