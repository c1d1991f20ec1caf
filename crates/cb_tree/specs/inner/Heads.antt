-- How nodes are kept.
use Rattle.std.specs.Prelude.{◌≡◌, ℕ, ◌-◌, ◌≤◌, false, if◌then◌else◌, List, [], ◌∷◌, ◌++◌, length, take, drop, codes}
use Rattle.cb_tokens.specs.declared.token.Token.{Token}
use Rattle.cb_tokens.specs.declared.token.TokenKind.TheVariants as token
use Rattle.cb_tree.specs.declared.node.NodeKind.{NodeKind}
use Rattle.cb_tree.specs.declared.hash.Hash.{Hash}
use Rattle.cb_tree.specs.declared.hash.Hash.TheVariants.{Sign, Digraph}
use Rattle.cb_tree.specs.declared.nodes.Head.{Head}
use Rattle.cb_tree.specs.Roles.{is_line}
use Rattle.cb_tree.specs.Nodes.{Node}
use Rattle.cb_tree.specs.Skeleton.{Bone, bone_of}

-- the bytes of a #
abbrev pub hash_text : Hash → List ℕ
hash_text Sign = codes "#"
hash_text Digraph = codes "%:"

-- a #
abbrev pub hash_token : Hash → Token
hash_token hash = record { kind = token.Punct; spaced = false; text = hash_text hash }

-- the tokens of a node, of which these are kept: not the # of a directive
abbrev pub tokens_with : NodeKind → Hash → List Token → List Token
tokens_with kind hash kept = if is_line kind then hash_token hash ∷ kept else []

-- a node of these tokens
abbrev pub node_with : List Token → Head → Node
node_with own h = record { kind = h.kind; tokens = own; counted = h.counted }

-- a node of which these tokens are kept
abbrev pub node_of : List Token → Head → Node
node_of kept h = node_with (tokens_with h.kind h.hash kept) h

-- and it without its lines
abbrev pub bone_with : List Token → Head → Bone
bone_with kept h = bone_of (node_of kept h)

-- a node, where these are the tokens that are kept of all nodes, and so many are those of the nodes before it
abbrev pub node_in : List Token → ℕ → Head → Node
node_in tokens from h = node_of (take (h.to - from) (drop from tokens)) h

-- nodes, where these are the tokens that are kept of all nodes, and so many are those of the nodes before them
abbrev pub nodes_in : List Token → ℕ → List Head → List Node
nodes_in tokens from [] = []
nodes_in tokens from (h ∷ hs) = node_in tokens from h ∷ nodes_in tokens h.to hs

-- the tokens that are kept of each node lie behind those of the nodes before it, and among so many
abbrev pub AreWithin : ℕ → ℕ → List Head → Type 0
AreWithin count from [] = Unit {0}
AreWithin count from (h ∷ hs) = ((from ≤ h.to) × (h.to ≤ count)) × AreWithin count h.to hs

-- the number of the tokens that are kept up to the end of nodes behind so many
abbrev pub kept_up_to : ℕ → List Head → ℕ
kept_up_to from [] = from
kept_up_to from (h ∷ hs) = kept_up_to h.to hs

-- a node of these tokens is kept behind the nodes before it
pub record Adds (before after : List Token) (head : Head) (own : List Token) : Type 0 where
  pub kept : List Token
  pub added : after ≡ before ++ kept
  pub to_is : head.to ≡ length after
  pub own_is : own ≡ tokens_with head.kind head.hash kept
