-- How the sets of an arena lie in its nodes.
use Rattle.std.specs.Prelude.{ℕ, ◌+◌, ◌*◌, Bool, true, false, suc, List, [], ◌∷◌, ◌++◌, map}
use Rattle.cb_paste.specs.declared.hides.Cell.{Cell}
use Rattle.cb_paste.specs.declared.hides.Node.{Node}
use Rattle.cb_paste.specs.declared.hides.Node.TheVariants.{One, Fork}
use Rattle.cb_paste.specs.Sets.{set_at}
use Rattle.cb_paste.specs.inner.Nodes.{IsNodeOver}

-- the place 0, where a fork has it (own)
abbrev pub zero_at : Bool → List ℕ
zero_at true = 0 ∷ []
zero_at false = []

-- the set of a fork over those of an arena (own)
abbrev pub set_of : List (List ℕ) → Cell → List ℕ
set_of sets c =
    zero_at c.here ++ (map (λ k. 2 * k + 1) (set_at sets c.odd) ++ map (λ k. 2 * k + 2) (set_at sets c.even))

-- the set of a node over those of an arena (own)
abbrev pub node_set : List (List ℕ) → Node → List ℕ
node_set sets (One p) = p ∷ []
node_set sets (Fork c) = set_of sets c

-- the sets of nodes behind those of an arena (own)
abbrev pub sets_from : List (List ℕ) → List Node → List (List ℕ)
sets_from sets [] = sets
sets_from sets (c ∷ cs) = sets_from (sets ++ node_set sets c ∷ []) cs

-- the sets of nodes (own)
abbrev pub sets_of : List Node → List (List ℕ)
sets_of cs = sets_from [] cs

-- each of the nodes, the first of which stands behind so many, stands over sets before it (own)
abbrev pub AreNodesFrom : ℕ → List Node → Type 0
AreNodesFrom count [] = Unit {0}
AreNodesFrom count (c ∷ cs) = IsNodeOver count c × AreNodesFrom (suc count) cs

-- each of the nodes stands over sets before it (own)
abbrev pub AreNodes : List Node → Type 0
AreNodes cs = AreNodesFrom 0 cs
