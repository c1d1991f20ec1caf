-- The sources that are kept.
use Rattle.std.specs.Prelude.{ℕ, List}
use Rattle.cb_tree.specs.Nodes.{Node}
use Rattle.cb_tree.specs.Sound.{IsRead, Sound}
use Rattle.cb_outside.specs.Tables.{Texts}
use Rattle.cb_inputs.specs.declared.source.Source.{Source}
use Rattle.cb_inputs.specs.Texts.{ByPath, each_read}

-- the bytes of sources (own)
abbrev pub source_texts : ByPath Source → Texts
source_texts sources = each_read (λ (source : Source). source.bytes) sources

-- the trees of sources (own)
abbrev pub source_trees : ByPath Source → ByPath (List Node)
source_trees sources = each_read (λ (source : Source). source.tree) sources

-- the tree of a source is that of its bytes (own)
pub record IsReadSource (source : Source) : Type 0 where
  pub says : IsRead source.bytes (Sound source.tree)

-- bytes are a source: they have a tree (own)
abbrev pub IsSource : List ℕ → Type 0
IsSource bytes = (nodes : List Node) × IsRead bytes (Sound nodes)
