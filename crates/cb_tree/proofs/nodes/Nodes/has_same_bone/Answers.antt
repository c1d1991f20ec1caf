use Rattle.std.proofs.Common.{Some, ap, sym, ◌∙◌}
use Rattle.std.specs.Option.{option_map}
use Rattle.cb_tree.specs.Skeleton.{bone_of}
use Rattle.cb_tree.proofs.Heads.{same_of_some}
use Rattle.cb_tree.proofs.nodes.Nodes.has_same_bone.Goals as goal

pub returns : goal.returns
returns c = (
  λ same. ap (option_map bone_of) c.kept.ensures ∙ (ap Some (c.are_same.ensures.0 same) ∙ sym (ap (option_map bone_of) c.kept-2.ensures)),
  λ same. c.are_same.ensures.1 (same_of_some _ _ (sym (ap (option_map bone_of) c.kept.ensures) ∙ (same ∙ ap (option_map bone_of) c.kept-2.ensures))),
)
