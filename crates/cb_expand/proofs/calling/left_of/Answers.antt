use Rattle.std.proofs.Common.{◌-◌, take, drop, [], refl, ap, ◌∙◌}
use Rattle.std.specs.Prelude.{if◌then◌else◌, reverse}
use Rattle.cb_macro.specs.Parts.{parts, is_raw}
use Rattle.cb_expand.proofs.Begun.{slice_between}
use Rattle.cb_expand.proofs.calling.left_of.Goals as goal

pub returns : goal.returns
returns c =
    let a = c.args in
    record {
      ends_at = refl;
      shown = c.is_shown.ensures;
      raw = c.in_ok-raw.ensures
          ∙ (ap (λ b. if b then reverse (take (a.from - a.end) (drop a.end a.tokens.now)) else []) c.is_raw.ensures
          ∙ ap (λ xs. if is_raw a.at (parts a.body.now) then reverse xs else []) (slice_between a.end a.from a.tokens.now c.requires.end));
    }
