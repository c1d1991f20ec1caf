use Rattle.std.proofs.Common.{sym, ◌∙◌}
use Rattle.cb_pass.proofs.Leaping.{leaps}
use Rattle.cb_pass.proofs.open_file.OpenFile.pass_dead_group.Goals as goal

pub returns-clause-moved : goal.returns-clause-moved
returns-clause-moved c = λ files command s.
    leaps files command s c.args.self.now.frame c.leap.new.self.frame (sym c.is_live.ensures ∙ c.if-is_live.false) c.leap.ensures.moved
