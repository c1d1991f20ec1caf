use Rattle.std.proofs.Common.{◌≡◌, ap, ◌∙◌, length, arith}
use Rattle.std.specs.Prelude.{reverse}
use Prim.Native.Nat.{suc}
use Rattle.std.proofs.Math.ListN.{set}
use Rattle.cb_pass.specs.Sections.{turned, section_turned}
use Rattle.cb_pass.proofs.Stack.{turned_last}
use Rattle.cb_pass.proofs.section.Sections.turn.Goals as goal

pub returns-in-Some : goal.returns-in-Some
returns-in-Some c =
    let items = c.self.inside.stack.items in
    let last = c.in-Some.last in
    let is_last : suc last ≡ length items = omega (arith, c.in-Some.ensures, c.len.ensures, c.self.inside.stack.ok.0) in
    ap (λ v. reverse (set items last v)) (c.after_else.ensures ∙ ap section_turned c.index.ensures)
    ∙ turned_last items last c.index.result.now is_last
    ∙ ap turned c.self.view_is
