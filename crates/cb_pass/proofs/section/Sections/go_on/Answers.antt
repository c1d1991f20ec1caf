use Rattle.std.proofs.Common.{◌≡◌, ap, ◌∙◌, length, arith}
use Rattle.std.specs.Prelude.{reverse}
use Prim.Native.Nat.{suc}
use Rattle.std.proofs.Math.ListN.{set}
use Rattle.cb_pass.specs.Sections.{continued, section_continued}
use Rattle.cb_pass.proofs.Stack.{continued_last}
use Rattle.cb_pass.proofs.section.Sections.go_on.Goals as goal

pub returns-in-Some : goal.returns-in-Some
returns-in-Some c =
    let items = c.self.inside.stack.items in
    let last = c.in-Some.last in
    let is_last : suc last ≡ length items = omega (arith, c.in-Some.ensures, c.len.ensures, c.self.inside.stack.ok.0) in
    ap (λ v. reverse (set items last v)) (c.after_elif.ensures ∙ ap (section_continued c.args.condition) c.index.ensures)
    ∙ continued_last c.args.condition items last c.index.result.now is_last
    ∙ ap (continued c.args.condition) c.self.view_is
