use Rattle.std.proofs.Common.{◌≡◌, true, false, rules, Some, List, ℕ, sym, ap, ◌∙◌}
use Rattle.std.specs.Prelude.{option_map, is_some}
use Rattle.std.specs.Borrow.{Bor}
use Rattle.cb_paths.proofs.Suffixes.{last_left, last_first, last_on, last_here}
use Rattle.cb_paths.proofs.suffix.behind_last.Goals as goal

pub pieces-init : goal.pieces-init
pieces-init c = last_first c.args.byte c.args.text.now c.cut.result.0.now c.cut.result.1 c.cut.ensures.front c.cut.ensures.found c.cut.ensures.whole

pub returns-then-is_none : goal.returns-then-is_none
returns-then-is_none c =
    let e : c.pieces.last ≡ Some c.in-Some.left = c.in-Some.is in
    let none' : is_some c.cut-in-Some.result.1 ≡ false = search rules in
    ap (option_map (λ (b : Bor (List ℕ)). b.now)) e
    ∙ sym (last_here c.args.byte c.in-Some.left.now c.cut-in-Some.result.0.now c.cut-in-Some.result.1 none' c.cut-in-Some.ensures.front c.cut-in-Some.ensures.whole)
    ∙ sym (ap (last_left c.args.byte) e)
    ∙ c.pieces.invariant

pub pieces-preserved : goal.pieces-preserved
pieces-preserved c =
    let e : c.pieces.last ≡ Some c.in-Some.left = c.in-Some.is in
    let some : is_some c.cut-in-Some.result.1 ≡ true = search rules in
    last_on c.args.byte c.in-Some.left.now c.cut-in-Some.result.0.now c.cut-in-Some.result.1 some c.cut-in-Some.ensures.front c.cut-in-Some.ensures.found
    ∙ sym (ap (last_left c.args.byte) e)
    ∙ c.pieces.invariant
