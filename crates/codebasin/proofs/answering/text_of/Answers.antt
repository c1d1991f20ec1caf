use Rattle.std.proofs.Common.{◌≡◌, [], ap, ◌∙◌}
use Rattle.std.proofs.Math.Path.{fun_ext}
use Rattle.std.proofs.lemmas.Option.{slice_get_within, get_or_from_slice_get}
use Rattle.std.proofs.lemmas.Result.{IfOk-weaker}
use Rattle.cb_pass.specs.Ends.{end_of, reached_in}
use Rattle.cb_pass.specs.Reached.{has_bit}
use Rattle.codebasin.specs.Specialise.{reached_lines}
use Rattle.codebasin.specs.Texts.{numbers_text}
use Rattle.codebasin.proofs.answering.text_of.Goals as goal

pub row-requires : goal.row-requires
row-requires c = slice_get_within _ 0 _ c.in_ok-passed.ensures.first

pub returns : goal.returns
returns c =
    let passed = c.in_ok-passed.passed in
    let main = get_or_from_slice_get _ 0 _ [] c.in_ok-passed.ensures.first in
    let row : has_bit c.row.result.now ≡ reached_in passed c.args.command.now.main =
    fun_ext (λ n. c.row.ensures.reached n ∙ ap (λ path. reached_in passed path n) main) in
    IfOk-weaker c.reached_text.result _ _
    (λ text is. record {
      end = end_of passed;
      pass = c.in_ok-passed.ensures.value;
      text_is = is ∙ ap (λ reached. numbers_text (reached_lines reached c.args.tree.now)) row;
    }) c.reached_text.ensures
