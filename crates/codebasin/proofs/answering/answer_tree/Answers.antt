use Rattle.std.proofs.Common.{ℕ, List, sym, subst}
use Rattle.cb_include.specs.declared.command.Command.{Command}
use Rattle.codebasin.specs.Specialise.{command_of}
use Rattle.codebasin.specs.inner.Answers.{Passes}
use Rattle.codebasin.proofs.answering.answer_tree.Goals as goal

pub returns : goal.returns
returns c =
    let tree = c.args.tree.now in
    let P : Command → Type 0 = λ command. Passes command tree c.in_ok-text.text.items in
    let Q : List ℕ → Type 0 = λ text. Passes (command_of c.args.words.items) tree text in
    (c.made.ensures.status, subst Q (sym c.made.ensures.text) (subst P c.in_ok-command.ensures c.in_ok-text.ensures))
