use Rattle.std.proofs.Common.{rules}
use Rattle.cb_paths.specs.contracts.language.LanguagePartialEq.TheImpl.{ghosts as of_languages}
use Rattle.cb_include.specs.contracts.op.OpPartialEq.TheImpl.{ghosts as of_ops}
use Rattle.cb_include.proofs.Decided.{command_decides}
use Rattle.cb_include.proofs.laws.same_values.Goals as goal

pub returns-clause-commands : goal.returns-clause-commands
returns-clause-commands c =
    command_decides of_languages.eq of_ops.eq (λ some other. search rules) (λ some other. search rules)
