use Rattle.cb_lines.specs.Marks.{marks_of}
use Rattle.cb_tokens.proofs.OneToken.{one_token, only_token}
use Rattle.cb_tokens.proofs.whole.one_token.Goals as goal

pub returns-clause-token : goal.returns-clause-token
returns-clause-token c = one_token (marks_of c.args.bytes.now) c.decide.result c.decide.ensures

pub returns-clause-only_token : goal.returns-clause-only_token
returns-clause-only_token c = only_token (marks_of c.args.bytes.now) c.decide.result c.decide.ensures
