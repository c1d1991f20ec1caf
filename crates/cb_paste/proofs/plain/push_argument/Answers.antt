use Rattle.cb_paste.proofs.plain.push_argument.Goals as goal

pub copy_argument-requires-clause-tokens : goal.copy_argument-requires-clause-tokens
copy_argument-requires-clause-tokens c = c.tokens_of-tokens.ensures.within _ c.requires.given

pub move_argument-requires-clause-tokens : goal.move_argument-requires-clause-tokens
move_argument-requires-clause-tokens c = c.take_tokens-tokens.ensures.within _ c.requires.given
