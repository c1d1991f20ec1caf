use Rattle.cb_paste.proofs.filling.put_given.Goals as goal

pub put_argument-requires-clause-new : goal.put_argument-requires-clause-new
put_argument-requires-clause-new c = c.tokens_of-tokens.ensures.within _ c.requires.given

pub put_moved-requires-clause-new : goal.put_moved-requires-clause-new
put_moved-requires-clause-new c = c.take_tokens-tokens.ensures.within _ c.requires.given
