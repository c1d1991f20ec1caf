use Rattle.cb_paste.proofs.plain.push_part.Goals as goal

pub returns-in_ok-push_own-in-Fixed-clause-within : goal.returns-in_ok-push_own-in-Fixed-clause-within
returns-in_ok-push_own-in-Fixed-clause-within c = c.in_ok-push_own-in-Fixed.ensures.within _ c.requires.extra c.requires.stack

pub returns-in_ok-push_own-in-Quoted-clause-within : goal.returns-in_ok-push_own-in-Quoted-clause-within
returns-in_ok-push_own-in-Quoted-clause-within c = c.in_ok-push_own-in-Quoted.ensures.within _ c.requires.extra c.requires.stack
