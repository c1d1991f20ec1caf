-- Answers as they lie in memory.
use Rattle.cb_pass.specs.declared.answer.Reply.{Reply}
use Rattle.cb_pass.specs.declared.answer.Reply.TheVariants as reply
use Rattle.cb_pass.specs.Answers.{Answer, Holds, Faulty, Names, Nameless, Long}

-- the answer that a reply stands for
abbrev pub said : Reply → Answer
said (reply.Holds holds) = Holds holds
said (reply.Faulty bad) = Faulty bad
said (reply.Names header) = Names header
said reply.Nameless = Nameless
said reply.Long = Long
