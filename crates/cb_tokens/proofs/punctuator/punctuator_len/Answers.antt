use Rattle.cb_tokens.proofs.Punctuators.{longest1, longest2, longest3, longest4, longest_alone}
use Rattle.cb_tokens.proofs.punctuator.punctuator_len.Goals as goal

pub returns-then-is_quadruple : goal.returns-then-is_quadruple
returns-then-is_quadruple c = longest4 c.args.bytes.now (cc)

pub returns-then-is_triple : goal.returns-then-is_triple
returns-then-is_triple c = longest3 c.args.bytes.now (cc) (cc)

pub returns-then-is_pair : goal.returns-then-is_pair
returns-then-is_pair c = longest2 c.args.bytes.now (cc) (cc) (cc)

pub returns-else-is_pair : goal.returns-else-is_pair
returns-else-is_pair c = longest1 c.args.bytes.now (cc) (cc) (cc) c.requires

pub returns-then-not-is_second : goal.returns-then-not-is_second
returns-then-not-is_second c = longest_alone c.args.bytes.now (cc) c.requires
