use Rattle.cb_cond.proofs.Plain.{outside-open, outside-close, outside-question}
use Rattle.cb_cond.proofs.symbols.outline_symbol.Goals as goal

pub returns-in_default : goal.returns-in_default
returns-in_default c = record {
  opens = λ language. outside-open language c.args.token.now c.in_default.not-Punct;
  closes = λ language. outside-close language c.args.token.now c.in_default.not-Punct;
  asks = λ language. outside-question language c.args.token.now c.in_default.not-Punct;
}
