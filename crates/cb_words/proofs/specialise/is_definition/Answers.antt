use Rattle.std.proofs.Common.{◌≡◌, Err, Some, None, ap}
use Rattle.cb_words.proofs.specialise.is_definition.Goals as goal

pub returns-in-Err-Bad : goal.returns-in-Err-Bad
returns-in-Err-Bad c =
    let none = c.in-Err-Bad.ensures.bad (ap Err c.in-Err-Bad.field-0-is) in
    (λ is. absurd cc, λ some. let same : None ≡ Some some.0 = c.one_word.ensures.defined c.args.word.now None (Some some.0) none some.1 in absurd cc)
