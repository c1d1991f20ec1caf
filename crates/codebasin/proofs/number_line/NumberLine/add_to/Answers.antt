use Rattle.std.proofs.Common.{◌≡◌, ℕ, ◌+◌, ◌-◌, ◌^◌, ◌<◌, ◌++◌, List, [], ◌∷◌, length, set, ap, ◌∙◌, arith, length-append, decimal}
use Rattle.std.proofs.lemmas.Fmt.{decimal_nonempty}
use Rattle.codebasin.specs.Texts.{line_text}
use Rattle.codebasin.proofs.NumberSteps.{digit_at, other_digit}
use Rattle.codebasin.proofs.number_line.NumberLine.add_to.Goals as goal

pub overflow_add-self : goal.overflow_add-self
overflow_add-self c =
    let digit = digit_at c.args.self.now.bytes c.args.self.now.start c.args.self.now.number c.args.self.now.count (omega (arith, c.ranges.number.fits)) c.requires.holds in
    record { fits = omega (arith, digit, c.requires.holds.counted, c.requires.near.1) }

pub overflow_sub-place : goal.overflow_sub-place
overflow_sub-place c =
    let text : List ℕ = c.args.text.now.items in
    let number : ℕ = c.args.self.now.number in
    omega (arith, decimal_nonempty number (omega (arith, c.ranges.number.fits)), ap length c.in_ok-copy_to.ensures, length-append text (line_text (decimal number)), length-append (decimal number) (10 ∷ []))

pub returns : goal.returns
returns c =
    let number : ℕ = c.args.self.now.number in
    let more : ℕ = c.args.number - number in
    let text : List ℕ = c.args.text.now.items in
    let small : number + 10 < 2 ^ 64 = omega (arith, c.ranges.number.fits) in
    let some = decimal_nonempty number (omega arith) in
    let long = ap length c.in_ok-copy_to.ensures ∙ length-append text (line_text (decimal number)) in
    let line = length-append (decimal number) (10 ∷ []) in
    let digit = digit_at c.args.self.now.bytes c.args.self.now.start number c.args.self.now.count small c.requires.holds in
    let same : number + more ≡ c.args.number = omega arith in
    ap (λ (d : ℕ). set c.copy_to.new.text.items (c.len-place.result - 2) (d + more)) digit
    ∙ (other_digit text c.copy_to.new.text.items number more (c.len-place.result - 2) small (omega (arith, c.requires.holds.counted, c.requires.near.1)) c.in_ok-copy_to.ensures (omega (arith, some, long, line))
    ∙ ap (λ n. text ++ line_text (decimal n)) same)
