use Rattle.std.proofs.Common.{ℕ, ◌-◌, ◌<◌, eqb, sym, ap, ◌∙◌, arith}
use Rattle.std.proofs.lemmas.Nat.Bits.{shr_and_one}
use Rattle.cb_sets.proofs.Held.{has_of}
use Rattle.cb_sets.proofs.platform_set.PlatformSet.has.Goals as goal

pub returns : goal.returns
returns c =
    let small : c.args.self.now.bits < 4294967296 = omega arith in
    ap (λ (n : ℕ). eqb n 1) (shr_and_one c.args.self.now.bits (32 - c.args.platform)) ∙ sym (has_of c.args.self.now c.args.platform small c.requires.some c.requires.within)
