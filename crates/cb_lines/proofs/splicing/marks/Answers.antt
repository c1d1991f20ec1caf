use Rattle.std.proofs.Common.{◌≡◌, ℕ, ◌-◌, List, [], take, subst, arith}
use Rattle.std.proofs.lemmas.List.{take_all}
use Rattle.cb_lines.proofs.Kept.{Kept, kept_none, kept_run, kept_all}
use Rattle.cb_lines.proofs.splicing.marks.Goals as goal

pub returns-then-first_cut-source : goal.returns-then-first_cut-source
returns-then-first_cut-source c =
    let source : List ℕ = c.args.source.now in
    let end : ℕ = c.first_cut.result in
    let all : take (end - 0) source ≡ source = take_all (end - 0) source (omega arith) in
    let kept = kept_run source 0 end [] [] (omega arith) c.first_cut.ensures.within (λ k low high. c.first_cut.ensures.stays k high) (kept_none source) in
    rw c.new.ensures.items (kept_all source end source [] (omega arith) (subst (λ (bytes : List ℕ). Kept source end bytes []) all kept))
