use Rattle.std.proofs.Common.{subst, ◌≡◌, Some}
use Rattle.cb_paths.specs.Paths.{folder_at}
use Rattle.cb_paths.proofs.Again.{kept_again}
use Rattle.cb_paths.proofs.dir.Dir.bytes.Goals as goal

pub returns-clause-normal : goal.returns-clause-normal
returns-clause-normal c = λ base. subst (λ d. folder_at d base ≡ Some d) c.self.view_is (kept_again _ base c.self.invariant)
