use Rattle.std.proofs.Common.{◌≡◌, ℕ, ◌-◌, ◌≤◌, List, length}
use Rattle.std.specs.Prelude.{max}
use Prim.Native.Nat.{suc}
use Rattle.cb_pass.specs.Reached.{is_in}
use Rattle.cb_pass.proofs.trail.grow.Given as goal

abbrev pub invariant-rows : goal.invariant-rows
invariant-rows l =
    ((paths : List (List ℕ)) (p : List ℕ) (n : ℕ) → is_in paths l.rows.items p n ≡ is_in paths l.initial.rows.items p n)
    × (length l.initial.rows.items ≤ length l.rows.items) × (length l.rows.items ≤ max (suc l.place) (length l.initial.rows.items))

abbrev pub decreases-rows : goal.decreases-rows
decreases-rows l = suc l.place - length l.rows.items
