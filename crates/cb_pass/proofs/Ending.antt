-- From the start of a pass to its end.
use Rattle.std.proofs.Common.{◌≡◌, ℕ, Bool, false, List, [], refl, sym, ap, subst, ◌∙◌}
use Rattle.std.specs.Prelude.{Option, Some, None}
use Rattle.std.proofs.Math.Path.{fun_ext}
use Rattle.cb_tree.specs.Skeleton.{Bone}
use Rattle.cb_include.specs.declared.command.Command.{Command}
use Rattle.cb_pass.specs.declared.note.Note.{Note}
use Rattle.cb_pass.specs.declared.note.NoteKind.TheVariants as note
use Rattle.cb_pass.specs.Notes.{noted}
use Rattle.cb_pass.specs.Reached.{is_in}
use Rattle.cb_pass.specs.States.{State, Outcome}
use Rattle.cb_pass.specs.Files.{Files, start_of}
use Rattle.cb_pass.specs.Passes.{first_waiting, start_with, Leads, over, IsPass}
use Rattle.cb_pass.specs.Ends.{Kept, reached_in, end_of}
use Rattle.cb_pass.specs.inner.Trails.{Findings, reached_by, state_of}
use Rattle.cb_pass.specs.inner.Moves.{Goes, IsNoted}
use Rattle.cb_pass.specs.inner.Readings.{begun}
use Rattle.cb_pass.proofs.Rows.{no_bit}

same_outcome : (r q : List ℕ → ℕ → Bool) (c d : ℕ) (ps qs : List (List ℕ)) (ns ms : List Note) → r ≡ q → c ≡ d → ps ≡ qs → ns ≡ ms
    → let a : Outcome = record { reached = r; count = c; probes = ps; notes = ns } in
    let b : Outcome = record { reached = q; count = d; probes = qs; notes = ms } in a ≡ b
same_outcome r q c d ps qs ns ms e1 e2 e3 e4 =
    ap (λ (x : List ℕ → ℕ → Bool). let o : Outcome = record { reached = x; count = c; probes = ps; notes = ns } in o) e1
    ∙ (ap (λ (x : ℕ). let o : Outcome = record { reached = q; count = x; probes = ps; notes = ns } in o) e2
    ∙ (ap (λ (x : List (List ℕ)). let o : Outcome = record { reached = q; count = d; probes = x; notes = ns } in o) e3
    ∙ ap (λ (x : List Note). let o : Outcome = record { reached = q; count = d; probes = qs; notes = x } in o) e4))

-- what is kept is the outcome
pub ended : (files : Files) (command : Command) (t : Findings) (k : Kept) → k.count ≡ t.count → k.probes ≡ t.probes → k.notes ≡ t.memo.notes
    → ((p : List ℕ) (n : ℕ) → is_in k.probes k.rows p n ≡ is_in t.probes t.rows p n) → Leads files command (end_of k) (state_of t [] [])
ended files command t k count probes notes reached =
    over refl
    (same_outcome (reached_by t) (reached_in k) t.count k.count t.probes k.probes t.memo.notes k.notes
    (fun_ext (λ p. fun_ext (λ n. sym (reached p n)))) (sym count) (sym probes) (sym notes))

none_reached : (command : Command) → (λ (path : List ℕ) (node : ℕ). false) ≡ reached_by (begun command)
none_reached command = fun_ext (λ p. fun_ext (λ n. sym (no_bit n)))

some_start : (command : Command) (bones : List Bone) → start_with command (Some bones) ≡ state_of (begun command) [] (first_waiting command)
some_start command bones = ap (λ (r : List ℕ → ℕ → Bool). record (start_with command (Some bones)) { reached = r }) (none_reached command)

none_start : (command : Command) (t : Findings) → IsNoted (begun command) t (start_of command) note.NoMain [] → start_with command None ≡ state_of t [] []
unfolding noted
none_start command t noted = ap (λ (r : List ℕ → ℕ → Bool). record (start_with command None) { reached = r }) (none_reached command) ∙ sym (noted.0 [] [])

-- the pass of a main file that is present
pub whole : (files : Files) (command : Command) (t : Findings) (end : Outcome) (bones : List Bone) → Some bones ≡ files command.main
    → Goes files command (state_of (begun command) [] (first_waiting command)) (state_of t [] []) → Leads files command end (state_of t [] []) → IsPass files command end
whole files command t end bones e moved ends =
    subst (λ (o : Option (List Bone)). Leads files command end (start_with command o)) e
    (subst (λ (s : State). Leads files command end s) (sym (some_start command bones)) (moved end ends))

-- the pass of one that is absent
pub absent : (files : Files) (command : Command) (t : Findings) (end : Outcome) → None ≡ files command.main
    → IsNoted (begun command) t (start_of command) note.NoMain [] → Leads files command end (state_of t [] []) → IsPass files command end
absent files command t end e noted ends =
    subst (λ (o : Option (List Bone)). Leads files command end (start_with command o)) e
    (subst (λ (s : State). Leads files command end s) (sym (none_start command t noted)) ends)
