-- A pass over files that agree on its probes is the same.
use Rattle.std.proofs.Common.{◌≡◌, ℕ, Bool, true, false, List, [], ◌∷◌, ◌++◌, refl, sym, ap, subst, ◌∙◌, if◌then◌else◌}
use Rattle.std.specs.Prelude.{Option, Some, None, ◌||◌, cond}
use Rattle.std.specs.List.{list_any, find}
use Rattle.std.specs.Option.{is_some}
use Rattle.std.specs.Str.{bytes_eq}
use Rattle.std.specs.Cmp.Lexicographic.{bytes_decides}
use Rattle.cb_tree.specs.Skeleton.{Bone}
use Rattle.cb_include.specs.declared.command.Command.{Command}
use Rattle.cb_include.specs.declared.header.Header.{Header}
use Rattle.cb_pass.specs.Notes.{Place}
use Rattle.cb_pass.specs.Answers.{Answer}
use Rattle.cb_pass.specs.States.{State, Outcome}
use Rattle.cb_pass.specs.Steps.{turned_in}
use Rattle.cb_include.specs.Candidates.{candidates}
use Rattle.cb_include.specs.Seen.{has_path, with_path, with_paths, up_to}
use Rattle.cb_pass.specs.Files.{Files, Request, Stays, Begins, Searches, request, start_of, is_present, found_path, met, stepped, Agree}
use Rattle.cb_pass.specs.Passes.{Leads, over, goes, start, start_with, IsPass}
use Rattle.cb_pass.proofs.Grown.{Grows, with_paths_grows, found_probes, leads_grows}

module _ (files other : Files) where
  front : (paths more : List (List ℕ)) → Agree files other (paths ++ more) → Agree files other paths
  front [] more a = tt
  front (path ∷ paths) more a = (a.0, front paths more a.1)

  before : (old new : List (List ℕ)) → Grows old new → Agree files other new → Agree files other old
  before old new g a = front old g.0 (subst (Agree files other) g.1 a)

  at_one : (test : Bool) (path q : List ℕ) → bytes_eq path q ≡ test → files q ≡ other q
      → (rest : Bool) → (rest ≡ true → files path ≡ other path) → (test || rest) ≡ true → files path ≡ other path
  at_one true path q e h rest behind t = subst (λ (p : List ℕ). files p ≡ other p) (sym ((bytes_decides path q).0 e)) h
  at_one false path q e h rest behind t = behind t

  at_any : (path : List ℕ) (paths : List (List ℕ)) → Agree files other paths → list_any (bytes_eq path) paths ≡ true → files path ≡ other path
  at_any path [] a t = elim (true_not t) [ ]
    where
      true_not : false ≡ true → ⊥
      true_not e = cc
  at_any path (q ∷ qs) a t = at_one (bytes_eq path q) path q refl a.0 (list_any (bytes_eq path) qs) (at_any path qs a.1) t

  at_last : (path : List ℕ) (paths : List (List ℕ)) → Agree files other (paths ++ path ∷ []) → files path ≡ other path
  at_last path [] a = a.0
  at_last path (q ∷ qs) a = at_last path qs a.1

  at_either : (test : Bool) (path : List ℕ) (paths : List (List ℕ)) → list_any (bytes_eq path) paths ≡ test
      → Agree files other (if test then paths else paths ++ path ∷ []) → files path ≡ other path
  at_either true path paths e a = at_any path paths a e
  at_either false path paths e a = at_last path paths a

  at_probe : (path : List ℕ) (paths : List (List ℕ)) → Agree files other (with_path paths path) → files path ≡ other path
  at_probe path paths a = at_either (has_path paths path) path paths refl a

  at_probes : (more paths : List (List ℕ)) → Agree files other (with_paths paths more) → Agree files other more
  at_probes [] paths a = tt
  at_probes (path ∷ more) paths a = (
    at_probe path paths (before (with_path paths path) (with_paths (with_path paths path) more) (with_paths_grows more (with_path paths path)) a),
    at_probes more (with_path paths path) a,
  )

  at_front : (test : Bool) (path : List ℕ) (behind : List (List ℕ)) → Agree files other (if test then path ∷ [] else path ∷ behind) → files path ≡ other path
  at_front true path behind a = a.0
  at_front false path behind a = a.0

  same_up_to : (test : Bool) (path : List ℕ) (behind more : List (List ℕ)) → Agree files other (if test then path ∷ [] else path ∷ behind)
      → (Agree files other behind → behind ≡ more) → (if test then path ∷ [] else path ∷ behind) ≡ (if test then path ∷ [] else path ∷ more)
  same_up_to true path behind more a h = refl
  same_up_to false path behind more a h = ap (λ (x : List (List ℕ)). path ∷ x) (h a.1)

  same_looked_at : (paths : List (List ℕ)) → Agree files other (up_to (is_present files) paths) → up_to (is_present files) paths ≡ up_to (is_present other) paths
  same_looked_at [] a = refl
  same_looked_at (path ∷ paths) a =
      same_up_to (is_present files path) path (up_to (is_present files) paths) (up_to (is_present other) paths) a (same_looked_at paths)
      ∙ ap (λ (bones : Option (List Bone)). (if is_some bones then path ∷ [] else path ∷ up_to (is_present other) paths))
      (at_front (is_present files path) path (up_to (is_present files) paths) a)

  same_first : (test : Bool) (path : List ℕ) (behind : List (List ℕ)) (found more : Option (List ℕ))
      → Agree files other (if test then path ∷ [] else path ∷ behind) → (Agree files other behind → found ≡ more) → cond test (Some path) found ≡ cond test (Some path) more
  same_first true path behind found more a h = refl
  same_first false path behind found more a h = h a.1

  same_present : (paths : List (List ℕ)) → Agree files other (up_to (is_present files) paths) → find (is_present files) paths ≡ find (is_present other) paths
  same_present [] a = refl
  same_present (path ∷ paths) a =
      same_first (is_present files path) path (up_to (is_present files) paths) (find (is_present files) paths) (find (is_present other) paths) a (same_present paths)
      ∙ ap (λ (bones : Option (List Bone)). cond (is_some bones) (Some path) (find (is_present other) paths))
      (at_front (is_present files path) path (up_to (is_present files) paths) a)

  found_at : (test : Bool) (path : List ℕ) (behind : List (List ℕ)) (found : Option (List ℕ)) (p : List ℕ)
      → Agree files other (if test then path ∷ [] else path ∷ behind) → (Agree files other behind → found ≡ Some p → files p ≡ other p)
      → cond test (Some path) found ≡ Some p → files p ≡ other p
  found_at true path behind found p a h e =
      let same : path ≡ p = cc in subst (λ (q : List ℕ). files q ≡ other q) same (at_front true path behind a)
  found_at false path behind found p a h e = h a.1 e

  at_found : (paths : List (List ℕ)) (p : List ℕ) → Agree files other (up_to (is_present files) paths) → find (is_present files) paths ≡ Some p → files p ≡ other p
  at_found [] p a e = absurd cc
  at_found (path ∷ paths) p a e =
      found_at (is_present files path) path (up_to (is_present files) paths) (find (is_present files) paths) p a (at_found paths p) e

  same_found : (place : Place) (depth : ℕ) (header : Header) (path : Option (List ℕ)) (s : State)
      → ((p : List ℕ) → path ≡ Some p → files p ≡ other p) → found_path files place depth header path s ≡ found_path other place depth header path s
  same_found place depth header None s h = refl
  same_found place depth header (Some path) s h = rw (h path refl)

  module _ (command : Command) (main : files command.main ≡ other command.main) where
    same_met : (request : Request) (s : State) → Agree files other (met files command request s).probes → met files command request s ≡ met other command request s
    same_met Stays s a = refl
    same_met Begins s a = rw main
    same_met (Searches from place depth header) s a =
        let paths : List (List ℕ) = candidates command from header in
        let t : State = record s { probes = with_paths s.probes (up_to (is_present files) paths) } in
        let a1 : Agree files other (with_paths s.probes (up_to (is_present files) paths)) =
        subst (Agree files other) (found_probes files place depth header (find (is_present files) paths) t) a in
        let a2 : Agree files other (up_to (is_present files) paths) = at_probes (up_to (is_present files) paths) s.probes a1 in
        same_found place depth header (find (is_present files) paths) t (λ p e. at_found paths p a2 e)
        ∙ (ap (λ (path : Option (List ℕ)). found_path other place depth header path t) (same_present paths a2)
        ∙ ap (λ (looked : List (List ℕ)). found_path other place depth header (find (is_present other) paths) (record s { probes = with_paths s.probes looked })) (same_looked_at paths a2))

    same_stepped : (answer : Answer) (s : State) → Agree files other (stepped files command answer s).probes → stepped files command answer s ≡ stepped other command answer s
    same_stepped answer s a = same_met (request command answer s) (turned_in (start_of command) answer s.frames s.waiting s) a

    same_leads : (end : Outcome) (s : State) → Agree files other end.probes → Leads files command end s → Leads other command end s
    same_leads end s a (over h e) = over h e
    same_leads end s a (goes h answer says more) =
        let t : State = stepped files command answer s in
        let a1 : Agree files other t.probes = before t.probes end.probes (leads_grows files command end t more) a in
        goes h answer says (subst (λ (u : State). Leads other command end u) (same_stepped answer s a1) (same_leads end t a more))

  start_probes : (command : Command) (bones : Option (List Bone)) → (start_with command bones).probes ≡ command.main ∷ []
  start_probes command None = refl
  start_probes command (Some bones) = refl

  pub same_pass : (command : Command) (end : Outcome) → IsPass files command end → Agree files other end.probes → IsPass other command end
  same_pass command end pass a =
      let a1 : Agree files other (command.main ∷ []) =
      subst (Agree files other) (start_probes command (files command.main))
      (before (start files command).probes end.probes (leads_grows files command end (start files command) pass) a) in
      subst (λ (s : State). Leads other command end s) (ap (start_with command) a1.0)
      (same_leads command a1.0 end (start files command) a pass)
