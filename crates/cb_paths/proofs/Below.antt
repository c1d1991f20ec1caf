-- Paths below a root.
use Rattle.std.proofs.Common.{◌≡◌, ℕ, ◌+◌, ◌-◌, ◌<◌, ◌≤◌, ◌==◌, nat_lt, Bool, true, false, if◌then◌else◌, List, [], ◌∷◌, ◌++◌, length, take, drop, refl, sym, ap, subst, ◌∙◌, append_assoc, arith, not, add-one, length-append, length-drop, drop-cons, Option, Some, None}
use Rattle.std.specs.Prelude.{codes, bytes_eq, slice_index}
use Rattle.std.specs.List.{list_any, slice_split, onto_first}
use Rattle.std.proofs.lemmas.List.{take_all, take-append-drop}
use Rattle.std.proofs.lemmas.Slice.Eq.{bytes_eq-Decides}
use Rattle.std.proofs.lemmas.Bool.Decides.{nat_tests}
use Rattle.std.proofs.Math.Seq.{take-append_seam}
use Rattle.cb_paths.specs.Parts.{is_kept, parts_of, normal, without_ups, rooted}
use Rattle.cb_paths.specs.Paths.{is_control, path_fault, path_of, unless_faulty, folder_text, parts_from, behind, path_below, fitting, file_at, holding_fault, folder_holding, folder_of}
use Rattle.cb_paths.specs.declared.bad_path.BadPath.{BadPath}
use Rattle.cb_paths.specs.declared.bad_path.BadPath.TheVariants.{Empty, TooLong, Outside, Control}
use Rattle.cb_paths.specs.inner.Trails.{is_plain, IsFolder, IsBelow, Stands}
use Rattle.cb_paths.specs.declared.trail.Trail.{Trail}
use Rattle.cb_paths.proofs.Normal.{up-head, up-tail}
use Rattle.cb_paths.proofs.Trails.{plain_is_kept, plain_has_no_slash}
use Rattle.cb_paths.proofs.Splitting.{split_at}
use Rattle.cb_paths.proofs.Rooted.{ArePlain, ends_at, split_rooted, parts_of_folder, parts_of_path}
use Rattle.cb_paths.proofs.Sizes.{AreClean, clean_parts, clean-append}
use Rattle.cb_paths.proofs.Again.{path_of_plain, folder_kept}
use Rattle.cb_paths.proofs.PathFaults.{within}
use Rattle.cb_paths.proofs.Folders as folders

-- the parts of a text, and the text again
join_first : (x : ℕ) (xs : List ℕ) (parts : List (List ℕ)) → rooted parts ≡ 47 ∷ xs → rooted (onto_first x parts) ≡ 47 ∷ x ∷ xs
join_first x xs [] e = cc
join_first x xs (p ∷ ps) e = let f : p ++ rooted ps ≡ xs = cc in ap (λ ys. 47 ∷ x ∷ ys) f

join_step : (x : ℕ) (xs : List ℕ) (t : Bool) → (x == 47) ≡ t → rooted (slice_split (λ b. b == 47) xs) ≡ 47 ∷ xs
    → rooted (slice_split (λ b. b == 47) (x ∷ xs)) ≡ 47 ∷ x ∷ xs
join_step x xs true e h = rw (e, h) (let same : x ≡ 47 = grind (arith, nat_tests) in rw same refl)
join_step x xs false e h = rw e (join_first x xs (slice_split (λ b. b == 47) xs) h)

join_split : (xs : List ℕ) → rooted (slice_split (λ b. b == 47) xs) ≡ 47 ∷ xs
join_split [] = refl
join_split (x ∷ xs) = join_step x xs (x == 47) refl (join_split xs)

-- what stands behind the text of parts and a slash
record Tail (rs : List (List ℕ)) (rest : List ℕ) : Type 0 where
  text : List ℕ
  is : rooted rs ++ (47 ∷ rest) ≡ 47 ∷ text
  splits : slice_split (λ b. b == 47) text ≡ rs ++ slice_split (λ b. b == 47) rest

tail_of : (rs : List (List ℕ)) (rest : List ℕ) → ArePlain rs → Tail rs rest
tail_of [] rest h = record { text = rest; is = refl; splits = refl }
tail_of (r ∷ rs) rest h =
    let t = tail_of rs rest (up-tail (is_plain r) _ h) in
    record {
      text = r ++ (rooted rs ++ (47 ∷ rest));
      is = append_assoc (47 ∷ r) (rooted rs) (47 ∷ rest);
      splits = ap (λ xs. slice_split (λ b. b == 47) (r ++ xs)) t.is
          ∙ split_at 47 r t.text (plain_has_no_slash r (up-head (is_plain r) _ h)) ∙ ap (λ ps. r ∷ ps) t.splits;
    }

parts_behind : (rs ps : List (List ℕ)) (rest : List ℕ) → ArePlain rs → ArePlain ps → rooted ps ≡ rooted rs ++ (47 ∷ rest)
    → ps ≡ rs ++ slice_split (λ b. b == 47) rest
parts_behind rs [] rest h k e = let t = tail_of rs rest h in let i = t.is in cc
parts_behind rs (p ∷ ps) rest h k e =
    let t = tail_of rs rest h in
    let i = t.is in
    let f : p ++ rooted ps ≡ t.text = cc in
    sym (split_rooted p ps k) ∙ ap (slice_split (λ b. b == 47)) f ∙ t.splits

same_part : (r : List ℕ) → bytes_eq r r ≡ true
same_part r = grind (arith, bytes_eq-Decides)

behind_append : (rs qs : List (List ℕ)) → behind rs (rs ++ qs) ≡ Some qs
behind_append [] qs = refl
behind_append (r ∷ rs) qs = rw (same_part r) (behind_append rs qs)

equal_parts : (r p : List ℕ) → bytes_eq r p ≡ true → r ≡ p
equal_parts r p h = grind (arith, bytes_eq-Decides)

behind_at : (t : Bool) (r p : List ℕ) (rs ps qs : List (List ℕ)) → bytes_eq r p ≡ t → behind (r ∷ rs) (p ∷ ps) ≡ Some qs
    → (behind rs ps ≡ Some qs → ps ≡ rs ++ qs) → p ∷ ps ≡ r ∷ (rs ++ qs)
behind_at true r p rs ps qs e h k = let f : behind rs ps ≡ Some qs = rw e at h in rw (equal_parts r p e, k f) refl
behind_at false r p rs ps qs e h k = let f : ◌≡◌ {A = Option (List (List ℕ))} None (Some qs) = rw e at h in cc

behind_is : (rs ps qs : List (List ℕ)) → behind rs ps ≡ Some qs → ps ≡ rs ++ qs
behind_is [] ps qs h = cc
behind_is (r ∷ rs) [] qs h = cc
behind_is (r ∷ rs) (p ∷ ps) qs h = behind_at (bytes_eq r p) r p rs ps qs refl h (behind_is rs ps qs)

below_split : (o : Option (List (List ℕ))) (qs : List (List ℕ)) (rest : List ℕ) → o ≡ Some qs → rooted qs ≡ 47 ∷ rest → path_below o ≡ fitting rest
below_split o [] rest e f = cc
below_split o (q ∷ qs) rest e f = rw e (let g : q ++ rooted qs ≡ rest = cc in ap fitting g)

pub below_some : (rs ps : List (List ℕ)) (rest : List ℕ) → ArePlain rs → ArePlain ps → rooted ps ≡ rooted rs ++ (47 ∷ rest)
    → path_below (behind rs ps) ≡ fitting rest
below_some rs ps rest h k e =
    let f = parts_behind rs ps rest h k e in
    below_split (behind rs ps) (slice_split (λ b. b == 47) rest) rest (ap (behind rs) f ∙ behind_append rs (slice_split (λ b. b == 47) rest)) (join_split rest)

rooted-append : (ps qs : List (List ℕ)) → rooted (ps ++ qs) ≡ rooted ps ++ rooted qs
rooted-append [] qs = refl
rooted-append (p ∷ ps) qs = ap (λ xs. (47 ∷ p) ++ xs) (rooted-append ps qs) ∙ sym (append_assoc (47 ∷ p) (rooted ps) (rooted qs))

below_none_at : (rs ps : List (List ℕ)) (o : Option (List (List ℕ))) → behind rs ps ≡ o → ((rest : List ℕ) → rooted ps ≡ rooted rs ++ (47 ∷ rest) → ⊥)
    → path_below o ≡ None
below_none_at rs ps None e h = refl
below_none_at rs ps (Some []) e h = refl
below_none_at rs ps (Some (q ∷ qs)) e h =
    absurd (h (q ++ rooted qs) (ap rooted (behind_is rs ps (q ∷ qs) e) ∙ rooted-append rs (q ∷ qs)))

pub below_none : (rs ps : List (List ℕ)) → ((rest : List ℕ) → rooted ps ≡ rooted rs ++ (47 ∷ rest) → ⊥) → path_below (behind rs ps) ≡ None
below_none rs ps h = below_none_at rs ps (behind rs ps) refl h

plain_behind : (rs qs : List (List ℕ)) → ArePlain (rs ++ qs) → ArePlain qs
plain_behind [] qs h = h
plain_behind (r ∷ rs) qs h = plain_behind rs qs (up-tail (is_plain r) _ h)

some_split : (ps : List (List ℕ)) (rest : List ℕ) → rooted ps ≡ 47 ∷ rest → 0 < length ps
some_split [] rest h = cc
some_split (p ∷ ps) rest h = omega arith

-- the rest is the text of some parts
pub rest_is_below : (rs ps : List (List ℕ)) (rest : List ℕ) → ArePlain rs → ArePlain ps → rooted ps ≡ rooted rs ++ (47 ∷ rest) → IsBelow rest
rest_is_below rs ps rest h k e =
    let f = parts_behind rs ps rest h k e in
    record {
      parts = slice_split (λ b. b == 47) rest;
      is = ap (drop 1) (sym (join_split rest));
      plain = plain_behind rs (slice_split (λ b. b == 47) rest) (subst ArePlain f k);
      some = some_split (slice_split (λ b. b == 47) rest) rest (join_split rest);
    }

-- a text below the top that fits is a path
clean_path_parts : (text : List ℕ) → (h : IsBelow text) → list_any is_control text ≡ false → AreClean h.parts
clean_path_parts text h e = subst AreClean (ap parts_of h.is ∙ parts_of_path h.parts h.plain h.some) (clean_parts text e)

pub below_is_path : (text path : List ℕ) → IsBelow text → length text ≤ 1024 → list_any is_control text ≡ false → path ≡ text → path_of path ≡ Some path
below_is_path text path h fits e is =
    subst (λ p. path_of p ≡ Some p) (sym h.is ∙ sym is)
    (path_of_plain h.parts h.plain (clean_path_parts text h e) h.some (ap (λ t. nat_lt 1024 (length t)) (sym h.is) ∙ within (length text) fits))

-- roots
root_parts : (root : List ℕ) → (h : IsFolder root) → parts_of root ≡ h.parts
root_parts root h = ap parts_of h.is ∙ parts_of_folder h.parts h.plain

pub root_is_plain : (root : List ℕ) → IsFolder root → ArePlain (parts_of root)
root_is_plain root h = subst ArePlain (sym (root_parts root h)) h.plain

pub root_is : (root : List ℕ) → IsFolder root → root ≡ folder_text (parts_of root)
root_is root h = h.is ∙ ap folder_text (sym (root_parts root h))

some_bytes : (p : List ℕ) → is_kept p ≡ true → 0 < length p
unfolding is_kept
some_bytes [] h = cc
some_bytes (b ∷ bs) h = omega arith

pub front_of_one : (parts : List (List ℕ)) (folder : List ℕ) → ArePlain parts → folder ≡ folder_text parts → length folder ≡ 1 → [] ≡ rooted parts
front_of_one [] folder h e n = refl
front_of_one (p ∷ ps) folder h e n =
    let l = ap length e in
    let m = length-append (47 ∷ p) (rooted ps) in
    let some = some_bytes p (plain_is_kept p (up-head (is_plain p) _ h)) in
    absurd (omega arith)

pub front_of_more : (parts : List (List ℕ)) (folder : List ℕ) → folder ≡ folder_text parts → (length folder ≡ 1 → ⊥) → folder ≡ rooted parts
front_of_more [] folder e n = absurd (n (ap length e))
front_of_more (p ∷ ps) folder e n = e

-- the file
pub file_found : (text base root rest front : List ℕ) (t : Trail) → Stands (folders.walked_parts text base) t → IsFolder root
    → ((parts : List (List ℕ)) → ArePlain parts → root ≡ folder_text parts → front ≡ rooted parts)
    → t.text.items ≡ front ++ (47 ∷ rest) → IsBelow rest × (file_at text base root ≡ fitting rest)
unfolding file_at
file_found text base root rest front t s h f e =
    let ends = ends_at (folders.walked_parts text base) t s in
    let plain = root_is_plain root h in
    let is : rooted (parts_from text base) ≡ rooted (parts_of root) ++ (47 ∷ rest) = sym ends.text ∙ e ∙ ap (λ xs. xs ++ (47 ∷ rest)) (f (parts_of root) plain (root_is root h)) in
    (rest_is_below (parts_of root) (parts_from text base) rest plain ends.plain is, below_some (parts_of root) (parts_from text base) rest plain ends.plain is)

pub file_missed : (text base root front : List ℕ) (t : Trail) → Stands (folders.walked_parts text base) t → IsFolder root
    → ((parts : List (List ℕ)) → ArePlain parts → root ≡ folder_text parts → front ≡ rooted parts)
    → ((rest : List ℕ) → t.text.items ≡ front ++ (47 ∷ rest) → ⊥) → file_at text base root ≡ None
unfolding file_at
file_missed text base root front t s h f e =
    let ends = ends_at (folders.walked_parts text base) t s in
    below_none (parts_of root) (parts_from text base)
    (λ rest is. e rest (ends.text ∙ is ∙ ap (λ xs. xs ++ (47 ∷ rest)) (sym (f (parts_of root) (root_is_plain root h) (root_is root h)))))

-- the folder of a path
no_control : (a b c d : Bool) → (if a then Some TooLong else (if b then Some Control else (if c then Some Outside else (if d then Some Empty else None)))) ≡ None → b ≡ false
no_control true b c d h = cc
no_control false true c d h = cc
no_control false false c d h = refl

fault_none : (f : Option BadPath) (v w : List ℕ) → unless_faulty f v ≡ Some w → f ≡ None
fault_none None v w h = refl
fault_none (Some bad) v w h = cc

pub path_clean : (path : List ℕ) → path_of path ≡ Some path → list_any is_control path ≡ false
unfolding path_of path_fault
path_clean path h = no_control _ (list_any is_control path) _ _ (fault_none _ _ path h)

abbrev pub held_parts : List ℕ → List ℕ → List (List ℕ)
held_parts root path = parts_of root ++ parts_of path ++ parts_of (codes "..")

holding_is : (root path : List ℕ) (t : Trail) (folder : List ℕ) → Stands (held_parts root path) t
    → ((parts : List (List ℕ)) → t.text.items ≡ rooted parts → folder ≡ folder_text parts) → folder ≡ folder_holding root path
unfolding folder_holding
holding_is root path t folder s h = h (without_ups (normal (held_parts root path))) (ends_at (held_parts root path) t s).text

over : (n : ℕ) → 4096 < n → nat_lt 4096 n ≡ true
over n h = grind (arith, nat_tests)

pub holding_long : (root path : List ℕ) (t : Trail) (folder : List ℕ) → Stands (held_parts root path) t
    → ((parts : List (List ℕ)) → t.text.items ≡ rooted parts → folder ≡ folder_text parts) → 4096 < length folder → holding_fault root path ≡ Some TooLong
holding_long root path t folder s h n =
    let e : nat_lt 4096 (length (folder_holding root path)) ≡ true = ap (λ d. nat_lt 4096 (length d)) (sym (holding_is root path t folder s h)) ∙ over (length folder) n in
    rw e refl

pub holding_found : (root path : List ℕ) (t : Trail) (folder : List ℕ) → Stands (held_parts root path) t
    → ((parts : List (List ℕ)) → t.text.items ≡ rooted parts → folder ≡ folder_text parts) → length folder ≤ 4096 → folder_of root path ≡ Some folder
holding_found root path t folder s h n =
    let is = holding_is root path t folder s h in
    let e : nat_lt 4096 (length (folder_holding root path)) ≡ false = ap (λ d. nat_lt 4096 (length d)) (sym is) ∙ folders.within (length folder) n in
    rw (e, is) refl

pub holding_kept : (root path : List ℕ) (t : Trail) (folder : List ℕ) → Stands (held_parts root path) t
    → ((parts : List (List ℕ)) → t.text.items ≡ rooted parts → folder ≡ folder_text parts) → length folder ≤ 4096
    → list_any is_control root ≡ false → path_of path ≡ Some path → IsFolder folder
holding_kept root path t folder s h n clean whole =
    let ends = ends_at (held_parts root path) t s in
    folder_kept (held_parts root path) folder (h (without_ups (normal (held_parts root path))) ends.text) ends.plain
    (clean-append (parts_of root ++ parts_of path) (parts_of (codes "..")) (clean-append (parts_of root) (parts_of path) (clean_parts root clean) (clean_parts path (path_clean path whole))) (clean_parts (codes "..") refl))
    (folders.within (length folder) n)

-- what stands behind a front
pub not_behind : (text front rest : List ℕ) → (take (length front) text ≡ front → ⊥) → text ≡ front ++ (47 ∷ rest) → ⊥
not_behind text front rest h e = h (ap (take (length front)) e ∙ take-append_seam front (47 ∷ rest))

pub is_behind : (text front : List ℕ) → length front < length text → slice_index text (length front) ≡ 47 → take (length front) text ≡ front
    → text ≡ front ++ (47 ∷ take (length text - (length front + 1)) (drop (length front + 1) text))
is_behind text front n b e =
    let k = length front in
    let d : drop k text ≡ slice_index text k ∷ drop (k + 1) text = rw (add-one, drop-cons text k 0) refl in
    let l = length-drop (k + 1) text in
    let w : take (length text - (k + 1)) (drop (k + 1) text) ≡ drop (k + 1) text = take_all (length text - (k + 1)) (drop (k + 1) text) (omega arith) in
    sym (take-append-drop k text) ∙ ap (λ xs. xs ++ drop k text) e ∙ ap (λ xs. front ++ xs) (d ∙ rw (b, w) refl)

pub differs : (xs ys : List ℕ) (r : Bool) → r ≡ not (bytes_eq xs ys) → r ≡ true → xs ≡ ys → ⊥
differs xs ys r e h same =
    let k : bytes_eq xs ys ≡ true = ap (λ zs. bytes_eq zs ys) same ∙ same_part ys in
    let f : true ≡ false = sym h ∙ e ∙ ap not k in cc

not_not : (b : Bool) → false ≡ not b → b ≡ true
not_not true h = refl
not_not false h = cc

pub equals : (xs ys : List ℕ) (r : Bool) → r ≡ not (bytes_eq xs ys) → r ≡ false → xs ≡ ys
equals xs ys r e h = equal_parts xs ys (not_not (bytes_eq xs ys) (sym h ∙ e))
