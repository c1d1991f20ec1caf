use Rattle.std.proofs.Common.{◌≡◌, List, ℕ, true, sym, subst, ◌∙◌}
use Rattle.std.specs.List.{list_all}
use Rattle.cb_paths.specs.Parts.{rooted}
use Rattle.cb_paths.specs.Paths.{folder_text}
use Rattle.cb_paths.specs.inner.Trails.{Stands, IsFolder, is_plain}
use Rattle.cb_paths.proofs.Folders.{walked_parts}
use Rattle.cb_paths.proofs.Below.{file_found, file_missed}
use Rattle.cb_paths.proofs.dir.Dir.file.Goals as goal

-- a front of one text is that of an equal one
front_at : (a b front : List ℕ) → a ≡ b → ((parts : List (List ℕ)) → list_all is_plain parts ≡ true → a ≡ folder_text parts → front ≡ rooted parts)
    → (parts : List (List ℕ)) → list_all is_plain parts ≡ true → b ≡ folder_text parts → front ≡ rooted parts
front_at a b front e h parts plain f = h parts plain (e ∙ f)

pub fitting-requires : goal.fitting-requires
fitting-requires c =
    let b : c.as_slice.result.now ≡ c.args.base.now = c.as_slice.ensures ∙ c.base.view_is in
    let r : c.as_slice-2.result.now ≡ c.args.root.now = c.as_slice-2.ensures ∙ c.root.view_is in
    let s = subst (λ d. Stands (walked_parts c.args.text.now d) c.in_ok-trail.trail) b c.in_ok-trail.ensures in
    let h = subst IsFolder c.root.view_is c.root.invariant in
    let front = front_at c.as_slice-2.result.now c.args.root.now c.front_of.result.now r c.front_of.ensures in
    (file_found c.args.text.now c.args.base.now c.args.root.now c.in-Some.rest.now c.front_of.result.now c.in_ok-trail.trail s h front (sym c.as_slice-3.ensures.value ∙ c.in-Some.ensures.some)).0

pub returns-in-Some : goal.returns-in-Some
returns-in-Some c =
    let b : c.as_slice.result.now ≡ c.args.base.now = c.as_slice.ensures ∙ c.base.view_is in
    let r : c.as_slice-2.result.now ≡ c.args.root.now = c.as_slice-2.ensures ∙ c.root.view_is in
    let s = subst (λ d. Stands (walked_parts c.args.text.now d) c.in_ok-trail.trail) b c.in_ok-trail.ensures in
    let h = subst IsFolder c.root.view_is c.root.invariant in
    let front = front_at c.as_slice-2.result.now c.args.root.now c.front_of.result.now r c.front_of.ensures in
    let f = (file_found c.args.text.now c.args.base.now c.args.root.now c.in-Some.rest.now c.front_of.result.now c.in_ok-trail.trail s h front (sym c.as_slice-3.ensures.value ∙ c.in-Some.ensures.some)).1 in
    rw f c.fitting.ensures

pub returns : goal.returns
returns c =
    let b : c.as_slice.result.now ≡ c.args.base.now = c.as_slice.ensures ∙ c.base.view_is in
    let r : c.as_slice-2.result.now ≡ c.args.root.now = c.as_slice-2.ensures ∙ c.root.view_is in
    let s = subst (λ d. Stands (walked_parts c.args.text.now d) c.in_ok-trail.trail) b c.in_ok-trail.ensures in
    let h = subst IsFolder c.root.view_is c.root.invariant in
    let front = front_at c.as_slice-2.result.now c.args.root.now c.front_of.result.now r c.front_of.ensures in
    sym (file_missed c.args.text.now c.args.base.now c.args.root.now c.front_of.result.now c.in_ok-trail.trail s h front (λ rest e. c.in-None.ensures.none rest (c.as_slice-3.ensures.value ∙ e)))
