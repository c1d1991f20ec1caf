use Rattle.std.proofs.Common.{[], ◌∷◌, map, ap, sym, ◌∙◌}
use Rattle.std.proofs.lemmas.List.{map-append}
use Rattle.std.specs.List.{filter_map}
use Rattle.std.specs.Map.Iter.{deref}
use Rattle.cb_outside.specs.Trees.{each_once, folder_in}
use Rattle.cb_outside.specs.inner.Listing.{with_found}
use Rattle.cb_outside.proofs.Once.{gathered}
use Rattle.cb_outside.proofs.listing.folders_in.Goals as goal

pub files-preserved : goal.files-preserved
files-preserved c =
    let before = map deref c.files.yielded in
    let folder = folder_in c.args.folder.now in
    let found = c.folder_in.ensures ∙ ap folder c.bytes.ensures.bytes in
    c.in_ok-add_once.ensures
    ∙ ap (with_found c.files.folders) found
    ∙ ap (λ held. with_found held (folder c.in-Some.path.now)) c.files.invariant
    ∙ sym (gathered folder before c.in-Some.path.now)
    ∙ ap (λ paths. each_once (filter_map folder paths)) (sym (map-append deref c.files.yielded (c.in-Some.path ∷ [])))
