use Rattle.std.proofs.Common.{◌≡◌, ℕ, List, Some, [], ◌∷◌, ◌++◌, map, ap, sym, ◌∙◌, subst, arith}
use Rattle.std.proofs.lemmas.List.{map-append}
use Rattle.std.proofs.lemmas.List.Elements.{All-append, All-cons}
use Rattle.std.specs.List.{All, filter_map, cons_option}
use Rattle.std.specs.Map.Iter.{deref}
use Rattle.cb_paths.specs.Paths.{path_of}
use Rattle.cb_outside.specs.Trees.{named, file_in}
use Rattle.cb_outside.specs.declared.names.NameKind.TheVariants.{File}
use Rattle.cb_outside.proofs.Once.{added}
use Rattle.cb_outside.proofs.listing.add_files.Goals as goal

pub files-preserved : goal.files-preserved
files-preserved c =
    let before = map deref c.files.yielded in
    let path = c.in-Some.path.now in
    let file = file_in c.args.folder.now in
    let is_normal : List ℕ → Type 0 = λ p. path_of p ≡ Some p in
    let all : before ++ path ∷ [] ≡ map deref (c.files.yielded ++ c.in-Some.path ∷ []) = sym (map-append deref c.files.yielded (c.in-Some.path ∷ [])) in
    record {
      added = c.in_ok-add_name.ensures
          ∙ ap (λ found. c.files.names ++ map (named File) (cons_option found [])) (c.file_in.ensures ∙ ap file c.bytes.ensures.bytes)
          ∙ ap (λ names. names ++ map (named File) (cons_option (file path) [])) c.files.invariant.added
          ∙ added (named File) file c.args.names.now before path
          ∙ ap (λ paths. c.args.names.now ++ map (named File) (filter_map file paths)) all;
      normal = subst (All is_normal) all (All-append is_normal before (path ∷ []) c.files.invariant.normal
          (All-cons is_normal path [] c.bytes.ensures.normal (λ k d within. absurd (omega arith))));
    }
