use Rattle.std.proofs.Common.{◌≡◌, ◌∙◌, true, ap, rules}
use Rattle.std.specs.Result.{is_ok}
use Rattle.std.specs.BTreeMap.{insert_entry, is_at}
use Rattle.std.specs.Map.{remove_entry}
use Rattle.std.specs.Ordering.{nat_cmp}
use Rattle.std.specs.Cmp.Lexicographic.{slice_cmp}
use Rattle.cb_inputs.proofs.Maps.{ok_holds, undone}
use Rattle.cb_inputs.proofs.databases.add_kept.Goals as goal

pub returns-in-Err-clause-unchanged : goal.returns-in-Err-clause-unchanged
returns-in-Err-clause-unchanged g c =
    let good : is_ok c.insert.result ≡ true = search rules in
    let made : c.insert.new.self.entries ≡ insert_entry (slice_cmp nat_cmp) c.args.map.now.entries c.args.fresh.key c.args.fresh.database = ok_holds c.insert.result good c.insert.ensures.entries in
    let inserted = made ∙ ap (λ q. insert_entry (slice_cmp nat_cmp) c.args.map.now.entries q c.args.fresh.database) c.requires.same_key in
    c.remove.ensures.entries ∙ (ap (λ es. remove_entry (is_at (slice_cmp nat_cmp c.args.path.now)) es) inserted ∙ undone c.args.path.now c.args.fresh.database c.args.map.now.entries c.requires.absent)
