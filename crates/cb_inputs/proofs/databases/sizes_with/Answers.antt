use Rattle.std.proofs.Common.{sym, ◌∙◌, arith}
use Rattle.cb_inputs.specs.declared.database.Database.{Database}
use Rattle.cb_inputs.proofs.Maps.{sized_over, sized_new, sized_without}
use Rattle.cb_inputs.proofs.databases.sizes_with.Goals as goal

pub overflow_sub-result : goal.overflow_sub-result
overflow_sub-result c =
    let less = sized_without (λ (d : Database). d.bytes) c.args.map.now.entries c.args.path.now c.in-Some.database.now (sym c.in-Some.ensures.value) in
    omega (arith, c.len.ensures, c.requires.counted, less.1)

pub returns-in-Some-clause-count : goal.returns-in-Some-clause-count
returns-in-Some-clause-count c =
    let over = sized_over (λ (d : Database). d.bytes) c.args.map.now.entries c.args.path.now c.args.bytes.now c.in-Some.database.now c.len-count.ensures.ordered (sym c.in-Some.ensures.value) in
    c.len-count.ensures.len ∙ sym over.0

pub returns-in-Some-clause-bytes : goal.returns-in-Some-clause-bytes
returns-in-Some-clause-bytes c =
    let less = sized_without (λ (d : Database). d.bytes) c.args.map.now.entries c.args.path.now c.in-Some.database.now (sym c.in-Some.ensures.value) in
    let over = sized_over (λ (d : Database). d.bytes) c.args.map.now.entries c.args.path.now c.args.bytes.now c.in-Some.database.now c.len-count.ensures.ordered (sym c.in-Some.ensures.value) in
    omega (arith, c.len.ensures, c.requires.counted, less.1, over.1)

pub returns-in-None-clause-count : goal.returns-in-None-clause-count
returns-in-None-clause-count c =
    let more = sized_new (λ (d : Database). d.bytes) c.args.map.now.entries c.args.path.now c.args.bytes.now c.len-count.ensures.ordered (sym c.in-None.ensures.value) in
    omega (arith, c.len-count.ensures.len, more.0)

pub returns-in-None-clause-bytes : goal.returns-in-None-clause-bytes
returns-in-None-clause-bytes c =
    let more = sized_new (λ (d : Database). d.bytes) c.args.map.now.entries c.args.path.now c.args.bytes.now c.len-count.ensures.ordered (sym c.in-None.ensures.value) in
    omega (arith, c.requires.counted, more.1)
