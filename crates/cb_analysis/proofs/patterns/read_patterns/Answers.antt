use Rattle.std.proofs.Common.{◌≤◌, ◌<◌, length, map}
use Rattle.toml.specs.View.{view}
use Rattle.cb_analysis.proofs.Lists.{list_passes, list_too_many, length_map}
use Rattle.cb_analysis.proofs.patterns.read_patterns.Goals as goal

pub returns-then-texts-gt-PATTERN_LIMIT-clause-bad : goal.returns-then-texts-gt-PATTERN_LIMIT-clause-bad
returns-then-texts-gt-PATTERN_LIMIT-clause-bad c =
    let e = c.in-Some-text_items.ensures in
    let many : 1000 < length (map view c.in-Some-text_items.texts.now) = rw (length_map view c.in-Some-text_items.texts.now) c.if-texts-gt-PATTERN_LIMIT.true in
    rw (c.in-Some.is, list_too_many c.args.place.now (view c.in-Some.value.now) (map view c.in-Some-text_items.texts.now) e.texts e.items e.all many) c.bad-then-texts-gt-PATTERN_LIMIT.ensures

pub returns-clause-fine : goal.returns-clause-fine
returns-clause-fine c =
    let e = c.in-Some-text_items.ensures in
    let few : length (map view c.in-Some-text_items.texts.now) ≤ 1000 = rw (length_map view c.in-Some-text_items.texts.now) c.if-texts-gt-PATTERN_LIMIT.false in
    rw (c.in-Some.is, list_passes c.args.place.now (view c.in-Some.value.now) (map view c.in-Some-text_items.texts.now) e.texts e.items e.all few) c.patterns_of.ensures.fine

pub returns-clause-bad : goal.returns-clause-bad
returns-clause-bad c =
    let e = c.in-Some-text_items.ensures in
    let few : length (map view c.in-Some-text_items.texts.now) ≤ 1000 = rw (length_map view c.in-Some-text_items.texts.now) c.if-texts-gt-PATTERN_LIMIT.false in
    rw (c.in-Some.is, list_passes c.args.place.now (view c.in-Some.value.now) (map view c.in-Some-text_items.texts.now) e.texts e.items e.all few) c.patterns_of.ensures.bad
