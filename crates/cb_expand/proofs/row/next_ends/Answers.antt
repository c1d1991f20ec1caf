use Rattle.std.proofs.Common.{◌≡◌, ◌-◌, ◌<◌, false, true, length, get_or, sym, ◌∙◌, ap, arith}
use Rattle.std.proofs.lemmas.List.{length-map}
use Rattle.cb_paste.specs.declared.work_token.WorkToken.{WorkToken}
use Rattle.cb_expand.specs.declared.sign.Sign.TheVariants as kinds
use Rattle.cb_expand.specs.Arguments.{sign}
use Rattle.cb_expand.specs.inner.Rows.{signs, end_height}
use Rattle.cb_expand.proofs.Heights.{height_close, height_comma, height_within_comma, height_plain, height_open, height_within}
use Rattle.cb_expand.proofs.Keeping.{sign_at}
use Rattle.cb_expand.proofs.row.next_ends.Goals as goal

pub close_below-requires : goal.close_below-requires
close_below-requires c =
    let n = c.requires.kept in
    let a = n.close (length c.args.ends.now) (omega arith) in
    let b = height_within (signs c.args.tokens.now) false (length c.args.ends.now) n.within in
    omega (arith, a, b, c.close_below-close.ensures)

pub separator_below-requires-in-Open : goal.separator_below-requires-in-Open
separator_below-requires-in-Open c =
    let n = c.requires.kept in
    let a = n.close (length c.args.ends.now) (omega arith) in
    let b = height_within (signs c.args.tokens.now) false (length c.args.ends.now) n.within in
    omega (arith, a, b, c.close_below-close.ensures)

pub returns-in-Close-clause-close : goal.returns-in-Close-clause-close
returns-in-Close-clause-close c =
    let ts = c.args.tokens.now in
    let n = length c.args.ends.now in
    let m : n < length (signs ts) = omega (arith, length-map ts (λ (t : WorkToken). sign t.kind t.text)) in
    let f = sign_at ts n c.index-tokens-height.result c.requires.more c.index-tokens-height.is in
    let e : get_or (signs ts) n kinds.Plain ≡ kinds.Close = cc in
    sym (height_close (signs ts) n false m e)

pub returns-in-Close-clause-separator : goal.returns-in-Close-clause-separator
returns-in-Close-clause-separator c =
    let ts = c.args.tokens.now in
    let n = length c.args.ends.now in
    let m : n < length (signs ts) = omega (arith, length-map ts (λ (t : WorkToken). sign t.kind t.text)) in
    let f = sign_at ts n c.index-tokens-height.result c.requires.more c.index-tokens-height.is in
    let e : get_or (signs ts) n kinds.Plain ≡ kinds.Close = cc in
    sym (height_close (signs ts) n true m e)

pub returns-in-Comma-clause-close : goal.returns-in-Comma-clause-close
returns-in-Comma-clause-close c =
    let ts = c.args.tokens.now in
    let n = length c.args.ends.now in
    let m : n < length (signs ts) = omega (arith, length-map ts (λ (t : WorkToken). sign t.kind t.text)) in
    let f = sign_at ts n c.index-tokens-height.result c.requires.more c.index-tokens-height.is in
    let e : get_or (signs ts) n kinds.Plain ≡ kinds.Comma = cc in
    c.close_below-close.ensures ∙ (c.requires.kept.close n (omega arith) ∙ sym (height_within_comma (signs ts) n m e))

pub returns-in-Comma-clause-separator : goal.returns-in-Comma-clause-separator
returns-in-Comma-clause-separator c =
    let ts = c.args.tokens.now in
    let n = length c.args.ends.now in
    let m : n < length (signs ts) = omega (arith, length-map ts (λ (t : WorkToken). sign t.kind t.text)) in
    let f = sign_at ts n c.index-tokens-height.result c.requires.more c.index-tokens-height.is in
    let e : get_or (signs ts) n kinds.Plain ≡ kinds.Comma = cc in
    sym (height_comma (signs ts) n m e)

pub returns-in-Plain-clause-close : goal.returns-in-Plain-clause-close
returns-in-Plain-clause-close c =
    let ts = c.args.tokens.now in
    let n = length c.args.ends.now in
    let m : n < length (signs ts) = omega (arith, length-map ts (λ (t : WorkToken). sign t.kind t.text)) in
    let f = sign_at ts n c.index-tokens-height.result c.requires.more c.index-tokens-height.is in
    let e : get_or (signs ts) n kinds.Plain ≡ kinds.Plain = cc in
    c.close_below-close.ensures ∙ (c.requires.kept.close n (omega arith) ∙ sym (height_plain (signs ts) n false m e))

pub returns-in-Plain-clause-separator : goal.returns-in-Plain-clause-separator
returns-in-Plain-clause-separator c =
    let ts = c.args.tokens.now in
    let n = length c.args.ends.now in
    let m : n < length (signs ts) = omega (arith, length-map ts (λ (t : WorkToken). sign t.kind t.text)) in
    let f = sign_at ts n c.index-tokens-height.result c.requires.more c.index-tokens-height.is in
    let e : get_or (signs ts) n kinds.Plain ≡ kinds.Plain = cc in
    c.separator_below.ensures ∙ (c.requires.kept.separator n (omega arith) ∙ sym (height_plain (signs ts) n true m e))

pub returns-in-Open-clause-close : goal.returns-in-Open-clause-close
returns-in-Open-clause-close c =
    let ts = c.args.tokens.now in
    let n = length c.args.ends.now in
    let m : n < length (signs ts) = omega (arith, length-map ts (λ (t : WorkToken). sign t.kind t.text)) in
    let f = sign_at ts n c.index-tokens-height.result c.requires.more c.index-tokens-height.is in
    let e : get_or (signs ts) n kinds.Plain ≡ kinds.Open = cc in
    let a = c.requires.kept.close n (omega arith) in
    let b = height_within (signs ts) false n c.requires.kept.within in
    let k : c.saturating_sub-behind.result ≡ end_height false (signs ts) n - 1 = omega (arith, a, c.close_below-close.ensures) in
    c.close_below.ensures ∙ (c.requires.kept.close c.saturating_sub-behind.result (omega arith) ∙ (ap (end_height false (signs ts)) k ∙ sym (height_open (signs ts) n false m e)))

pub returns-in-Open-clause-separator : goal.returns-in-Open-clause-separator
returns-in-Open-clause-separator c =
    let ts = c.args.tokens.now in
    let n = length c.args.ends.now in
    let m : n < length (signs ts) = omega (arith, length-map ts (λ (t : WorkToken). sign t.kind t.text)) in
    let f = sign_at ts n c.index-tokens-height.result c.requires.more c.index-tokens-height.is in
    let e : get_or (signs ts) n kinds.Plain ≡ kinds.Open = cc in
    let a = c.requires.kept.close n (omega arith) in
    let b = height_within (signs ts) false n c.requires.kept.within in
    let k : c.saturating_sub-behind.result ≡ end_height false (signs ts) n - 1 = omega (arith, a, c.close_below-close.ensures) in
    c.separator_below-in-Open.ensures ∙ (c.requires.kept.separator c.saturating_sub-behind.result (omega arith) ∙ (ap (end_height true (signs ts)) k ∙ sym (height_open (signs ts) n true m e)))
