use Rattle.std.proofs.Common.{get_or, subst}
use Rattle.cb_tokens.specs.Forms.{is_number_rest}
use Rattle.cb_tokens.specs.inner.Scan.{IsLongest}
use Rattle.cb_tokens.proofs.MoreArms.{point_number_stands, point_stands, point_first}
use Rattle.cb_tokens.proofs.first.point.Goals as goal

pub punctuator_len-requires : goal.punctuator_len-requires
punctuator_len-requires c = point_first c.args.bytes.now c.requires

pub returns-then-is_ascii_digit : goal.returns-then-is_ascii_digit
returns-then-is_ascii_digit c =
    let xs = c.args.bytes.now in
    point_number_stands xs c.number_rest.result c.requires (cc)
    (subst (λ ys. IsLongest (is_number_rest (get_or xs 0 0)) ys c.number_rest.result) c.behind.ensures c.number_rest.ensures)

pub returns : goal.returns
returns c = point_stands c.args.bytes.now c.punctuator_len.result c.requires (cc) c.punctuator_len.ensures
