use Rattle.cb_expand.proofs.Runs.{stepped_more}
use Rattle.cb_expand.proofs.standing.stand_plain.Goals as goal

pub tokens-preserved : goal.tokens-preserved
tokens-preserved c = record {
  row = c.in_ok-stand_next-2.ensures.row;
  stood = λ ms mode h.
      let a = c.tokens.invariant.stood ms mode h in
      stepped_more ms mode _ _ _ a (c.in_ok-stand_next-2.ensures.stood ms mode a.kept);
}
