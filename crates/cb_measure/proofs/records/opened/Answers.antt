use Rattle.std.proofs.Common.{refl, sym, ◌∙◌, inr}
use Rattle.csv.specs.Reading.{Reached, strip_bom}
use Rattle.cb_measure.proofs.records.opened.Goals as goal

pub returns : goal.returns
unfolding Reached
returns c =
    let fr = c.from_reader.ensures in
    let flexible = c.flexible.ensures in
    let named = c.has_headers.ensures in
    record {
      trim = rw (flexible, named) at fr.trim ∙ c.new.ensures.trim;
      ready = inr (inr (rw (flexible, named) at fr.has_headers, fr.headers));
      config = rw (flexible, named) at fr.config ∙ c.new.ensures.config;
      left = strip_bom c.args.text.now;
      source = fr.source;
      reached = (sym fr.state, refl);
    }
