-- `series::known` meets its contract: the bounds that were biased, read back.
use Rattle.std.proofs.Common.{◌∙◌, ap, sym}
use Rattle.std.specs.Prelude.{Ok}
use Rattle.series.proofs.Answers.{known_by}
use Rattle.series.proofs.known.Goals as goal

pub returns : goal.returns
returns g c =
    ap Ok c.values.ensures
    ∙ known_by g.S.Series.series c.args.x c.args.depth (sym c.ask.ensures ∙ c.in_ok-q.was) c.bounds_at.ensures.range c.bounds_at.ensures.value
