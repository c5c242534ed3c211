-- `series::lo_and_hi` meets its contract: a code, or the bounds of what is asked about.
use Rattle.grid.proofs.FirstCode.{answered}
use Rattle.series.specs.Entry.{bounds_checks, no_bounds, bounds_rule}
use Rattle.series.specs.Asked.{interval, done_interval}
use Rattle.series.proofs.lo_and_hi.Goals as goal

pub returns : goal.returns
unfolding bounds_rule
returns g c =
    answered no_bounds done_interval (interval g.S.Series.series c.args.x c.args.depth) (bounds_checks c.args.x c.args.depth)
    c.from.ensures c.known.ensures
