-- `sinh::sinh` meets its contract: code 10, or the two bounds.
use Rattle.grid.proofs.FirstCode.{answered}
use Rattle.series.specs.Entry.{no_bounds}
use Rattle.series.specs.Asked.{done_interval}
use Rattle.sinh.specs.Entry.{sinh_checks, interval, sinh_rule}
use Rattle.sinh.proofs.sinh.Goals as goal

pub returns : goal.returns
unfolding sinh_rule
returns c = answered no_bounds done_interval (interval c.args.x) (sinh_checks c.args.x) c.from.ensures c.known.ensures
