-- `flyby::upper_end` meets its contract: what the test says is answered.
use Rattle.grid.proofs.FirstCode.{answered}
use Rattle.ends.specs.Entry.{end_refused, flagged}
use Rattle.flyby.specs.Entry.{end_checks, end_rule}
use Rattle.flyby.proofs.upper_end.Goals as goal

pub returns : goal.returns
unfolding end_rule
returns c = answered end_refused flagged _ (end_checks c.args.x c.args.given.m c.args.given.b) c.from.ensures c.end_test.ensures
