-- `ends::upper_end` meets its contract: what the test says is answered.
use mir.Facts.{to_z-of_z}
use Rattle.grid.proofs.FirstCode.{answered}
use Rattle.ends.specs.Entry.{end_refused, flagged, end_checks}
use Rattle.ends.proofs.upper_end.Goals as goal

pub returns : goal.returns
returns g c =
    answered end_refused flagged _ (end_checks c.args.x (g.G.Given.given c.args.given) c.args.depth) c.from.ensures
    (rw (to_z-of_z c.ranges.x) at c.end_test.ensures)
