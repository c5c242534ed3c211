-- `distance::distance` meets its contract: the distances that were found are answered.
use Rattle.grid.proofs.FirstCode.{answered}
use Rattle.distance.specs.Distance.{off_as, no_distance, distance_checks, distance_rule}
use Rattle.distance.proofs.distance.Goals as goal

pub returns : goal.returns
unfolding distance_rule
returns g c =
    answered no_distance off_as _ (distance_checks (g.G.Given.given c.args.given) c.args.estimate) c.from.ensures c.posed_off.ensures
