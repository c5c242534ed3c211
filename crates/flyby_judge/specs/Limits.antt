-- The limits of a claim whose checks passed. No entry's contract cites this file.
use Rattle.std.specs.Prelude.{◌≤◌}
use Rattle.grid.specs.Grid.{N_units}
use Rattle.grid.specs.Flyby.{X_top}
use Rattle.units.specs.Units.{floor_and_ceiling}
use Rattle.units.specs.Limits.{UnitsUpTo}
use Rattle.flyby.specs.Posed.{FlybyIn}
use Rattle.flyby_judge.specs.Judge.{Claim}

-- of its flyby, of f and c, and of N
pub record CaseIn (k : Claim) : Type 0 where
  pub flyby : FlybyIn (record { mean = k.m; shape = k.b })
  pub units : UnitsUpTo X_top (floor_and_ceiling k.estimate)
  pub tolerance : k.n ≤ N_units
