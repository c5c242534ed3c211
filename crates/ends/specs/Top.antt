-- The greatest X of whatever has ends to be tested. No entry's contract cites this file.
use Rattle.std.specs.Prelude.{ℕ, ◌≤◌, ◌<◌}
use Rattle.grid.specs.Grid.{T_units}

-- a top above 0 and not beyond T, so that 30 turns end a search, and what it finds has a negative
pub record TopIn (top : ℕ) : Type 0 where
  pub some : 0 < top
  pub fits : top ≤ T_units
