-- The limits of a depth, R3, which hold of each. No entry's contract cites this file.
use Rattle.std.specs.Prelude.{ℕ, ◌≤◌}
use Rattle.grid.specs.Grid.{depths}

pub record DepthIn (d : ℕ) : Type 0 where
  pub some : 1 ≤ d
  pub few : d ≤ depths
