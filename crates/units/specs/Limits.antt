-- The limits that a number's check sees to, R5: inner functions ask for them. No entry's contract cites this file.
use Rattle.std.specs.Prelude.{ℕ, ◌+◌, ◌≤◌}
use Rattle.grid.specs.Grid.{T_units}
use Rattle.units.specs.declared.Units.{Units}

pub record UnitsUpTo (limit : ℕ) (u : Units) : Type 0 where
  pub floor : u.floor ≤ limit
  pub ceiling : u.ceiling ≤ limit
  pub next : u.ceiling ≤ u.floor + 1

-- an estimate of an orbit
abbrev pub UnitsIn : Units → Type 0
UnitsIn = UnitsUpTo T_units
