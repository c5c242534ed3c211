-- What is known of the size of M and of A, R1: each rounded down and up; on the grid a cell is one point.
use Rattle.std.specs.Prelude.{ℕ, ◌*◌, ◌≤◌, ◌<◌, Bool, ℤ, pos, ◌≤ℤ◌}
use Rattle.grid.specs.Grid.{one, H_units}
use Rattle.orbit.specs.Mirror.{mirror}
use Rattle.units.specs.declared.Units.{Units}
use Rattle.units.specs.Units.{exactly}

-- R1: what is known of M and of A
pub record Cell : Type 0 where
  pub m : Units
  pub a : Units

-- R1: M and A of the grid
abbrev pub grid_cell : ℕ → ℕ → Cell
grid_cell m a = record { m = exactly m; a = exactly a }

-- R1: one M, not below 0, and one A, in units: a corner of a cell
pub record Orbit : Type 0 where
  pub m : ℕ
  pub a : ℕ

-- R1: M and A as they are
abbrev pub orbit_at : ℕ → ℕ → Orbit
orbit_at m a = record { m = m; a = a }

-- R1: M = p / q units, with its sign, and A = r / s, exactly
pub record Exact : Type 0 where
  pub p : ℤ
  pub q : ℕ
  pub r : ℕ
  pub s : ℕ

-- R60: such an M and A within a cell: M, or on the mirror -M, from M down to M up, and A from A down to A up
pub record InCell (c : Cell) (mirrored : Bool) (o : Exact) : Type 0 where
  pub over_q : 0 < o.q
  pub over_s : 0 < o.s
  pub m_least : pos (c.m.floor * o.q) ≤ℤ mirror mirrored o.p
  pub m_most : mirror mirrored o.p ≤ℤ pos (c.m.ceiling * o.q)
  pub a_least : c.a.floor * o.s ≤ o.r
  pub a_most : o.r ≤ c.a.ceiling * o.s

-- R3: the limits of a cell, which the checked constructors see to; no entry's contract cites this
pub record CellIn (c : Cell) : Type 0 where
  pub means : c.m.floor ≤ c.m.ceiling
  pub mean : c.m.ceiling ≤ H_units
  pub shapes : c.a.floor ≤ c.a.ceiling
  pub shape : c.a.ceiling ≤ one
