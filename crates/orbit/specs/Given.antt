-- What a caller gives, R1, by the ways to pose a problem: its checks, whether it is mirrored, and its cell; and the problem at a
-- depth, R4.
use Rattle.std.specs.Prelude.{ℕ, Bool, List, [], ◌∷◌, ◌++◌, ℤ, pos, nat_abs, Float, Result}
use Rattle.std.specs.Float.Ieee.Positive.{den}
use Rattle.whole.specs.Sign.{negative}
use Rattle.grid.specs.Grid.{one, H_units}
use Rattle.grid.specs.Codes.{Check, allowed, m_check, a_check, depth_check}
use Rattle.grid.specs.Limits.{DepthIn}
use Rattle.grid.specs.declared.codes.Refusal.{Refusal}
use Rattle.grid.specs.declared.codes.Refusal.TheVariants.{BadM, BadA}
use Rattle.units.specs.Units.{mirror_double, is_below_zero, product, floor_and_ceiling, off_range}
use Rattle.orbit.specs.Mirror.{mirror}
use Rattle.orbit.specs.Cell.{Cell, Exact, InCell, grid_cell, CellIn}
use Rattle.orbit.specs.declared.pose.Problem.{Problem}
use Rattle.orbit.specs.declared.pose.Posed.{Posed}

-- R1: M and A in units of the grid; R60: M in radians and e as doubles
pub data Given : Type 0 where
  grid : ℤ → ℕ → Given
  doubles : Float → Float → Given

-- R60: M, or where it is below 0 its negative
abbrev pub size_of : Float → Float
size_of m = mirror_double (is_below_zero m) m

-- R5: whether M is beyond its limits, and whether A is
abbrev pub is_bad_m : Given → Bool
is_bad_m (grid m a) = (m_check m).fails
is_bad_m (doubles m e) = off_range H_units (size_of m)

abbrev pub is_bad_a : Given → Bool
is_bad_a (grid m a) = (a_check a).fails
is_bad_a (doubles m e) = off_range one e

-- R4, R5: the checks of M and A, codes 1 and 2: M is no angle, and its code is not 10
abbrev pub checks_of : Given → List Check
checks_of g = record { fails = is_bad_m g; code = BadM } ∷ record { fails = is_bad_a g; code = BadA } ∷ []

-- R59: whether it is mirrored, as a negative M is
abbrev pub mirrored_of : Given → Bool
mirrored_of (grid m a) = negative m
mirrored_of (doubles m e) = is_below_zero m

-- R1, R59, R60: what is known in whole units of M, or on the mirror of -M, and of A
abbrev pub cell_of : Given → Cell
cell_of (grid m a) = grid_cell (nat_abs m) a
cell_of (doubles m e) = record { m = floor_and_ceiling (size_of m); a = floor_and_ceiling e }

-- R1: M and A exactly: a finite double is product / den units in size
abbrev pub exact_of : Given → Exact
exact_of (grid m a) = record { p = m; q = 1; r = a; s = 1 }
exact_of (doubles m e) = record { p = mirror (is_below_zero m) (pos (product m)); q = den m; r = product e; s = den e }

-- R60: an exact M and A that what is given leaves possible
abbrev pub Possible : Given → Exact → Type 0
Possible g o = InCell (cell_of g) (mirrored_of g) o

-- R4: the first code that applies, or the cell, and whether it is mirrored
abbrev pub coded_cell : Given → Result (Posed Cell) Refusal
coded_cell g = allowed (checks_of g) (record { mirrored = mirrored_of g; of = cell_of g })

-- R4: codes 1, 2 and 3 in that order
abbrev pub problem_checks : Given → ℕ → List Check
problem_checks g d = checks_of g ++ depth_check d ∷ []

-- R4: a problem at a depth
abbrev pub problem_at : Cell → ℕ → Problem
problem_at c d = record { cell = c; depth = d }

-- R4: the first code that applies, or the problem, and whether it is mirrored
abbrev pub coded_problem : Given → ℕ → Result (Posed Problem) Refusal
coded_problem g d = allowed (problem_checks g d) (record { mirrored = mirrored_of g; of = problem_at (cell_of g) d })

-- R3: the limits of a problem, which its parts have; no entry's contract cites this
pub record ProblemIn (p : Problem) : Type 0 where
  pub cell : CellIn p.cell
  pub depth : DepthIn p.depth
