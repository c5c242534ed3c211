-- An end test as the code makes it. No entry's contract cites this file: it is checked, and need not be believed.
use Rattle.std.specs.Prelude.{ℕ, ◌+◌, ◌*◌, ◌≤◌, Bool, true, false, not, cond, ◌&&◌, leb, Option, Some, None}
use Rattle.grid.specs.Grid.{one, H_units}
use Rattle.series.specs.Walk.{bias}
use Rattle.orbit.specs.Cell.{Orbit, Cell}
use Rattle.units.specs.declared.Units.{Units}
use Rattle.units.specs.Units.{exactly}

-- the cell of one M, by which a test of one end goes
abbrev pub one_mean : ℕ → ℕ → ℕ → Cell
one_mean m floor ceiling = record { m = exactly m; a = record { floor = floor; ceiling = ceiling } }

-- what no depth changes in the test of one M and one A: A, 2^28 M, and 2^28 X + A 2^34
pub record Corner : Type 0 where
  pub shape : ℕ
  pub mean : ℕ
  pub level : ℕ

-- its limits, so that products and sums fit
pub record CornerIn (c : Corner) : Type 0 where
  pub shape : c.shape ≤ one
  pub mean : c.mean ≤ one * H_units

-- 2^28 X + A 2^34 against 2^28 M + A (bound + 2^34)
abbrev pub corner_of : Orbit → ℕ → Corner
corner_of o X = record { shape = o.a; mean = one * o.m; level = one * X + o.a * bias }

abbrev pub test_by : Bool → Corner → ℕ → Bool
test_by true c bound = leb (c.shape * bound + c.mean) c.level
test_by false c bound = leb c.level (c.shape * bound + c.mean)

-- the M by which the test of an upper end goes, or of a lower one
abbrev pub own_mean : Bool → Units → ℕ
own_mean true m = m.ceiling
own_mean false m = m.floor

-- and the bound, of Lo and Hi
abbrev pub own_bound : Bool → ℕ → ℕ → ℕ
own_bound true lo hi = hi
own_bound false lo hi = lo

-- what one depth says of an end: whether that settles every greater depth too, and whether it is accepted
pub record AtDepth : Type 0 where
  pub settles : Bool
  pub accepts : Bool

-- whether it is accepted, where that is settled
abbrev pub said : AtDepth → Option Bool
said r = cond r.settles (Some r.accepts) None

-- what one depth says by the bound of the test and by the other end's: whether both corners accept; that settles every greater depth
-- too where they do, and where the other bound fails the least corner
abbrev pub at_depth : Bool → Corner → Corner → ℕ → ℕ → AtDepth
at_depth upper least most own other =
    let first = test_by upper least own in
    let second = test_by upper most own in
    record { settles = cond first second (not (test_by upper least other)); accepts = first && second }
