-- What is posed is within its limits. Assumes nothing.
use mathlib.Core.Path.{◌≡◌}
use mathlib.Core.List.{[], ◌∷◌}
use Prim.Native.Nat.{ℕ}
use native.Mathlib.Omega.{arith}
use lib.IntN.{nat_abs}
use lib.Ieee.Positive.{den, den_pos}
use Rattle.std.specs.Prelude.{Ok}
use Rattle.whole.proofs.Round.{down-le-up}
use Rattle.grid.specs.Grid.{one, H_units}
use Rattle.grid.specs.Codes.{Passed, depth_check}
use Rattle.grid.specs.declared.codes.Refusal.TheVariants.{BadM, BadA}
use Rattle.grid.proofs.Fits.{limit_fits, depth_fits}
use Rattle.grid.proofs.FirstCode.{made, split}
use Rattle.units.specs.Units.{product}
use Rattle.units.proofs.Range.{passed_in_range, ceiling_fits}
use Rattle.orbit.specs.Cell.{Cell, CellIn}
use Rattle.orbit.specs.Given.{Given, grid, doubles, size_of, checks_of, mirrored_of, cell_of, coded_cell, problem_checks, problem_at, coded_problem, ProblemIn}
use Rattle.orbit.specs.declared.pose.Posed.{Posed}
use Rattle.orbit.specs.declared.pose.Problem.{Problem}

pub cell_in : (g : Given) → Passed (checks_of g) → CellIn (cell_of g)
cell_in (grid m a) p =
    let h = limit_fits (nat_abs m) H_units BadM p.0 in
    let k = limit_fits a one BadA p.1.0 in
    record { means = omega arith; mean = h; shapes = omega arith; shape = k }
cell_in (doubles m e) p =
    record {
      means = down-le-up (product (size_of m)) (den (size_of m)) (den_pos (size_of m));
      mean = ceiling_fits (passed_in_range H_units (size_of m) p.0);
      shapes = down-le-up (product e) (den e) (den_pos e);
      shape = ceiling_fits (passed_in_range one e p.1.0);
    }

pub problem_in : (g : Given) (d : ℕ) → Passed (problem_checks g d) → ProblemIn (problem_at (cell_of g) d)
problem_in g d p =
    let (cell, depth) = split (checks_of g) (depth_check d ∷ []) p in
    record { cell = cell_in g cell; depth = depth_fits d depth.0 }

-- so what was posed is within its limits where it has no code
pub cell_posed : (g : Given) {p : Posed Cell} → coded_cell g ≡ Ok p → CellIn p.of
cell_posed g {p} e =
    let given : Posed Cell = record { mirrored = mirrored_of g; of = cell_of g } in
    let (passed, same) = made given (checks_of g) e in
    rw same (cell_in g passed)

pub posed_in : (g : Given) (d : ℕ) {p : Posed Problem} → coded_problem g d ≡ Ok p → ProblemIn p.of
posed_in g d {p} e =
    let given : Posed Problem = record { mirrored = mirrored_of g; of = problem_at (cell_of g) d } in
    let (passed, same) = made given (problem_checks g d) e in
    rw same (problem_in g d passed)
