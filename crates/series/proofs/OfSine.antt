-- Sine's terms for the angles tested: the greatest angle gives a limit for every angle. Assumes nothing.
use Prim.Native.Nat.{ℕ, suc, ◌*◌, ◌≤◌}
use native.Mathlib.Omega.{arith}
use native.Mathlib.Nat.{le_trans}
use Rattle.grid.specs.Grid.{one, T_units}
use Rattle.series.specs.Terms.{l, u}
use Rattle.series.specs.Sine.{sine}
use Rattle.series.proofs.TermLimits.{Divides, l-le-u, at_T, terms_within}

pub sine_divides : Divides sine
sine_divides k = omega arith

-- every divisor but the first is at least 20
pub from_20 : (k : ℕ) → 20 ≤ sine.divisor (suc (suc k))
from_20 k = omega arith

-- no term is above 8 radians
pub u_within : (X : ℕ) → X ≤ T_units → (k : ℕ) → u sine X k ≤ 8 * one
unfolding u
u_within = terms_within sine sine_divides (λ X Y h. h) (8 * one) tt tt (λ k. omega (arith, from_20 k))

pub l_within : (X : ℕ) → X ≤ T_units → (k : ℕ) → l sine X k ≤ 8 * one
l_within X h k = le_trans (l-le-u sine sine_divides X k) (u_within X h k)

-- the last term that depth 5 adds
pub u10_within : (X : ℕ) → X ≤ T_units → u sine X 10 ≤ 1
unfolding u
u10_within X h = at_T sine sine_divides (λ X Y h. h) X 10 1 h tt
