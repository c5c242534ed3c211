-- The tests where they are known beforehand: at 0 and at T, and at e = 0. Assumes nothing.
use mathlib.Core.Path.{refl}
use mathlib.Core.Bool.{true, not}
use mathlib.Core.Logic.{◌↔◌}
use Prim.Native.Nat.{ℕ, ◌*◌, ◌≤◌}
use native.Mathlib.Omega.{arith}
use native.Mathlib.Nat.{mul-le-mul_left, mul-le-mul_right}
use lib.Dec.{T, not_T}
use lib.IntN.{pos}
use lib.Signed.{◌≤ℤ◌}
use Rattle.whole.proofs.Parts.{plus, minus, own, is_pos}
use Rattle.whole.proofs.Order.{le_parts}
use Rattle.grid.specs.Grid.{one, H_units, T_units, depths}
use Rattle.series.specs.Terms.{l, u}
use Rattle.series.specs.Bounds.{evens, odds, raw_low, raw_high, greatest_low, least_high}
use Rattle.series.specs.Exact.{num, ratio, S}
use Rattle.series.specs.Sine.{sine, Lo, Hi, S9, den9}
use Rattle.series.proofs.Sums.{same, other}
use Rattle.series.proofs.OfSine.{sine_divides}
use Rattle.series.proofs.TermsTrue.{den_pos}
use Rattle.series.proofs.Deeper.{Lo_rises}
use Rattle.series.proofs.Next.{S9_parts}
use Rattle.orbit.specs.Cell.{Orbit, orbit_at, grid_cell, CellIn}
use Rattle.orbit.specs.Cell.{Cell}
use Rattle.ends.specs.Ends.{below_at, above_at, lower_end, upper_end}
use Rattle.ends.proofs.BothEnds.{no_sine}
use Rattle.ends.proofs.Corners.{below_corners, above_corners, deeper}
use Rattle.ends.proofs.InNaturals.{below_test, above_test}
use Rattle.ends.proofs.Exact.{below_true}

-- ---- three computed facts

low_at_0 : pos 0 ≤ℤ Lo 0 0
unfolding greatest_low raw_low evens odds l u
low_at_0 = record { le = tt }

high_at_T : Hi T_units 4 ≤ℤ pos 0
unfolding least_high raw_high evens odds l u
high_at_T = record { le = tt }

sum_at_T : S9 T_units ≤ℤ pos 0
unfolding S num ratio
sum_at_T = record { le = tt }

-- ---- R23: as lower end 0 is always accepted, T never

zero_below : (o : Orbit) (d : ℕ) → T (below_at o 0 (Lo 0 d))
zero_below o d =
    let h = (le_parts (is_pos 0) (own (Lo 0 0))).0 low_at_0 in
    let k = (le_parts (own (Lo 0 0)) (own (Lo 0 d))).0 (Lo_rises 0 0 d (omega arith)) in
    let n : minus (Lo 0 d) ≤ plus (Lo 0 d) = omega arith in
    (below_test o 0 (Lo 0 d)).1 (omega (arith, mul-le-mul_left o.a n))

pub zero_lower : (c : Cell) (d : ℕ) → T (lower_end c d 0)
zero_lower c d = (below_corners c 0 (Lo 0 d)).1 (zero_below _ d, zero_below _ d)

T_not_below : (o : Orbit) (d : ℕ) → o.m ≤ H_units → d ≤ depths → T (below_at o T_units (Lo T_units d)) → ⊥
T_not_below o d m j t =
    let h = below_true o T_units (omega arith) d j t in
    let k : other sine T_units 9 ≤ same sine T_units 9 =
    (let n = (le_parts (S9_parts T_units) (is_pos 0)).0 sum_at_T in omega arith) in
    omega (arith, den_pos sine sine_divides 9, mul-le-mul_left o.a k, mul-le-mul_right den9 m)

pub T_never : (c : Cell) (d : ℕ) → CellIn c → d ≤ depths → T (not (lower_end c d T_units))
T_never c d i j =
    let h = i.means in
    let k = i.mean in
    not_T (lower_end c d T_units)
    (λ t. T_not_below (orbit_at c.m.floor c.a.floor) d (omega arith) j ((below_corners c T_units (Lo T_units d)).0 t).0)

-- R28: from depth 4 on T is an accepted upper end
T_above : (o : Orbit) → o.m ≤ T_units → T (above_at o T_units (Hi T_units 4))
T_above o m =
    let n : plus (Hi T_units 4) ≤ minus (Hi T_units 4) =
    (let h = (le_parts (own (Hi T_units 4)) (is_pos 0)).0 high_at_T in omega arith) in
    (above_test o T_units (Hi T_units 4)).1 (omega (arith, mul-le-mul_left o.a n))

pub T_upper : (c : Cell) (d : ℕ) → c.m.ceiling ≤ T_units → 4 ≤ d → T (upper_end c d T_units)
T_upper c d m i =
    deeper true c T_units i ((above_corners c T_units (Hi T_units 4)).1 (T_above _ m, T_above _ m))

-- ---- R32: on the grid, at A = 0 the tests compare X with M

module _ (m d X : ℕ) where
  pub circle_lower : T (lower_end (grid_cell m 0) d X) ↔ X ≤ m
  circle_lower =
      let o = orbit_at m 0 in
      let (there, back) = no_sine (one * X) (one * m) 0 refl (plus (Lo X d)) (minus (Lo X d)) in (
        λ t. let h = there ((below_test o X (Lo X d)).0 ((below_corners (grid_cell m 0) X (Lo X d)).0 t).0) in omega arith,
        λ h. let t = (below_test o X (Lo X d)).1 (back (omega arith)) in (below_corners (grid_cell m 0) X (Lo X d)).1 (t, t),
      )

  pub circle_upper : T (upper_end (grid_cell m 0) d X) ↔ m ≤ X
  circle_upper =
      let o = orbit_at m 0 in
      let (there, back) = no_sine (one * m) (one * X) 0 refl (minus (Hi X d)) (plus (Hi X d)) in (
        λ t. let h = there ((above_test o X (Hi X d)).0 ((above_corners (grid_cell m 0) X (Hi X d)).0 t).0) in omega arith,
        λ h. let t = (above_test o X (Hi X d)).1 (back (omega arith)) in (above_corners (grid_cell m 0) X (Hi X d)).1 (t, t),
      )
