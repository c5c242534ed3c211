-- R19 and R20 in exact fractions, R60: what the test of a cell says of every exact M and A in it, and on the grid what 32 e units to
-- spare say. Assumes nothing.
use mathlib.Core.Bool.{Bool, true, false, not}
use Prim.Native.Nat.{ℕ, ◌+◌, ◌*◌, ◌≤◌}
use native.Mathlib.Omega.{arith}
use native.Mathlib.Nat.{mul-le-mul_left}
use lib.Dec.{T}
use lib.IntN.{pos}
use Rattle.whole.proofs.Parts.{Is, plus, minus, own, is_pos, is_add, is_minus, is_mul, is_mul_right}
use Rattle.whole.proofs.Order.{le_parts}
use Rattle.grid.specs.Grid.{one, T_units, depths}
use Rattle.series.specs.Sine.{sine, Lo, Hi, den9, den10}
use Rattle.series.proofs.Sums.{same, other}
use Rattle.series.proofs.OfSine.{sine_divides}
use Rattle.series.proofs.Next.{drop-last, add-last, S9_parts, S10_parts}
use Rattle.orbit.specs.Cell.{Exact, InCell, orbit_at, grid_cell}
use Rattle.orbit.specs.Cell.{Cell}
use Rattle.ends.specs.Ends.{end_at}
use Rattle.ends.specs.Exact.{Sum, difference, sine_of, spare, Meets, Spare, sum_of}
use Rattle.ends.proofs.BothEnds.{between}
use Rattle.ends.proofs.InNaturals.{Past}
use Rattle.ends.proofs.Corners.{below_corners, above_corners}
use Rattle.ends.proofs.Exact.{below_true, above_true, below_spare, with_S9, over_spare}

-- ---- the two sides of an inequality by naturals, of an X not below 0

module _ (sum : Sum) (o : Exact) (X : ℕ) where
  abbrev k : ℕ
  k = one * sum.den * o.s

  difference_parts : Is (difference sum o (pos X)) (k * (o.q * X + minus o.p)) (k * (o.q * 0 + plus o.p))
  difference_parts = is_mul k (is_minus (is_mul_right o.q (is_pos X)) (own o.p))

  sine_parts : {f g : ℕ} → Is (sum.at X) f g → Is (sine_of sum o (pos X)) (o.q * o.r * f) (o.q * o.r * g)
  sine_parts i = is_mul (o.q * o.r) i

  spare_parts : Is (spare sum o) (32 * (o.q * o.r) * sum.den) 0
  spare_parts = is_pos (32 * (o.q * o.r) * sum.den)

-- ---- of a cell

-- M on the right side of a corner's
module _ (c : Cell) (o : Exact) (i : InCell c false o) (X : ℕ) where
  m_above : c.m.floor * o.q + minus o.p ≤ plus o.p
  m_above = let h = (le_parts (is_pos (c.m.floor * o.q)) (own o.p)).0 i.m_least in omega arith

  m_below : plus o.p ≤ c.m.ceiling * o.q + minus o.p
  m_below = let h = (le_parts (own o.p) (is_pos (c.m.ceiling * o.q))).0 i.m_most in omega arith

  -- R19: at any depth
  pub cell_true : (upper : Bool) → X ≤ T_units → (d : ℕ) → d ≤ depths → T (end_at upper c d X) → Meets upper (sum_of upper) o (pos X)
  cell_true true w d j t =
      let (low, high) = (above_corners c X (Hi X d)).0 t in
      let h =
      between (one * c.m.ceiling) (one * X) c.a.floor c.a.ceiling den10 (other sine X 10) (same sine X 10) o.r o.s
      (above_true (orbit_at c.m.ceiling c.a.floor) X w d j low) (above_true (orbit_at c.m.ceiling c.a.ceiling) X w d j high)
      i.a_least i.a_most in
      (le_parts (sine_parts (sum_of true) o X (S10_parts X)) (difference_parts (sum_of true) o X)).1
      (omega (arith, mul-le-mul_left o.q h, mul-le-mul_left (one * den10 * o.s) m_below))
  cell_true false w d j t =
      let (low, high) = (below_corners c X (Lo X d)).0 t in
      let h =
      between (one * X) (one * c.m.floor) c.a.floor c.a.ceiling den9 (other sine X 9) (same sine X 9) o.r o.s
      (below_true (orbit_at c.m.floor c.a.floor) X w d j low) (below_true (orbit_at c.m.floor c.a.ceiling) X w d j high)
      i.a_least i.a_most in
      (le_parts (difference_parts (sum_of false) o X) (sine_parts (sum_of false) o X (S9_parts X))).1
      (omega (arith, mul-le-mul_left o.q h, mul-le-mul_left (one * den9 * o.s) m_above))

-- S_9 lies below S_10: the inequality with the other end's sum
pub other_sum : (upper : Bool) (o : Exact) (X : ℕ) → Meets upper (sum_of upper) o (pos X) → Meets upper (sum_of (not upper)) o (pos X)
other_sum true o X h =
    let k = (le_parts (sine_parts (sum_of true) o X (S10_parts X)) (difference_parts (sum_of true) o X)).0 h in
    let l = drop-last sine sine_divides X 9 (o.q * o.r) (one * o.s * (o.q * X + minus o.p)) (one * o.s * plus o.p) (omega arith) in
    (le_parts (sine_parts (sum_of false) o X (S9_parts X)) (difference_parts (sum_of false) o X)).1 (omega arith)
other_sum false o X h =
    let k = (le_parts (difference_parts (sum_of false) o X) (sine_parts (sum_of false) o X (S9_parts X))).0 h in
    let l = add-last sine X 9 (o.q * o.r) (one * o.s * (o.q * X + minus o.p)) (one * o.s * plus o.p) (omega arith) in
    (le_parts (difference_parts (sum_of true) o X) (sine_parts (sum_of true) o X (S10_parts X))).1 (omega arith)

-- ---- on the grid

abbrev pub on_grid : ℕ → ℕ → Exact
on_grid m a = record { p = pos m; q = 1; r = a; s = 1 }

module _ (m a X : ℕ) (w : X ≤ T_units) where
  -- R20, at depth 5, with S_9 for either end
  pub spare_accepts : (upper : Bool) → Past upper 32 (orbit_at m a) X → T (end_at upper (grid_cell m a) depths X)
  spare_accepts true s =
      let t = over_spare (orbit_at m a) X w s in (above_corners (grid_cell m a) X (Hi X depths)).1 (t, t)
  spare_accepts false s =
      let t = below_spare (orbit_at m a) X w s in (below_corners (grid_cell m a) X (Lo X depths)).1 (t, t)

  -- and with its own sum
  pub grid_spare : (upper : Bool) → Spare upper (sum_of upper) (on_grid m a) (pos X) → T (end_at upper (grid_cell m a) depths X)
  grid_spare true s =
      let o = on_grid m a in
      let h =
      (le_parts (is_add (sine_parts (sum_of true) o X (S10_parts X)) (spare_parts (sum_of true) o X)) (difference_parts (sum_of true) o X)).0 s in
      spare_accepts true (with_S9 (orbit_at m a) X 32 (omega arith))
  grid_spare false s =
      let o = on_grid m a in
      let h =
      (le_parts (is_add (difference_parts (sum_of false) o X) (spare_parts (sum_of false) o X)) (sine_parts (sum_of false) o X (S9_parts X))).0 s in
      spare_accepts false (omega arith)
