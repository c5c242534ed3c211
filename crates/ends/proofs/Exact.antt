-- R19 and R20 of one M and one A: what acceptance says, and what refusal says at depth 5. Assumes nothing.
use Prim.Native.Nat.{ℕ, ◌+◌, ◌*◌, ◌≤◌}
use native.Mathlib.Omega.{arith}
use native.Mathlib.Nat.{mul-le-mul_right}
use lib.Dec.{T}
use Rattle.whole.proofs.Parts.{plus, minus, own, is_pos, is_add, is_mul_right}
use Rattle.whole.proofs.Order.{le_parts}
use Rattle.grid.specs.Grid.{one, T_units, depths}
use Rattle.series.specs.Sine.{sine, Lo, Hi, den9, den10}
use Rattle.series.proofs.Sums.{same, other}
use Rattle.series.proofs.OfSine.{sine_divides}
use Rattle.series.proofs.TermsTrue.{den_pos}
use Rattle.series.proofs.BoundsTrue.{Lo-true, Hi-true}
use Rattle.series.proofs.Width.{width_5}
use Rattle.series.proofs.Next.{drop-last, S9_parts, S10_parts}
use Rattle.orbit.specs.Cell.{Orbit}
use Rattle.ends.specs.Ends.{below_at, above_at}
use Rattle.ends.proofs.BothEnds.{accept, refuse}
use Rattle.ends.proofs.InNaturals.{BelowBy, AboveBy, OverBy, below_test, above_test}

-- ---- the sine bounds by naturals

module _ (X : ℕ) (within : X ≤ T_units) where
  low_truth : (d : ℕ) → d ≤ depths
      → plus (Lo X d) * den9 + same sine X 9 ≤ other sine X 9 + minus (Lo X d) * den9
  low_truth d j =
      let h = (le_parts (is_mul_right den9 (own (Lo X d))) (S9_parts X)).0 (Lo-true X d within j) in omega arith

  high_truth : (d : ℕ) → d ≤ depths
      → same sine X 10 + minus (Hi X d) * den10 ≤ plus (Hi X d) * den10 + other sine X 10
  high_truth d j =
      let h = (le_parts (S10_parts X) (is_mul_right den10 (own (Hi X d)))).0 (Hi-true X d within j) in omega arith

  narrow : plus (Hi X depths) + minus (Lo X depths) ≤ plus (Lo X depths) + 32 + minus (Hi X depths)
  narrow =
      let h = (le_parts (own (Hi X depths)) (is_add (own (Lo X depths)) (is_pos 32))).0 (width_5 X within) in omega arith

  -- S_9 lies at most 32 above Lo: it is below S_10, so below Hi
  low_near : other sine X 9 + minus (Lo X depths) * den9 ≤ same sine X 9 + plus (Lo X depths) * den9 + 32 * den9
  low_near =
      let t = high_truth depths (omega arith) in
      let h = drop-last sine sine_divides X 9 1 (plus (Hi X depths)) (minus (Hi X depths)) (omega arith) in
      omega (arith, mul-le-mul_right den9 narrow)

  -- and at most 32 below Hi: it is above Lo
  high_near : same sine X 9 + plus (Hi X depths) * den9 ≤ other sine X 9 + minus (Hi X depths) * den9 + 32 * den9
  high_near = let t = low_truth depths (omega arith) in omega (arith, mul-le-mul_right den9 narrow)

-- ---- of one M and one A

-- S_9 lies below S_10: an upper end's inequality holds with it too
pub with_S9 : (o : Orbit) (X w : ℕ) → AboveBy w o X → OverBy w o X
with_S9 o X w h =
    let k = drop-last sine sine_divides X 9 o.a (one * X) (one * o.m + w * o.a) (omega arith) in omega arith

module _ (o : Orbit) (X : ℕ) (within : X ≤ T_units) where
  -- R19: of a lower end, at any depth
  pub below_true : (d : ℕ) → d ≤ depths → T (below_at o X (Lo X d)) → BelowBy 0 o X
  below_true d j t =
      accept (one * X) (one * o.m) o.a den9 (other sine X 9) (same sine X 9) (plus (Lo X d)) (minus (Lo X d))
      (low_truth X within d j) ((below_test o X (Lo X d)).0 t)

  -- R19: of an upper end, at any depth
  pub above_true : (d : ℕ) → d ≤ depths → T (above_at o X (Hi X d)) → AboveBy 0 o X
  above_true d j t =
      let h = high_truth X within d j in
      accept (one * o.m) (one * X) o.a den10 (other sine X 10) (same sine X 10) (minus (Hi X d)) (plus (Hi X d))
      (omega arith) ((above_test o X (Hi X d)).0 t)

  -- R20: where 32 e units are to spare depth 5 accepts
  pub below_spare : BelowBy 32 o X → T (below_at o X (Lo X depths))
  below_spare s =
      (below_test o X (Lo X depths)).1
      (refuse (one * X) (one * o.m) o.a 32 den9 (other sine X 9) (same sine X 9) (plus (Lo X depths)) (minus (Lo X depths))
      (den_pos sine sine_divides 9) (low_near X within) s)

  pub over_spare : OverBy 32 o X → T (above_at o X (Hi X depths))
  over_spare s =
      (above_test o X (Hi X depths)).1
      (refuse (one * o.m) (one * X) o.a 32 den9 (same sine X 9) (other sine X 9) (minus (Hi X depths)) (plus (Hi X depths))
      (den_pos sine sine_divides 9) (let h = high_near X within in omega arith) s)
