-- The best bounds never get worse as the depth grows: Lo never falls, Hi never rises. Assumes nothing.
use Prim.Native.Nat.{ℕ, zero, suc, ◌≤◌}
use native.Mathlib.Omega.{arith}
use native.Mathlib.Decide.{le_ind}
use lib.Signed.{◌≤ℤ◌, ≤ℤ_refl}
use Rattle.whole.proofs.Order.{≤ℤ_trans, le-greater_left, le-greater_right, lesser-le_left, lesser-le_right}
use Rattle.series.specs.Terms.{Series}
use Rattle.series.specs.Bounds.{raw_low, raw_high, greatest_low, least_high}
use Rattle.series.specs.Sine.{sine, Lo, Hi}

module _ (s : Series) (X : ℕ) where
  pub greatest_rises : (d e : ℕ) → d ≤ e → greatest_low s X d ≤ℤ greatest_low s X e
  unfolding greatest_low
  greatest_rises d e h =
      le_ind (λ (e : ℕ). greatest_low s X d ≤ℤ greatest_low s X e) (≤ℤ_refl (greatest_low s X d))
      (λ e k i. ≤ℤ_trans i (le-greater_left (greatest_low s X e) (raw_low s X (suc e)))) e h

  pub least_falls : (d e : ℕ) → d ≤ e → least_high s X e ≤ℤ least_high s X d
  unfolding least_high
  least_falls d e h =
      le_ind (λ (e : ℕ). least_high s X e ≤ℤ least_high s X d) (≤ℤ_refl (least_high s X d))
      (λ e k i. ≤ℤ_trans (lesser-le_left (least_high s X e) (raw_high s X (suc e))) i) e h

  -- the best is no worse than its own depth's raw bound
  pub raw_le_greatest : (d : ℕ) → 1 ≤ d → raw_low s X d ≤ℤ greatest_low s X d
  unfolding greatest_low
  raw_le_greatest zero h = absurd (let k : ⊥ = omega arith in k)
  raw_le_greatest (suc d) h = le-greater_right (greatest_low s X d) (raw_low s X (suc d))

  pub least_le_raw : (d : ℕ) → 1 ≤ d → least_high s X d ≤ℤ raw_high s X d
  unfolding least_high
  least_le_raw zero h = absurd (let k : ⊥ = omega arith in k)
  least_le_raw (suc d) h = lesser-le_right (least_high s X d) (raw_high s X (suc d))

pub Lo_rises : (X d e : ℕ) → d ≤ e → Lo X d ≤ℤ Lo X e
Lo_rises X = greatest_rises sine X

pub Hi_falls : (X d e : ℕ) → d ≤ e → Hi X e ≤ℤ Hi X d
Hi_falls X = least_falls sine X
