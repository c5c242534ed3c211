-- R14: the bounds are true. For any series the best raw bounds are true of every exact sum long enough. Assumes nothing.
use mathlib.Core.Path.{◌≡◌}
use Prim.Native.Nat.{ℕ, zero, suc, ◌-◌, ◌*◌, ◌≤◌}
use native.Mathlib.Omega.{arith}
use lib.IntN.{ℤ, pos, ◌*ℤ◌}
use lib.Signed.{◌≤ℤ◌}
use Rattle.grid.specs.Grid.{T_units, depths}
use Rattle.whole.proofs.Order.{of_greater, of_lesser}
use Rattle.series.specs.Terms.{Series}
use Rattle.series.specs.Bounds.{raw_low, raw_high, greatest_low, least_high}
use Rattle.series.specs.Exact.{den, S}
use Rattle.series.specs.Sine.{sine, Lo, Hi, S9, S10, den9, den10}
use Rattle.series.proofs.TermLimits.{Divides}
use Rattle.series.proofs.OfSine.{sine_divides}
use Rattle.series.proofs.Falling.{TermsFall, T_fall}
use Rattle.series.proofs.RawTrue.{low-true, high-true}

module _ (s : Series) (div : Divides s) (X : ℕ) (fall : TermsFall s X) where
  -- S_(2j+1) is not below the best low of the depths to j + 1
  pub greatest_true : (d j m : ℕ) → m ≡ suc (2 * j) → d ≤ suc j → (greatest_low s X d *ℤ pos (den s m)) ≤ℤ S s X m
  unfolding greatest_low
  greatest_true zero j m e h = low-true s div X fall zero j m (omega arith)
  greatest_true (suc d) j m e h =
      of_greater (λ (z : ℤ). (z *ℤ pos (den s m)) ≤ℤ S s X m) (greatest_low s X d) (raw_low s X (suc d))
      (greatest_true d j m e (omega arith)) (low-true s div X fall d (j - d) m (omega arith))

  -- S_2(j+1) is not above the best high of the depths to j + 1
  pub least_true : (d j m : ℕ) → m ≡ 2 * suc j → d ≤ suc j → S s X m ≤ℤ (least_high s X d *ℤ pos (den s m))
  unfolding least_high
  least_true zero j m e h = high-true s div X fall 1 j m (omega arith)
  least_true (suc d) j m e h =
      of_lesser (λ (z : ℤ). S s X m ≤ℤ (z *ℤ pos (den s m))) (least_high s X d) (raw_high s X (suc d))
      (least_true d j m e (omega arith)) (high-true s div X fall (suc d) (j - d) m (omega arith))

pub Lo-true : (X d : ℕ) → X ≤ T_units → d ≤ depths → (Lo X d *ℤ pos den9) ≤ℤ S9 X
Lo-true X d x h = greatest_true sine sine_divides X (T_fall X x) d 4 9 (omega arith) h

pub Hi-true : (X d : ℕ) → X ≤ T_units → d ≤ depths → S10 X ≤ℤ (Hi X d *ℤ pos den10)
Hi-true X d x h = least_true sine sine_divides X (T_fall X x) d 4 10 (omega arith) h
