-- Whole numbers of units as the code holds them: a double has digits enough for each, and what is biased is read back.
-- Assumes nothing.
use mathlib.Core.Path.{◌≡◌, refl, ap, ◌∙◌}
use mathlib.Core.Bool.{Bool, true, false, cond}
use Prim.Native.Nat.{ℕ, suc, ◌-◌, ◌*◌, ◌^◌, ◌≤◌}
use native.Mathlib.Omega.{arith}
use lib.Dec.{T, ltb, le→leb, lt→ltb, lit≤}
use lib.IntN.{ℤ, pos, negsuc, sub_ℕ}
use lib.Ieee.{Float, binary64, in_float}
use Rattle.std.specs.Prelude.{Result, Ok, Err, is_err}
use Rattle.grid.specs.Grid.{T_units, depths}
use Rattle.whole.proofs.Parts.{by_test}
use Rattle.series.specs.Terms.{Series}
use Rattle.series.specs.Bounds.{greatest_low}
use Rattle.series.specs.Walk.{bias, biased, InRange}
use Rattle.series.proofs.CodeBias.{biased_small, unbiased_is}
use Rattle.series.proofs.CodeRange.{InBounds, greatest_in}
use Rattle.units.specs.Units.{floor_and_ceiling, off_range, coded_units}
use Rattle.units.specs.declared.Units.{Units}
use Rattle.step.specs.Step.{in_radians}

-- a double has digits enough up to 2^53
pub few : (n : ℕ) → n ≤ 4294967296 → T (in_float binary64 (pos n))
unfolding in_float
few n h = le→leb n (2 ^ 53) (omega arith)

-- and so it has for what is biased
pub few_biased : (n : ℕ) → n ≤ 2 * bias → T (in_float binary64 (sub_ℕ n bias))
unfolding in_float
few_biased n h =
    by_test (λ (z : ℤ). T (in_float binary64 z)) (ltb n bias) (negsuc (bias - suc n)) (pos (n - bias))
    (λ t. lt→ltb (bias - suc n) (2 ^ 53) (omega arith))
    (λ t. le→leb (n - bias) (2 ^ 53) (omega arith))

is_refused : {R : Type 0} (t : Bool) (k : R) (u : Units) → is_err {E = R} (cond t (Err k) (Ok u)) ≡ t
is_refused true k u = refl
is_refused false k u = refl

-- a new estimate has no units just where it is off range
pub off_is : {R : Type 0} (k : R) (y : Float) {r : Result Units R} → r ≡ coded_units y T_units k → is_err r ≡ off_range T_units y
off_is k y e = ap is_err e ∙ is_refused (off_range T_units y) k (floor_and_ceiling y)

-- the lower bound of a series at depth 5, at an angle within its limit
module _ (s : Series) (range : (X : ℕ) → X ≤ T_units → InRange s X) (X : ℕ) (h : X ≤ T_units) where
  low_in : InBounds (greatest_low s X depths)
  low_in = greatest_in s X (range X h) depths (lit≤ tt)

  -- it is small as it is biased, and read back as it was
  pub low_small : biased (greatest_low s X depths) ≤ 2 * bias
  low_small = biased_small (greatest_low s X depths) low_in

  pub low_back : in_radians (sub_ℕ (biased (greatest_low s X depths)) bias) ≡ in_radians (greatest_low s X depths)
  low_back = ap in_radians (unbiased_is (greatest_low s X depths) low_in)
