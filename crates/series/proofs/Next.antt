-- From an odd sum to the even one above it, over naturals: what bounds S_(n+1) from above bounds S_n, and what bounds S_n
-- from below bounds S_(n+1), as the last term is not below zero and den grows by the ratio. Assumes nothing.
use Prim.Native.Nat.{ℕ, suc, ◌+◌, ◌*◌, ◌≤◌}
use native.Mathlib.Omega.{arith}
use native.Mathlib.Nat.{mul-le-mul_right, le_of_mul-le-mul_right}
use Rattle.whole.proofs.Parts.{Is}
use Rattle.series.specs.Terms.{Series}
use Rattle.series.specs.Exact.{ratio, den}
use Rattle.series.specs.Sine.{sine, S9, S10}
use Rattle.series.proofs.TermLimits.{Divides}
use Rattle.series.proofs.TermsTrue.{ratio_pos}
use Rattle.series.proofs.Sums.{same, other, S_parts}

-- a S_(n+1) <= p - q gives a S_n <= p - q, for the odd n
pub drop-last : (s : Series) → Divides s → (X n a p q : ℕ)
    → a * same s X (suc n) + q * den s (suc n) ≤ p * den s (suc n) + a * other s X (suc n)
    → a * other s X n + q * den s n ≤ p * den s n + a * same s X n
unfolding den same
drop-last s div X n a p q h = le_of_mul-le-mul_right {k = ratio s (suc n)} (omega arith) (ratio_pos s div n)

-- p - q <= a S_n gives p - q <= a S_(n+1), for the odd n
pub add-last : (s : Series) (X n a p q : ℕ) → p * den s n + a * same s X n ≤ a * other s X n + q * den s n
    → p * den s (suc n) + a * other s X (suc n) ≤ a * same s X (suc n) + q * den s (suc n)
unfolding den same
add-last s X n a p q h = omega (arith, mul-le-mul_right (ratio s (suc n)) h)

pub S9_parts : (X : ℕ) → Is (S9 X) (other sine X 9) (same sine X 9)
S9_parts X = S_parts sine X 9

pub S10_parts : (X : ℕ) → Is (S10 X) (same sine X 10) (other sine X 10)
S10_parts X = S_parts sine X 10
