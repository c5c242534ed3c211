-- How far from zero the bounds of a series can lie, on either side, by a limit for its terms. Assumes nothing.
use Prim.Native.Nat.{ℕ, zero, suc, ◌-◌, ◌*◌, ◌≤◌, ◌<◌}
use native.Mathlib.Omega.{arith}
use native.Mathlib.Nat.{mul-le-mul_right}
use lib.Dec.{ltb, ltb→lt}
use lib.IntN.{ℤ, pos, negsuc, sub_ℕ}
use Rattle.whole.proofs.Parts.{plus, minus, by_test}
use Rattle.whole.proofs.Order.{of_greater, of_lesser}
use Rattle.series.specs.Terms.{Series, l, u}
use Rattle.series.specs.Bounds.{evens, odds, raw_low, raw_high, greatest_low, least_high}
use Rattle.series.proofs.TermLimits.{evens_limit, odds_limit}

-- z is at most n, and at least -n
pub record Bounded (n : ℕ) (z : ℤ) : Type 0 where
  pub high : plus z ≤ n
  pub low : minus z ≤ n

sub_within : (a b n : ℕ) → a ≤ n → b ≤ n → Bounded n (sub_ℕ a b)
sub_within a b n h k =
    by_test (λ (z : ℤ). Bounded n z) (ltb a b) (negsuc (b - suc a)) (pos (a - b))
    (λ t. let f = ltb→lt a b t in omega arith) (λ t. omega arith)

module _ (s : Series) (X B : ℕ) (low : (k : ℕ) → l s X k ≤ B) (high : (k : ℕ) → u s X k ≤ B) where
  pub raw_low_within : (d n : ℕ) → d ≤ n → Bounded (n * B) (raw_low s X d)
  unfolding raw_low
  raw_low_within d n h =
      let k = mul-le-mul_right B h in
      sub_within (evens (l s X) d) (odds (u s X) d) (n * B) (omega (arith, evens_limit (l s X) B low d))
      (omega (arith, odds_limit (u s X) B high d))

  pub raw_high_within : (d n : ℕ) → d < n → Bounded (n * B) (raw_high s X d)
  unfolding raw_high
  raw_high_within d n h =
      let k = mul-le-mul_right B h in
      sub_within (evens (u s X) (suc d)) (odds (l s X) d) (n * B) (omega (arith, evens_limit (u s X) B high (suc d)))
      (omega (arith, odds_limit (l s X) B low d))

  pub greatest_within : (d n : ℕ) → d ≤ n → 1 ≤ n → Bounded (n * B) (greatest_low s X d)
  unfolding greatest_low
  greatest_within zero n h k = raw_low_within 1 n k
  greatest_within (suc d) n h k =
      of_greater (Bounded (n * B)) (greatest_low s X d) (raw_low s X (suc d)) (greatest_within d n (omega arith) k)
      (raw_low_within (suc d) n h)

  pub least_within : (d n : ℕ) → d < n → 1 < n → Bounded (n * B) (least_high s X d)
  unfolding least_high
  least_within zero n h k = raw_high_within 1 n k
  least_within (suc d) n h k =
      of_lesser (Bounded (n * B)) (least_high s X d) (raw_high s X (suc d)) (least_within d n (omega arith) k)
      (raw_high_within (suc d) n h)
