-- R15: the width at depth 5. Each u_k is within 3 of its l_k, and the last term is at most 1. Assumes nothing.
use Prim.Native.Nat.{ℕ, zero, suc, ◌+◌, ◌*◌, ◌≤◌, ◌<◌}
use native.Mathlib.Omega.{arith}
use native.Mathlib.Nat.{mul-le-mul_left, mul-le-mul_right, lt_of_mul-lt-mul_right}
use lib.Dec.{lit<}
use lib.IntN.{pos, ◌+ℤ◌}
use lib.Signed.{◌≤ℤ◌}
use Rattle.grid.specs.Grid.{one, T_units}
use Rattle.whole.proofs.Parts.{own, is_sub, is_pos, is_add}
use Rattle.whole.proofs.Order.{le_parts, ≤ℤ_trans}
use Rattle.whole.proofs.Round.{lt-down, up_lt, up_le}
use Rattle.series.specs.Terms.{Series, Q-, Q+, l, u}
use Rattle.series.specs.Bounds.{evens, odds, raw_low, raw_high, greatest_low, least_high}
use Rattle.series.specs.Sine.{sine, Lo, Hi}
use Rattle.series.proofs.TermLimits.{Divides, unit_pos, Q_within}
use Rattle.series.proofs.OfSine.{sine_divides, from_20, l_within, u10_within}
use Rattle.series.proofs.Deeper.{raw_le_greatest, least_le_raw}

pub Q_gap : (X : ℕ) → Q+ X ≤ Q- X + 1
Q_gap X = up_le (Q- X + 1) (X * X) one (lit< tt) (omega (arith, lt-down (X * X) one (lit< tt)))

-- two terms made alike from terms that lie g apart, p from b and q from a, with squares that lie 1 apart
step : (a b c d g w p q : ℕ) →
    a * c < p * w + w → q * w < b * d + w → b ≤ a + g → d ≤ c + 1 → a + g * d ≤ 2 * w → q ≤ p + 3
step a b c d g w p q low high near square room =
    let f : q * w < (p + 4) * w = omega (arith, mul-le-mul_right d near, mul-le-mul_left a square) in
    omega (arith, lt_of_mul-lt-mul_right w f)

module _ (s : Series) (div : Divides s) (X : ℕ) where
  -- from term k, g apart, to the next
  pub gap_step : (g k : ℕ) → u s X k ≤ l s X k + g → l s X k + g * Q+ X ≤ 2 * (one * s.divisor (suc k)) →
      u s X (suc k) ≤ l s X (suc k) + 3
  unfolding l u
  gap_step g k near room =
      step (l s X k) (u s X k) (Q- X) (Q+ X) g (one * s.divisor (suc k)) (l s X (suc k)) (u s X (suc k))
      (lt-down (l s X k * Q- X) (one * s.divisor (suc k)) (unit_pos s div k))
      (up_lt (u s X k * Q+ X) (one * s.divisor (suc k)) (unit_pos s div k)) near (Q_gap X) room

  pub gap : s.term0 X ≤ 2 * (one * s.divisor 1) →
      ((k : ℕ) → l s X (suc k) + 3 * Q+ X ≤ 2 * (one * s.divisor (suc (suc k)))) →
      (k : ℕ) → u s X k ≤ l s X k + 3
  unfolding l u
  gap start room zero = omega arith
  gap start room (suc zero) = gap_step 0 0 (omega arith) (omega arith)
  gap start room (suc (suc k)) = gap_step 3 (suc k) (gap start room (suc k)) (room k)

-- terms k that lie g k apart have sums that lie the sum of these apart
evens-gap : (f h g : ℕ → ℕ) → ((k : ℕ) → f k ≤ h k + g k) → (n : ℕ) → evens f n ≤ evens h n + evens g n
unfolding evens
evens-gap f h g near zero = omega arith
evens-gap f h g near (suc n) = omega (arith, evens-gap f h g near n, near (2 * n))

odds-gap : (f h g : ℕ → ℕ) → ((k : ℕ) → f k ≤ h k + g k) → (n : ℕ) → odds f n ≤ odds h n + odds g n
unfolding odds
odds-gap f h g near zero = omega arith
odds-gap f h g near (suc n) = omega (arith, odds-gap f h g near n, near (suc (2 * n)))

-- the width at any depth: the gaps of its pairs of terms and the last term
pub width : (s : Series) (X : ℕ) (g : ℕ → ℕ) (d : ℕ) → ((k : ℕ) → u s X k ≤ l s X k + g k) →
    least_high s X (suc d) ≤ℤ (greatest_low s X (suc d) +ℤ pos (evens g (suc d) + odds g (suc d) + u s X (2 * suc d)))
unfolding raw_low raw_high evens
width s X g d near =
    let best = own (greatest_low s X (suc d)) in
    let least = own (least_high s X (suc d)) in
    let low = (le_parts (is_sub (evens (l s X) (suc d)) (odds (u s X) (suc d))) best).0 (raw_le_greatest s X (suc d) (omega arith)) in
    let high = (le_parts least (is_sub (evens (u s X) (suc (suc d))) (odds (l s X) (suc d)))).0 (least_le_raw s X (suc d) (omega arith)) in
    (le_parts least (is_add best (is_pos (evens g (suc d) + odds g (suc d) + u s X (2 * suc d))))).1
    (omega (arith, evens-gap (u s X) (l s X) g near (suc d), odds-gap (u s X) (l s X) g near (suc d)))

-- the width at depth 5, by what the gaps sum to there and a limit for the last term
pub within_5 : (s : Series) (X w : ℕ) (g : ℕ → ℕ) → ((k : ℕ) → u s X k ≤ l s X k + g k) → evens g 5 + odds g 5 + u s X 10 ≤ w →
    least_high s X 5 ≤ℤ (greatest_low s X 5 +ℤ pos w)
within_5 s X w g near few =
    let lo = own (greatest_low s X 5) in
    ≤ℤ_trans (width s X g 4 near) ((le_parts (is_add lo (is_pos (evens g 5 + odds g 5 + u s X 10))) (is_add lo (is_pos w))).1 (omega arith))

-- ---- sine, for the angles tested

pub sine-gap : (X : ℕ) → X ≤ T_units → (k : ℕ) → u sine X k ≤ l sine X k + 3
sine-gap X h =
    gap sine sine_divides X (omega arith)
    (λ k. omega (arith, Q_within X h, l_within X h (suc k), mul-le-mul_left one (from_20 k)))

pub width_5 : (X : ℕ) → X ≤ T_units → Hi X 5 ≤ℤ (Lo X 5 +ℤ pos 32)
unfolding evens odds
width_5 X h = within_5 sine X 32 (λ k. 3) (sine-gap X h) (omega (arith, u10_within X h))
