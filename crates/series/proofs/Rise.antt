-- x - S_n(x) rises with x at odd n, while 2 x^2 stays below what each later term is divided by: from even n to n + 2 a pair
-- x^n (x^2 K - x^4) is added that does not fall, and the last term of an odd sum makes the rise strict. Assumes nothing.
use mathlib.Core.Path.{◌≡◌}
use Prim.Native.Nat.{ℕ, zero, suc, ◌+◌, ◌-◌, ◌*◌, ◌≤◌, ◌<◌}
use native.Mathlib.Omega.{arith}
use native.Mathlib.Nat.{mul-le-mul, mul-le-mul_left, mul-le-mul_right, mul-lt-mul_of_pos_right, mul-pos}
use Rattle.grid.specs.Grid.{T_units}
use Rattle.series.specs.Terms.{Series}
use Rattle.series.specs.Exact.{num, ratio, den}
use Rattle.series.specs.Sine.{sine}
use Rattle.series.proofs.Sums.{same, other}

-- the differences, named, make both sides sums of products
heart_by : (Q P b a K p f c : ℕ) → P ≡ Q + p → a ≡ b + f → K ≡ a + a + c → Q * b * K + P * a * a ≤ P * a * K + Q * b * b
heart_by Q P b a K p f c e g k = rw (k, g, e) (omega arith)

-- P a (K - a) does not fall in P, nor in a up to K / 2
heart : (Q P b a K : ℕ) → Q ≤ P → b ≤ a → a + a ≤ K → Q * b * K + P * a * a ≤ P * a * K + Q * b * b
heart Q P b a K h i j = heart_by Q P b a K (P - Q) (a - b) (K - (a + a)) (omega arith) (omega arith) (omega arith)

abbrev double : ℕ → ℕ
double zero = zero
double (suc k) = suc (suc (double k))

-- x - S_n(x) at Y and at X, multiplied out by den n: at even n S_n is same - other, at odd n other - same
abbrev pub Level : Series → ℕ → ℕ → ℕ → Type 0
Level s Y X n = Y * den s n + other s Y n + same s X n ≤ X * den s n + other s X n + same s Y n

abbrev pub Rises : Series → ℕ → ℕ → ℕ → Type 0
Rises s Y X n = Y * den s n + same s Y n + other s X n < X * den s n + same s X n + other s Y n

module _ (s : Series) (Y X : ℕ) (above : Y < X) (more : s.term0 Y < s.term0 X) where
  squares : Y * Y ≤ X * X
  squares = mul-le-mul (omega arith) (omega arith)

  some : 0 < X * X
  some = mul-pos (omega arith) (omega arith)

  -- every term rises with x
  pub term_rises : (k : ℕ) → num s Y k < num s X k
  unfolding num
  term_rises zero = more
  term_rises (suc k) =
      omega (arith, mul-le-mul_left (num s Y k) squares, mul-lt-mul_of_pos_right (term_rises k) some)

  module _ (start : Y + s.term0 X ≤ X + s.term0 Y) (slow : (n : ℕ) → X * X + X * X ≤ ratio s (suc (suc n))) where
    two_on : (n : ℕ) → Level s Y X n → Level s Y X (suc (suc n))
    unfolding num den same
    two_on n h =
        let r = term_rises n in
        let p = heart (num s Y n) (num s X n) (Y * Y) (X * X) (ratio s (suc (suc n))) (omega arith) squares (slow n) in
        omega (arith, mul-le-mul_right (ratio s (suc n) * ratio s (suc (suc n))) h)

    pub level : (k : ℕ) → Level s Y X (double k)
    unfolding num den same
    level zero = omega arith
    level (suc k) = two_on (double k) (level k)

    one_on : (n : ℕ) → Level s Y X n → Rises s Y X (suc n)
    unfolding den same
    one_on n h = omega (arith, term_rises (suc n), mul-le-mul_right (ratio s (suc n)) h)

    pub rises : (k : ℕ) → Rises s Y X (suc (double k))
    rises k = one_on (double k) (level k)

-- x^2 <= 10 up to T, and the second term on is divided by 20 and more
slow_sine : (X : ℕ) → X ≤ T_units → (n : ℕ) → X * X + X * X ≤ ratio sine (suc (suc n))
unfolding ratio
slow_sine X t n = omega (arith, mul-le-mul t t)

-- sine's S_9: den9 (Y - S_9(Y)) < den9 (X - S_9(X))
pub sine_rises : (Y X : ℕ) → Y < X → X ≤ T_units → Rises sine Y X 9
sine_rises Y X h t = rises sine Y X h h (omega arith) (slow_sine X t) 4
