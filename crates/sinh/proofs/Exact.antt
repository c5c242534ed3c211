-- R83: low and high are true of the exact sum, by the truth of sine's terms; and S(x) - x rises with x. Assumes nothing.
use mathlib.Core.Path.{◌≡◌, subst}
use Prim.Native.Nat.{ℕ, zero, suc, ◌+◌, ◌*◌, ◌≤◌, ◌<◌}
use native.Mathlib.Omega.{arith}
use native.Mathlib.Nat.{mul-le-mul_right}
use Rattle.series.specs.Terms.{Series, l, u}
use Rattle.series.specs.Exact.{num, ratio, den}
use Rattle.series.specs.Sine.{sine}
use Rattle.series.proofs.Sums.{same, other}
use Rattle.series.proofs.TermsTrue.{Order, Least, upward, downward, l-true, u-true}
use Rattle.series.proofs.RawTrue.{sames, others, sums_true}
use Rattle.series.proofs.OfSine.{sine_divides}
use Rattle.series.proofs.Rise.{term_rises}
use Rattle.sinh.specs.Sinh.{last, total, low, high, plain_sum, S, t9, den_s}

-- a sum of all is that of every other one and that of the rest
total_parts : (f : ℕ → ℕ) (n : ℕ) → total f n ≡ sames f n + others f n
unfolding total sames
total_parts f zero = omega arith
total_parts f (suc n) = let i = total_parts f n in omega arith

plain_parts : (s : Series) (X n : ℕ) → plain_sum s X n ≡ same s X n + other s X n
unfolding plain_sum same
plain_parts s X zero = omega arith
plain_parts s X (suc n) = rw (plain_parts s X n) (omega arith)

-- so sums of true terms are true
module _ (R : ℕ → ℕ → Type 0) (o : Order R) (s : Series) (X : ℕ) (f : ℕ → ℕ)
    (true-terms : (k : ℕ) → R (f k * den s k) (num s X k)) where
  total-true : (n : ℕ) → R (total f n * den s n) (plain_sum s X n)
  total-true n =
      let t = sums_true R o s X f true-terms n in
      let e : sames f n * den s n + others f n * den s n ≡ (sames f n + others f n) * den s n = omega arith in
      rw (total_parts f n, plain_parts s X n)
      (subst (λ (k : ℕ). R k (same s X n + other s X n)) e (o.plus t.0 t.1))

pub low-true : (X : ℕ) → low X * den_s ≤ S X
unfolding low
low-true X = total-true ◌≤◌ upward sine X (l sine X) (l-true sine X) last

pub high-true : (X : ℕ) → S X + t9 X ≤ high X * den_s
unfolding high
high-true X =
    omega (
      arith,
      total-true Least downward sine X (u sine X) (u-true sine sine_divides X) last,
      u-true sine sine_divides X last,
    )

-- ---- S(x) - x rises with x: it has none of x itself, and each further term rises

module _ (Y X : ℕ) (above : Y < X) where
  level : (n : ℕ) → X * den sine n + plain_sum sine Y n ≤ Y * den sine n + plain_sum sine X n
  unfolding plain_sum den num
  level zero = omega arith
  level (suc n) = omega (arith, term_rises sine Y X above above (suc n), mul-le-mul_right (ratio sine (suc n)) (level n))

  next : (n : ℕ) → X * den sine (suc n) + plain_sum sine Y (suc n) < Y * den sine (suc n) + plain_sum sine X (suc n)
  unfolding plain_sum den
  next n = omega (arith, term_rises sine Y X above above (suc n), mul-le-mul_right (ratio sine (suc n)) (level n))

  pub rises : X * den_s + S Y < Y * den_s + S X
  rises = next 8
