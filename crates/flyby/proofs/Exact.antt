-- R86: what acceptance says of the exact sum, and that no accepted lower end lies above an accepted upper end. Assumes nothing.
use mathlib.Core.Path.{◌≡◌, ap, subst}
use mathlib.Core.Bool.{Bool, true, false, not}
use mathlib.Core.Logic.{◌↔◌}
use Prim.Native.Nat.{ℕ, ◌+◌, ◌-◌, ◌*◌, ◌≤◌, ◌<◌}
use native.Mathlib.Omega.{arith}
use native.Mathlib.Nat.{mul-le-mul_left, mul-le-mul_right, mul-lt-mul_of_pos_left, le_of_lt, lt_of_not-le}
use native.Mathlib.Decide.{dec_le}
use lib.Dec.{T, leb→le, le→leb, not_T}
use Rattle.grid.specs.Grid.{one}
use Rattle.grid.specs.Flyby.{X_top}
use Rattle.sinh.specs.Sinh.{low, high, S, den_s}
use Rattle.sinh.proofs.Limits.{high_zero, low-zero, low-lt-high, low_steep, high_steep}
use Rattle.sinh.proofs.Exact.{low-true, high-true, rises}
use Rattle.flyby.specs.Ends.{end_at, Meets}

module _ (m b X : ℕ) where
  upper_is : T (end_at true m b X) → one * (X + m) ≤ b * low X
  unfolding end_at
  upper_is t = leb→le (one * (X + m)) (b * low X) t

  lower_is : T (end_at false m b X) → b * high X ≤ one * (X + m)
  unfolding end_at
  lower_is t = leb→le (b * high X) (one * (X + m)) t

  -- R86: for any M and B
  pub end_true : (upper : Bool) → T (end_at upper m b X) → Meets upper m b X
  end_true true t =
      omega (arith, mul-le-mul_right den_s (upper_is t), mul-le-mul_left b (low-true X))
  end_true false t =
      omega (arith, mul-le-mul_right den_s (lower_is t), mul-le-mul_left b (high-true X))

  -- one X is not both, but 0 may be
  pub not_both : 0 < b → 0 < X → T (end_at true m b X) → T (end_at false m b X) → ⊥
  not_both some h t s = omega (arith, upper_is t, lower_is s, mul-lt-mul_of_pos_left (low-lt-high X h) some)

-- e S(x) - x rises with x, as e is at least 1
pub e_rises : (b Y X : ℕ) → one ≤ b → Y < X → one * den_s * X + b * S Y < one * den_s * Y + b * S X
e_rises b Y X e h =
    let r = rises Y X h in
    let k : ℕ = b - one in
    let f : b ≡ one + k = omega arith in
    let x : b * S X ≡ (one + k) * S X = ap (λ (j : ℕ). j * S X) f in
    let y : b * S Y ≡ (one + k) * S Y = ap (λ (j : ℕ). j * S Y) f in
    let more : S Y ≤ S X = omega (arith, mul-le-mul_right den_s (le_of_lt h)) in
    omega (arith, mul-le-mul_left k more)

-- so a lower end's inequality at X and an upper end's at Y have X not above Y
exact_apart : (m b X Y : ℕ) → one ≤ b → Meets false m b X → Meets true m b Y → X ≤ Y
exact_apart m b X Y e p q =
    elim (dec_le X Y) [
      | yes h ↦ h
      | no n ↦ absurd (let z : ⊥ = omega (arith, e_rises b Y X e (lt_of_not-le n)) in z)
    ]

pub apart : (m b X Y : ℕ) → one ≤ b → T (end_at false m b X) → T (end_at true m b Y) → X ≤ Y
apart m b X Y e p q = exact_apart m b X Y e (end_true m b X false p) (end_true m b Y true q)

-- ---- R86: accepted ends are unbroken runs, as e times a bound grows no slower than X

module _ (m b : ℕ) (e : one ≤ b) where
  steep : (s t j : ℕ) → s + j ≤ t → b * s + one * j ≤ b * t
  steep s t j h = omega (arith, mul-le-mul_left b h, mul-le-mul_right j e)

  lower_back : (Y j : ℕ) → T (end_at false m b (Y + j)) → T (end_at false m b Y)
  unfolding end_at
  lower_back Y j t =
      le→leb (b * high Y) (one * (Y + m))
      (omega (arith, lower_is m b (Y + j) t, steep (high Y) (high (Y + j)) j (high_steep Y j)))

  upper_on : (Y j : ℕ) → T (end_at true m b Y) → T (end_at true m b (Y + j))
  unfolding end_at
  upper_on Y j t =
      le→leb (one * (Y + j + m)) (b * low (Y + j))
      (omega (arith, upper_is m b Y t, steep (low Y) (low (Y + j)) j (low_steep Y j)))

  -- below a lower end all are lower ends, and above an upper end all are upper ends
  pub lower_run : (X Y : ℕ) → Y ≤ X → T (end_at false m b X) → T (end_at false m b Y)
  lower_run X Y h t =
      let f : X ≡ Y + (X - Y) = omega arith in
      lower_back Y (X - Y) (subst (λ (n : ℕ). T (end_at false m b n)) f t)

  pub upper_run : (X Y : ℕ) → Y ≤ X → T (end_at true m b Y) → T (end_at true m b X)
  upper_run X Y h t =
      let f : Y + (X - Y) ≡ X = omega arith in
      subst (λ (n : ℕ). T (end_at true m b n)) f (upper_on Y (X - Y) t)

-- ---- the ends of the search

-- 0 is always a lower end, and an upper one where M is 0 and only there
pub zero_lower : (m b : ℕ) → T (end_at false m b 0)
unfolding end_at
zero_lower m b = le→leb (b * high 0) (one * (0 + m)) (rw high_zero (omega arith))

pub zero_upper : (m b : ℕ) → T (end_at true m b 0) ↔ m ≡ 0
unfolding end_at
zero_upper m b = (
  λ t. let h = leb→le (one * (0 + m)) (b * low 0) t in let z = low-zero in omega (arith, rw low-zero at h),
  λ z. le→leb (one * (0 + m)) (b * low 0) (rw low-zero (omega arith)),
)

-- where the top is an upper end it is no lower one
pub top_never : (m b : ℕ) → one ≤ b → T (end_at true m b X_top) → T (not (end_at false m b X_top))
top_never m b e t = not_T (end_at false m b X_top) (not_both m b X_top (omega arith) (omega arith) t)
