-- What R67's two distances say, of ends a ≤ b and of f ≤ c: how they compare, when the least is above 0, and how far apart two
-- fractions are of which one lies from a to b and the other from f to c. Assumes nothing.
use mathlib.Core.Logic.{◌⊎◌, inl, inr}
use Prim.Native.Nat.{ℕ, ◌+◌, ◌-◌, ◌*◌, ◌≤◌, ◌<◌}
use native.Mathlib.Omega.{arith}
use native.Mathlib.Nat.{lt_of_not-le, mul-le-mul_right}
use native.Mathlib.Decide.{dec_le}
use Rattle.units.specs.declared.Units.{Units}
use Rattle.enclosure.specs.declared.Found.{Found}
use Rattle.distance.specs.Distance.{least_off, most_off}

module _ (r : Found) (u : Units) (ends : r.a ≤ r.b) (rounded : u.floor ≤ u.ceiling) where
  pub in_order : least_off r u ≤ most_off r u
  in_order = omega arith

pub beyond : (r : Found) (u : Units) → 0 < least_off r u → (u.ceiling < r.a) ⊎ (r.b < u.floor)
beyond r u some =
    elim (dec_le r.a u.ceiling) [
      | yes h ↦ inr (omega arith)
      | no n ↦ inl (lt_of_not-le n)
    ]

-- of two numbers that differ by no more, or no less, than two multiples of w
diff_most : (X Y m n w : ℕ) → X + n * w ≤ Y + m * w → X - Y ≤ (m - n) * w
diff_most X Y m n w h =
    elim (dec_le m n) [
      | yes k ↦ omega (arith, mul-le-mul_right w k)
      | no k ↦ let j = lt_of_not-le k in let e : m ≤ n + (m - n) = omega arith in omega (arith, mul-le-mul_right w e)
    ]

diff_least : (X Y m n w : ℕ) → Y + m * w ≤ X + n * w → (m - n) * w ≤ X - Y
diff_least X Y m n w h =
    elim (dec_le m n) [
      | yes k ↦ let e : m - n ≤ 0 = omega arith in omega (arith, mul-le-mul_right w e)
      | no k ↦ let j = lt_of_not-le k in let e : n + (m - n) ≤ m = omega arith in omega (arith, mul-le-mul_right w e)
    ]

-- X - Y is how far the one fraction lies above the other, both multiplied out by w
module _ (r : Found) (u : Units) (w X Y : ℕ) (most : X + u.floor * w ≤ Y + r.b * w) (least : Y + r.a * w ≤ X + u.ceiling * w) where
  pub at_least : least_off r u * w ≤ (X - Y) + (Y - X)
  at_least =
      let below = diff_least X Y r.a u.ceiling w least in
      let above = diff_least Y X u.floor r.b w most in
      elim (dec_le (r.a - u.ceiling) (u.floor - r.b)) [
        | yes h ↦ let e : least_off r u ≤ u.floor - r.b = omega arith in omega (arith, mul-le-mul_right w e)
        | no h ↦
            let k = lt_of_not-le h in let e : least_off r u ≤ r.a - u.ceiling = omega arith in omega (arith, mul-le-mul_right w e)
      ]

  pub at_most : (X - Y) + (Y - X) ≤ most_off r u * w
  at_most =
      let above = diff_most X Y r.b u.floor w most in
      let below = diff_most Y X u.ceiling r.a w least in
      let d : r.b - u.floor ≤ most_off r u = omega arith in
      let e : u.ceiling - r.a ≤ most_off r u = omega arith in
      omega (arith, mul-le-mul_right w d, mul-le-mul_right w e)
