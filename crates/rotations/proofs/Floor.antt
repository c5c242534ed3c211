-- R36: the shift of the rotations rounds down. Assumes nothing.
use mathlib.Core.Path.{◌≡◌, refl}
use Prim.Native.Nat.{ℕ, ◌^◌, ◌/◌}
use native.Mathlib.Omega.{arith}
use native.Mathlib.Nat.{mul-div-le, lt-mul-div-succ}
use lib.IntN.{ℤ, pos, negsuc, ◌+ℤ◌, ◌*ℤ◌}
use lib.Pow.{pow_pos}
use lib.Signed.{◌≤ℤ◌}
use Rattle.whole.proofs.Parts.{own, is_pos, is_add, is_mul}
use Rattle.whole.proofs.Order.{le_parts}
use Rattle.rotations.specs.Rotate.{shifted}

-- 2^k times the quotient is at most z
pub shift_low : (k : ℕ) (z : ℤ) → (pos (2 ^ k) *ℤ shifted k z) ≤ℤ z
unfolding shifted
shift_low k (pos n) =
    (le_parts (is_mul (2 ^ k) (own (pos (n / 2 ^ k)))) (own (pos n))).1 (omega (arith, mul-div-le n (2 ^ k)))
shift_low k (negsuc n) =
    (le_parts (is_mul (2 ^ k) (own (negsuc (n / 2 ^ k)))) (own (negsuc n))).1
    (omega (arith, lt-mul-div-succ n (pow_pos k)))

-- and z is less than 2^k times one more
pub shift_high : (k : ℕ) (z : ℤ) → (z +ℤ pos 1) ≤ℤ (pos (2 ^ k) *ℤ (shifted k z +ℤ pos 1))
unfolding shifted
shift_high k (pos n) =
    (le_parts (is_add (own (pos n)) (is_pos 1)) (is_mul (2 ^ k) (is_add (own (pos (n / 2 ^ k))) (is_pos 1)))).1
    (omega (arith, lt-mul-div-succ n (pow_pos k)))
shift_high k (negsuc n) =
    (le_parts (is_add (own (negsuc n)) (is_pos 1)) (is_mul (2 ^ k) (is_add (own (negsuc (n / 2 ^ k))) (is_pos 1)))).1
    (omega (arith, mul-div-le n (2 ^ k)))

-- R36, R58: -11 / 4 is -3 rounded down; toward zero it would be -2
minus_eleven : shifted 2 (negsuc 10) ≡ negsuc 2
unfolding shifted
minus_eleven = refl
