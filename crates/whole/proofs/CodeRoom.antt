-- The sizes of signed numbers: how a sum and a sign change them, and that numbers with room fit an i64, where what is read is
-- what was written. Assumes nothing.
use mathlib.Core.Path.{◌≡◌, refl, sym, ap, ◌∙◌}
use mathlib.Core.Bool.{Bool, true, false, not, true≢false}
use Prim.Native.Nat.{ℕ, zero, suc, ◌+◌, ◌≤◌, ◌<◌, zero-le}
use borrow.Author.Tests.{le-ltb}
use native.Mathlib.Omega.{arith}
use lib.IntN.{ℤ, pos, negsuc, neg_ℤ, nat_abs, ◌+ℤ◌, ◌-ℤ◌}
use lib.Signed.{mag, lt_z, le_z, non_neg, nat_abs-le}
use lib.Dec.{T, leb, le→leb}
use mir.Syntax.{w32, w64}
use mir.Val.{SFits, to_z, of_z}
use mir.Facts.{to_z-of_z}
use Rattle.whole.specs.Sign.{signed_by, negative}
use Rattle.whole.specs.Room.{Roomy}
use Rattle.whole.proofs.Bools.{passes}
use Rattle.whole.proofs.Parts.{plus, minus, Is, own, is_add}

parts_size : (z : ℤ) → nat_abs z ≡ plus z + minus z
parts_size (pos n) = omega arith
parts_size (negsuc n) = omega arith

size_parts : {a b : ℕ} (z : ℤ) → Is z a b → nat_abs z ≤ a + b
size_parts (pos n) i = let e = i.eq in omega arith
size_parts (negsuc n) i = let e = i.eq in omega arith

pub size_add : (y z : ℤ) → nat_abs (y +ℤ z) ≤ nat_abs y + nat_abs z
size_add y z =
    omega (arith, size_parts (y +ℤ z) (is_add (own y) (own z)), parts_size y, parts_size z)

size_neg : (z : ℤ) → nat_abs (neg_ℤ z) ≡ nat_abs z
size_neg (pos zero) = omega arith
size_neg (pos (suc n)) = omega arith
size_neg (negsuc n) = omega arith

pub size_sign : (plus : Bool) (z : ℤ) → nat_abs (signed_by plus z) ≡ nat_abs z
size_sign true z = omega arith
size_sign false z = size_neg z

mag_size : (z : ℤ) → mag z ≤ nat_abs z
mag_size (pos n) = omega arith
mag_size (negsuc n) = omega arith

-- ---- numbers with room, as the code meets them

pub roomy_sign : (plus : Bool) {z : ℤ} → Roomy z → Roomy (signed_by plus z)
roomy_sign plus {z} h = record { size = let a = h.size in omega (arith, size_sign plus z) }

-- a difference is the sum with the opposite sign
pub roomy_neg : {z : ℤ} → Roomy z → Roomy (neg_ℤ z)
roomy_neg h = roomy_sign false h

-- 0 has room
pub nothing : Roomy (pos 0)
nothing = record { size = omega arith }

-- a sum of two of them fits, and so does a difference, which is the sum with a sign
pub sum_fits : {y z : ℤ} → Roomy y → Roomy z → SFits w64 (y +ℤ z)
sum_fits {y} {z} h k =
    record { sfits = let a = h.size in let b = k.size in omega (arith, mag_size (y +ℤ z), size_add y z) }

-- and so does one of them
pub roomy_fits : {z : ℤ} → Roomy z → SFits w64 z
roomy_fits {z} h = record { sfits = let a = h.size in omega (arith, mag_size z) }

-- ---- an i64 is held as its bits: what is read there is the number that was written
pub read : {z : ℤ} → Roomy z → to_z w64 (of_z w64 z) ≡ z
read h = to_z-of_z (roomy_fits h)

-- the sum of two that are held, and their difference: it fits, and is read as the sum of the numbers
abbrev pub Held : ℤ → ℤ → Type 0
Held read z = SFits w64 read × (to_z w64 (of_z w64 read) ≡ z)

pub held_sum : {y z : ℤ} → Roomy y → Roomy z → Held (to_z w64 (of_z w64 y) +ℤ to_z w64 (of_z w64 z)) (y +ℤ z)
held_sum h k = rw (read h, read k) (let f = sum_fits h k in (f, to_z-of_z f))

pub held_less : {y z : ℤ} → Roomy y → Roomy z → Held (to_z w64 (of_z w64 y) -ℤ to_z w64 (of_z w64 z)) (y -ℤ z)
held_less h k = rw (read h, read k) (let f = sum_fits h (roomy_neg k) in (f, to_z-of_z f))

-- a number of size below 2^31 fits an i32
pub narrow_fits : {z : ℤ} → nat_abs z < 2147483648 → SFits w32 z
narrow_fits {z} h = record { sfits = omega (arith, mag_size z) }

-- an i32 that is widened has room, and keeps its number
pub roomy_32 : {z : ℤ} → SFits w32 z → Roomy z
roomy_32 {z} f = record { size = omega (arith, nat_abs-le z f.sfits) }

pub widened : {z : ℤ} → SFits w32 z → to_z w64 (of_z w64 (to_z w32 (of_z w32 z))) ≡ z
widened f = ap (λ (z : ℤ). to_z w64 (of_z w64 z)) (to_z-of_z f) ∙ read (roomy_32 f)

-- ---- the sign

-- the test of the code, z < 0, is the sign
pub below_zero : (z : ℤ) → lt_z z (pos 0) ≡ negative z
below_zero (pos n) = le-ltb n 0 zero-le
below_zero (negsuc n) = refl

pub sized : (z : ℤ) → signed_by (not (negative z)) z ≡ pos (nat_abs z)
sized (pos n) = refl
sized (negsuc n) = refl

-- and so is 0 ≤ z, the other way round
pub from_zero : (z : ℤ) → le_z (pos 0) z ≡ not (negative z)
from_zero (pos n) = sym (passes (leb 0 n) (le→leb 0 n zero-le))
from_zero (negsuc n) = refl

-- a number without the sign is a natural
pub not_negative : (z : ℤ) → negative z ≡ false → T (non_neg z)
not_negative (pos n) e = tt
not_negative (negsuc n) e = absurd (true≢false e)
