-- Biased numbers: order and choice of signed numbers within 2^34 are those of the naturals that they are biased to.
-- Assumes nothing.
use mathlib.Core.Path.{◌≡◌, sym, subst, ◌∙◌}
use Prim.Native.Nat.{ℕ, suc, ◌+◌, ◌-◌, ◌*◌, ◌≤◌, max, min}
use native.Mathlib.Omega.{arith}
use lib.Dec.{ltb}
use mir.Syntax.{w64}
use mir.Val.{SFits, to_z, of_z}
use mir.Facts.{to_z-of_z}
use lib.IntN.{ℤ, pos, negsuc, sub_ℕ}
use lib.Signed.{◌≤ℤ◌}
use Rattle.whole.specs.Choose.{greater, lesser}
use Rattle.whole.proofs.Parts.{plus, minus, Is, own, is_sub, by_test}
use Rattle.whole.proofs.Order.{le_parts, one_number, of_greater, of_lesser, le-greater_left, le-greater_right, lesser-le_left, lesser-le_right}
use Rattle.series.specs.Walk.{bias, biased, Room}
use Rattle.series.proofs.CodeRange.{InBounds}

-- a biased difference
pub biased_is : {z : ℤ} {a b : ℕ} → Is z a b → b ≤ bias + a → biased z ≡ bias + a - b
biased_is {z = pos n} i h = let e = i.eq in omega arith
biased_is {z = negsuc n} i h = let e = i.eq in omega arith

-- which gains p and loses q
pub biased_step : {y z : ℤ} {a b : ℕ} (p q : ℕ) → Is y a b → Is z (a + p) (b + q) → a + p ≤ bias → b + q ≤ bias →
    Room (biased y) p q × (biased y + p - q ≡ biased z)
biased_step p q i j h k =
    let e = biased_is i (omega arith) in
    let f = biased_is j (omega arith) in
    (record { top = omega arith; bottom = omega arith }, omega arith)

-- a biased number is 2^34 plus the number
pub biased_parts : (z : ℤ) → InBounds z → biased z + minus z ≡ bias + plus z
biased_parts (pos n) w = omega arith
biased_parts (negsuc n) w = let h = w.low in omega arith

biased-le : (y z : ℤ) → InBounds y → InBounds z → y ≤ℤ z → biased y ≤ biased z
biased-le y z v w h =
    let k = (le_parts (own y) (own z)).0 h in
    let p = biased_parts y v in
    let q = biased_parts z w in omega arith

pub unbiased_is : (z : ℤ) → InBounds z → sub_ℕ (biased z) bias ≡ z
unbiased_is z w =
    let p = biased_parts z w in
    one_number (is_sub (biased z) bias) (record { eq = omega arith })

pub biased_small : (z : ℤ) → InBounds z → biased z ≤ 2 * bias
biased_small z w = let p = biased_parts z w in let h = w.high in omega arith

-- what the greater is biased to is the greater of what both are biased to, and likewise the lesser
pub biased-greater : (y z : ℤ) → InBounds y → InBounds z → max (biased y) (biased z) ≡ biased (greater y z)
biased-greater y z v w =
    let p = biased-le y (greater y z) v (of_greater InBounds y z v w) (le-greater_left y z) in
    let q = biased-le z (greater y z) w (of_greater InBounds y z v w) (le-greater_right y z) in
    of_greater (λ (g : ℤ). biased y ≤ biased g → biased z ≤ biased g → max (biased y) (biased z) ≡ biased g) y z
    (λ a b. omega arith) (λ a b. omega arith) p q

pub biased-lesser : (y z : ℤ) → InBounds y → InBounds z → min (biased y) (biased z) ≡ biased (lesser y z)
biased-lesser y z v w =
    let p = biased-le (lesser y z) y (of_lesser InBounds y z v w) v (lesser-le_left y z) in
    let q = biased-le (lesser y z) z (of_lesser InBounds y z v w) w (lesser-le_right y z) in
    of_lesser (λ (g : ℤ). biased g ≤ biased y → biased g ≤ biased z → min (biased y) (biased z) ≡ biased g) y z
    (λ a b. omega arith) (λ a b. omega arith) p q

-- what is unbiased again fits an i64
pub unbiased_fits : (n : ℕ) → n ≤ 2 * bias → SFits w64 (sub_ℕ n bias)
unbiased_fits n h =
    by_test (SFits w64) (ltb n bias) (negsuc (bias - suc n)) (pos (n - bias))
    (λ t. record { sfits = omega arith })
    (λ t. record { sfits = omega arith })

-- a number unbiased again, as it is read back from the bits of an i64
pub unbiased_back : (r : ℤ) (b : ℕ) → r ≡ sub_ℕ b bias → b ≤ 2 * bias → to_z w64 (of_z w64 r) ≡ sub_ℕ b bias
unbiased_back r b e h = to_z-of_z (subst (SFits w64) (sym e) (unbiased_fits b h)) ∙ e
