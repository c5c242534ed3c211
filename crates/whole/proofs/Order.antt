-- The order of signed numbers by their parts, and the greater and the lesser of two. Assumes nothing.
use mathlib.Core.Path.{◌≡◌, ap}
use mathlib.Core.Bool.{not}
use mathlib.Core.Logic.{◌↔◌}
use Prim.Native.Nat.{ℕ, ◌+◌, ◌≤◌, ◌<◌, max}
use native.Mathlib.Omega.{arith}
use native.Mathlib.Nat.{lt_of_not-le}
use lib.Dec.{T, T_not, leb→le, le→leb, nleb→lt}
use lib.IntN.{ℤ, pos, negsuc}
use lib.Signed.{lt_z, le_z, ◌≤ℤ◌, ◌<ℤ◌, le_z_yes, lt_z_yes, lt_z_no, clash_ℤ}
use Rattle.whole.specs.Choose.{greater, lesser}
use Rattle.whole.proofs.Bools.{not_failed}
use Rattle.whole.proofs.Parts.{plus, minus, Is, own, shift, by_test}

own_le : (y z : ℤ) → T (le_z y z) → plus y + minus z ≤ plus z + minus y
own_le (pos a) (pos b) t = let h = leb→le a b t in omega arith
own_le (pos a) (negsuc b) t = absurd t
own_le (negsuc a) (pos b) t = omega arith
own_le (negsuc a) (negsuc b) t = let h = leb→le b a t in omega arith

le_own : (y z : ℤ) → plus y + minus z ≤ plus z + minus y → T (le_z y z)
le_own (pos a) (pos b) h = le→leb a b (omega arith)
le_own (pos a) (negsuc b) h = absurd (let k : ⊥ = omega arith in k)
le_own (negsuc a) (pos b) h = tt
le_own (negsuc a) (negsuc b) h = le→leb b a (omega arith)

-- y ≤ z, where y is a - b and z is c - d, says a + d ≤ c + b
pub le_parts : {y z : ℤ} {a b c d : ℕ} → Is y a b → Is z c d → y ≤ℤ z ↔ a + d ≤ c + b
le_parts {y} {z} i j =
    let e = i.eq in
    let f = j.eq in
    (λ h. let k = own_le y z h.le in omega arith, λ k. record { le = le_own y z (omega arith) })

-- and y < z, which is that not z ≤ y, says a + d < c + b
pub lt_parts : {y z : ℤ} {a b c d : ℕ} → Is y a b → Is z c d → y <ℤ z ↔ a + d < c + b
lt_parts {y} {z} i j = (
  λ h. lt_of_not-le (λ k. clash_ℤ h ((le_parts j i).1 k)),
  λ k. lt_z_yes (not_failed (lt_z y z) (λ n. let h = (le_parts j i).0 (lt_z_no n) in omega arith)),
)

-- the same of the test
pub test_parts : {y z : ℤ} {a b c d : ℕ} → Is y a b → Is z c d → T (le_z y z) ↔ a + d ≤ c + b
test_parts i j = (λ t. (le_parts i j).0 (le_z_yes t), λ h. ((le_parts i j).1 h).le)

-- two signed numbers with the same parts are one
pub one_number : {y z : ℤ} {a b : ℕ} → Is y a b → Is z a b → y ≡ z
one_number {y} {z} {a} {b} i j = same y z (let e = i.eq in let f = j.eq in omega arith)
  where
    same : (y z : ℤ) → plus y + minus z ≡ plus z + minus y → y ≡ z
    same (pos a) (pos b) e = ap pos (omega arith)
    same (pos a) (negsuc b) e = absurd (let k : ⊥ = omega arith in k)
    same (negsuc a) (pos b) e = absurd (let k : ⊥ = omega arith in k)
    same (negsuc a) (negsuc b) e = ap negsuc (omega arith)

-- what holds of both holds of the greater and of the lesser
pub of_greater : (P : ℤ → Type 0) (y z : ℤ) → P y → P z → P (greater y z)
of_greater P y z p q = by_test P (le_z y z) z y (λ t. q) (λ t. p)

pub of_lesser : (P : ℤ → Type 0) (y z : ℤ) → P y → P z → P (lesser y z)
of_lesser P y z p q = by_test P (le_z y z) y z (λ t. p) (λ t. q)

-- the greater of a - b and c - d
pub greater_is : {y z : ℤ} {a b c d : ℕ} → Is y a b → Is z c d → Is (greater y z) (max (a + d) (c + b)) (b + d)
greater_is {y} {z} {a} {b} {c} {d} i j =
    by_test (λ (g : ℤ). Is g (max (a + d) (c + b)) (b + d)) (le_z y z) z y
    (λ t. let h = (test_parts i j).0 t in shift j (omega arith))
    (λ t. let h = lt_of_not-le (λ k. T_not (le_z y z) t ((test_parts i j).1 k)) in shift i (omega arith))

not-le : (y z : ℤ) → T (not (le_z y z)) → T (le_z z y)
not-le (pos a) (pos b) t = le→leb b a (let h = nleb→lt a b t in omega arith)
not-le (pos a) (negsuc b) t = tt
not-le (negsuc a) (pos b) t = absurd t
not-le (negsuc a) (negsuc b) t = le→leb a b (let h = nleb→lt b a t in omega arith)

self_le : (z : ℤ) → T (le_z z z)
self_le z = le_own z z (omega arith)

pub le-greater_left : (y z : ℤ) → y ≤ℤ greater y z
le-greater_left y z =
    by_test (λ (g : ℤ). y ≤ℤ g) (le_z y z) z y (λ t. le_z_yes t) (λ t. le_z_yes (self_le y))

pub le-greater_right : (y z : ℤ) → z ≤ℤ greater y z
le-greater_right y z =
    by_test (λ (g : ℤ). z ≤ℤ g) (le_z y z) z y (λ t. le_z_yes (self_le z)) (λ t. le_z_yes (not-le y z t))

pub lesser-le_left : (y z : ℤ) → lesser y z ≤ℤ y
lesser-le_left y z =
    by_test (λ (g : ℤ). g ≤ℤ y) (le_z y z) y z (λ t. le_z_yes (self_le y)) (λ t. le_z_yes (not-le y z t))

pub lesser-le_right : (y z : ℤ) → lesser y z ≤ℤ z
lesser-le_right y z =
    by_test (λ (g : ℤ). g ≤ℤ z) (le_z y z) y z (λ t. le_z_yes t) (λ t. le_z_yes (self_le z))

pub ≤ℤ_trans : {x y z : ℤ} → x ≤ℤ y → y ≤ℤ z → x ≤ℤ z
≤ℤ_trans {x} {y} {z} h k =
    let f = (le_parts (own x) (own y)).0 h in
    let g = (le_parts (own y) (own z)).0 k in
    (le_parts (own x) (own z)).1 (omega arith)

pub ≤ℤ_antisym : {y z : ℤ} → y ≤ℤ z → z ≤ℤ y → y ≡ z
≤ℤ_antisym {y} {z} h k =
    let f = (le_parts (own y) (own z)).0 h in
    let g = (le_parts (own z) (own y)).0 k in
    one_number (own y) (shift (own z) (omega arith))

-- a test against the lesser is one against both, and likewise of the greater
pub le-lesser : (x y z : ℤ) → T (le_z x (lesser y z)) ↔ T (le_z x y) × T (le_z x z)
le-lesser x y z = (
  λ t.
      let h : x ≤ℤ lesser y z = le_z_yes t in ((≤ℤ_trans h (lesser-le_left y z)).le, (≤ℤ_trans h (lesser-le_right y z)).le),
  λ p. of_lesser (λ (g : ℤ). T (le_z x g)) y z p.0 p.1,
)

pub greater-le : (x y z : ℤ) → T (le_z (greater x y) z) ↔ T (le_z x z) × T (le_z y z)
greater-le x y z = (
  λ t.
      let h : greater x y ≤ℤ z = le_z_yes t in ((≤ℤ_trans (le-greater_left x y) h).le, (≤ℤ_trans (le-greater_right x y) h).le),
  λ p. of_greater (λ (g : ℤ). T (le_z g z)) x y p.0 p.1,
)
