-- A signed number by two naturals: `Is z a b` says that z is a - b. It goes through sums, products and order, so that a
-- statement about signed numbers becomes one about naturals, for `omega`. Assumes nothing.
use mathlib.Core.Path.{◌≡◌, refl, subst}
use mathlib.Core.Bool.{Bool, true, false, not, cond}
use Prim.Native.Nat.{ℕ, zero, suc, ◌+◌, ◌-◌, ◌*◌}
use native.Mathlib.Omega.{arith}
use lib.Dec.{T, ltb, ltb→lt, nltb→le}
use lib.IntN.{ℤ, pos, negsuc, neg_ℤ, nat_abs, sub_ℕ, ◌+ℤ◌, ◌-ℤ◌, ◌*ℤ◌, *ℤ_comm}

-- the part above zero and the part below
abbrev pub plus : ℤ → ℕ
plus (pos n) = n
plus (negsuc n) = 0

abbrev pub minus : ℤ → ℕ
minus (pos n) = 0
minus (negsuc n) = suc n

pub record Is (z : ℤ) (a b : ℕ) : Type 0 where
  pub eq : plus z + b ≡ minus z + a

-- what holds by either outcome of a test holds of the choice that the test makes
pub by_test {ℓ} : {A : Type 0} (P : A → Type ℓ) (c : Bool) (x y : A) → (T c → P x) → (T (not c) → P y) → P (cond c x y)
by_test P true x y f g = f tt
by_test P false x y f g = g tt

pub own : (z : ℤ) → Is z (plus z) (minus z)
own z = record { eq = omega arith }

-- the same difference by other naturals
pub shift : {z : ℤ} {a b c d : ℕ} → Is z a b → a + d ≡ c + b → Is z c d
shift i e = let f = i.eq in record { eq = omega arith }

pub is_pos : (n : ℕ) → Is (pos n) n 0
is_pos n = record { eq = omega arith }

pub is_sub : (a b : ℕ) → Is (sub_ℕ a b) a b
is_sub a b =
    by_test (λ (z : ℤ). Is z a b) (ltb a b) (negsuc (b - suc a)) (pos (a - b))
    (λ t. let h = ltb→lt a b t in record { eq = omega arith })
    (λ t. let h = nltb→le a b t in record { eq = omega arith })

own_neg : (z : ℤ) → Is (neg_ℤ z) (minus z) (plus z)
own_neg (pos zero) = record { eq = refl }
own_neg (pos (suc n)) = record { eq = omega arith }
own_neg (negsuc n) = record { eq = omega arith }

pub is_neg : {z : ℤ} {a b : ℕ} → Is z a b → Is (neg_ℤ z) b a
is_neg {z} i = let e = i.eq in shift (own_neg z) (omega arith)

own_add : (y z : ℤ) → Is (y +ℤ z) (plus y + plus z) (minus y + minus z)
own_add (pos a) (pos b) = record { eq = omega arith }
own_add (pos a) (negsuc b) = shift (is_sub a (suc b)) (omega arith)
own_add (negsuc a) (pos b) = shift (is_sub b (suc a)) (omega arith)
own_add (negsuc a) (negsuc b) = record { eq = omega arith }

pub is_add : {y z : ℤ} {a b c d : ℕ} → Is y a b → Is z c d → Is (y +ℤ z) (a + c) (b + d)
is_add {y} {z} i j = let e = i.eq in let f = j.eq in shift (own_add y z) (omega arith)

pub is_minus : {y z : ℤ} {a b c d : ℕ} → Is y a b → Is z c d → Is (y -ℤ z) (a + d) (b + c)
is_minus i j = is_add i (is_neg j)

own_mul : (n : ℕ) (z : ℤ) → Is (pos n *ℤ z) (n * plus z) (n * minus z)
own_mul n (pos b) = record { eq = omega arith }
own_mul n (negsuc b) = shift (is_neg (is_pos (n * suc b))) (omega arith)

times : (n p q r s : ℕ) → p + q ≡ r + s → n * p + n * q ≡ n * r + n * s
times n p q r s e =
    let f : n * (p + q) ≡ n * (r + s) = subst (λ (k : ℕ). n * (p + q) ≡ n * k) e refl in omega arith

pub is_mul : {z : ℤ} {a b : ℕ} (n : ℕ) → Is z a b → Is (pos n *ℤ z) (n * a) (n * b)
is_mul {z} {a} {b} n i = let e = times n (plus z) b (minus z) a i.eq in shift (own_mul n z) (omega arith)

pub is_mul_right : {z : ℤ} {a b : ℕ} (n : ℕ) → Is z a b → Is (z *ℤ pos n) (n * a) (n * b)
is_mul_right {z} {a} {b} n i = subst (λ (y : ℤ). Is y (n * a) (n * b)) (*ℤ_comm (pos n) z) (is_mul n i)

-- the size of a - b
pub is_size : (z : ℤ) {a b : ℕ} → Is z a b → nat_abs z ≡ (a - b) + (b - a)
is_size (pos n) i = let e = i.eq in omega arith
is_size (negsuc n) i = let e = i.eq in omega arith
