-- Quotients rounded down and up: how far from the exact quotient, and that they grow with what is divided.
-- Assumes nothing.
use mathlib.Core.Path.{◌≡◌}
use Prim.Native.Nat.{ℕ, suc, ◌+◌, ◌-◌, ◌*◌, ◌≤◌, ◌<◌}
use native.Mathlib.Omega.{arith}
use native.Mathlib.Nat.{div-mul-le_self, lt-div-mul-add, le-div_iff_mul-le, div-lt_iff_lt-mul, le_antisymm, lt_of_lt_of_le, lt_of_not-le, lt_of_mul-lt-mul_right, mul-le-mul_right, mul-pos, div-div-eq-div-mul}
use Rattle.whole.specs.Round.{down, up}

-- rounded down, times the divisor: at most what was divided, and less than one divisor short of it
pub down_le : (a b : ℕ) → down a b * b ≤ a
down_le a b = div-mul-le_self a b

pub lt-down : (a b : ℕ) → 0 < b → a < down a b * b + b
lt-down a b h = lt-div-mul-add h

-- the greatest such
pub le_down : (n a b : ℕ) → 0 < b → n * b ≤ a → n ≤ down a b
le_down n a b h k = (le-div_iff_mul-le h).1 k

-- rounded up, times the divisor: at least what was divided, and less than one divisor beyond it
pub le_up : (a b : ℕ) → 0 < b → a ≤ up a b * b
le_up a b h = let k = lt-down (a + (b - 1)) b h in omega arith

pub up_lt : (a b : ℕ) → 0 < b → up a b * b < a + b
up_lt a b h = let k = down_le (a + (b - 1)) b in omega arith

-- the least such
pub up_le : (n a b : ℕ) → 0 < b → a ≤ n * b → up a b ≤ n
up_le n a b h k = let f : up a b < suc n = (div-lt_iff_lt-mul h).1 (omega arith) in omega arith

-- something rounded up is not 0
pub up_some : (a b : ℕ) → 0 < a → 0 < b → 0 < up a b
up_some a b h B =
    lt_of_not-le (λ (z : up a b ≤ 0). let e : ⊥ = omega (arith, le_up a b B, mul-le-mul_right b z) in e)

pub down_mono : {a c : ℕ} (b : ℕ) → 0 < b → a ≤ c → down a b ≤ down c b
down_mono {a} {c} b h k = let f = down_le a b in le_down (down a b) c b h (omega arith)

pub up_mono : {a c : ℕ} (b : ℕ) → 0 < b → a ≤ c → up a b ≤ up c b
up_mono {a} {c} b h k = let f = le_up c b h in up_le (up c b) a b h (omega arith)

pub down-le-up : (a b : ℕ) → 0 < b → down a b ≤ up a b
down-le-up a b h = let f = down_le a b in le_down (down a b) (a + (b - 1)) b h (omega arith)

-- ---- a quotient rounded up, from the same rounded down: where it is whole it stays, elsewhere it is the next number

pub up_whole : (a d : ℕ) → 0 < d → a ≤ down a d * d → up a d ≡ down a d
up_whole a d D h = le_antisymm (up_le (down a d) a d D h) (down-le-up a d D)

-- it is the next number at most
pub up-le_next : (a d : ℕ) → 0 < d → up a d ≤ down a d + 1
up-le_next a d D = let k = lt-down a d D in up_le (down a d + 1) a d D (omega arith)

pub up_next : (a d : ℕ) → 0 < d → down a d * d < a → up a d ≡ down a d + 1
up_next a d D h =
    let k : down a d < up a d = lt_of_mul-lt-mul_right d (lt_of_lt_of_le h (le_up a d D)) in
    let j = up-le_next a d D in
    omega arith

-- ---- dividing twice with the same rounding is dividing once by the product

pub down-down : (a m n : ℕ) → down (down a m) n ≡ down a (m * n)
down-down a m n = div-div-eq-div-mul a m n

pub up_up : (a m n : ℕ) → 0 < m → 0 < n → up (up a m) n ≡ up a (m * n)
up_up a m n hm hn = le_antisymm twice once
  where
    once : up a (m * n) ≤ up (up a m) n
    once =
        let f = le_up a m hm in
        let g = mul-le-mul_right m (le_up (up a m) n hn) in
        up_le (up (up a m) n) a (m * n) (mul-pos hm hn) (omega arith)

    twice : up (up a m) n ≤ up a (m * n)
    twice =
        let f = le_up a (m * n) (mul-pos hm hn) in
        up_le (up a (m * n)) (up a m) n hn (up_le (up a (m * n) * n) a m hm (omega arith))
