-- The exact sums by naturals, with no parity in them: over `den n`, `same n` sums the terms n, n-2, .. and `other n` the
-- terms n-1, n-3, .., so that S_n is same - other at even n and other - same at odd n. Assumes nothing.
use mathlib.Core.Bool.{Bool, true, false, not}
use Prim.Native.Nat.{ℕ, zero, suc, ◌+◌, ◌*◌}
use native.Mathlib.Omega.{arith}
use lib.IntN.{ℤ, pos, ◌*ℤ◌, ◌+ℤ◌}
use Rattle.whole.proofs.Parts.{Is, shift, is_pos, is_neg, is_add, is_mul_right}
use Rattle.series.specs.Terms.{Series}
use Rattle.series.specs.Exact.{num, ratio, even, signed, S}

unfoldable mutual
  pub same : Series → ℕ → ℕ → ℕ
  same s X zero = num s X zero
  same s X (suc n) = other s X n * ratio s (suc n) + num s X (suc n)

  pub other : Series → ℕ → ℕ → ℕ
  other s X zero = 0
  other s X (suc n) = same s X n * ratio s (suc n)

-- the parts that S_n is the difference of, by the parity of n
abbrev pub Parted : Bool → ℤ → ℕ → ℕ → Type 0
Parted true z a b = Is z a b
Parted false z a b = Is z b a

step : (t : Bool) (z : ℤ) (a b r k : ℕ) → Parted t z a b → Parted (not t) (z *ℤ pos r +ℤ signed (not t) k) (b * r + k) (a * r)
step true z a b r k i = shift (is_add (is_mul_right r i) (is_neg (is_pos k))) (omega arith)
step false z a b r k i = shift (is_add (is_mul_right r i) (is_pos k)) (omega arith)

pub S_parts : (s : Series) (X n : ℕ) → Parted (even n) (S s X n) (same s X n) (other s X n)
unfolding S same
S_parts s X zero = is_pos (num s X zero)
S_parts s X (suc n) = step (even n) (S s X n) (same s X n) (other s X n) (ratio s (suc n)) (num s X (suc n)) (S_parts s X n)
