-- The raw bounds are true: a raw low is at most, and a raw high at least, the exact sum of its own terms, and so by the
-- falling of the sums every longer exact sum of the same parity. Both are one proof. Assumes nothing.
use mathlib.Core.Path.{◌≡◌, refl, subst}
use Prim.Native.Nat.{ℕ, zero, suc, ◌+◌, ◌*◌, ◌≤◌}
use native.Mathlib.Omega.{arith}
use native.Mathlib.Nat.{mul-le-mul_left, le_of_mul-le-mul_left}
use lib.IntN.{ℤ, pos, sub_ℕ, ◌*ℤ◌}
use lib.Signed.{◌≤ℤ◌}
use Rattle.whole.proofs.Parts.{Is, is_sub}
use Rattle.series.specs.Terms.{Series, l, u}
use Rattle.series.specs.Bounds.{evens, odds, raw_low, raw_high}
use Rattle.series.specs.Exact.{num, ratio, den, even, S}
use Rattle.series.proofs.Sums.{same, other, Parted, S_parts}
use Rattle.series.proofs.TermLimits.{Divides}
use Rattle.series.proofs.TermsTrue.{Order, Least, upward, downward, l-true, u-true, den_pos}
use Rattle.series.proofs.Falling.{TermsFall, Onward, onward, parted_mul, even_far, double, odd, far_parts}

-- sums with no parity in them, as `same` and `other`: of f n, f (n-2), .. and of f (n-1), f (n-3), ..
unfoldable mutual
  pub sames : (ℕ → ℕ) → ℕ → ℕ
  sames f zero = f zero
  sames f (suc n) = others f n + f (suc n)

  pub others : (ℕ → ℕ) → ℕ → ℕ
  others f zero = 0
  others f (suc n) = sames f n

-- which are those over the even and over the odd numbers
pub halves : (f : ℕ → ℕ) (d : ℕ) → (sames f (2 * d) ≡ evens f (suc d)) × (others f (2 * d) ≡ odds f d)
unfolding evens odds sames
halves f zero = (omega arith, refl)
halves f (suc d) =
    let e : 2 * suc d ≡ suc (suc (2 * d)) = omega arith in
    let i = (halves f d).0 in
    let j = (halves f d).1 in
    rw e (omega arith, omega arith)

-- terms in an order with the exact ones have sums in that order with the exact sums
module _ (R : ℕ → ℕ → Type 0) (o : Order R) (s : Series) (X : ℕ) (f : ℕ → ℕ)
    (true-terms : (k : ℕ) → R (f k * den s k) (num s X k)) where
  pub sums_true : (n : ℕ) → R (sames f n * den s n) (same s X n) × R (others f n * den s n) (other s X n)
  unfolding sames same den
  sums_true zero = (true-terms zero, o.itself 0)
  sums_true (suc n) =
      let r = ratio s (suc n) in
      let a : others f n * den s n * r + f (suc n) * (den s n * r) ≡ (others f n + f (suc n)) * (den s n * r) = omega arith in
      let b : sames f n * den s n * r ≡ sames f n * (den s n * r) = omega arith in
      let i = sums_true n in (
        subst (λ (k : ℕ). R k (other s X n * r + num s X (suc n))) a
            (o.plus (o.times i.1 (o.itself r)) (true-terms (suc n))),
        subst (λ (k : ℕ). R k (same s X n * r)) b (o.times i.0 (o.itself r)),
      )

module _ (s : Series) (div : Divides s) (X : ℕ) (fall : TermsFall s X) where
  bound_parts : (n j m : ℕ) → m ≡ n + 2 * j →
      same s X m + den s m * others (l s X) n ≤ other s X m + den s m * sames (u s X) n
  bound_parts n j m e =
      let a = (sums_true ◌≤◌ upward s X (l s X) (l-true s X) n).1 in
      let b = (sums_true Least downward s X (u s X) (u-true s div X) n).0 in
      let c = far_parts s X fall n j m e in
      le_of_mul-le-mul_left {k = den s n}
      (omega (arith, mul-le-mul_left (den s m) a, mul-le-mul_left (den s m) b)) (den_pos s div n)

  -- z is the raw bound whose last term is n: high at even n, low at odd n
  pub raw_true : (n j m : ℕ) (z : ℤ) → m ≡ n + 2 * j → Parted (even n) z (sames (u s X) n) (others (l s X) n) →
      Onward (even n) (z *ℤ pos (den s m)) (S s X m)
  raw_true n j m z e i =
      onward (even n) (z *ℤ pos (den s m)) (S s X m) (den s m * sames (u s X) n) (den s m * others (l s X) n)
      (same s X m) (other s X m)
      (parted_mul (even n) z (sames (u s X) n) (others (l s X) n) (den s m) i)
      (rw (even_far n j m e) at (S_parts s X m)) (bound_parts n j m e)

  -- depth d's raw high has the terms 0 to 2d
  pub high-true : (d j m : ℕ) → m ≡ 2 * d + 2 * j → S s X m ≤ℤ (raw_high s X d *ℤ pos (den s m))
  unfolding raw_high
  high-true d j m e =
      let z = sub_ℕ (evens (u s X) (suc d)) (odds (l s X) d) in
      let i : Is z (sames (u s X) (2 * d)) (others (l s X) (2 * d)) =
      rw ((halves (u s X) d).0, (halves (l s X) d).1) (is_sub (evens (u s X) (suc d)) (odds (l s X) d)) in
      rw (double d) at (raw_true (2 * d) j m z e (rw (double d) i))

  -- depth d + 1's raw low has the terms 0 to 2d + 1
  pub low-true : (d j m : ℕ) → m ≡ suc (2 * d) + 2 * j → (raw_low s X (suc d) *ℤ pos (den s m)) ≤ℤ S s X m
  unfolding raw_low sames odds
  low-true d j m e =
      let z = sub_ℕ (evens (l s X) (suc d)) (odds (u s X) (suc d)) in
      let i : Is z (others (l s X) (suc (2 * d))) (sames (u s X) (suc (2 * d))) =
      rw ((halves (l s X) d).0, (halves (u s X) d).1) (is_sub (evens (l s X) (suc d)) (odds (u s X) (suc d))) in
      rw (odd d) at (raw_true (suc (2 * d)) j m z e (rw (odd d) i))
