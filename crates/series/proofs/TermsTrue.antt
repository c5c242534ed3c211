-- The exact terms lie between l_k and u_k. Both sides are one proof, over an order and its opposite. Assumes nothing.
use mathlib.Core.Path.{◌≡◌, subst}
use Prim.Native.Nat.{ℕ, zero, suc, ◌+◌, ◌*◌, ◌≤◌, ◌<◌}
use native.Mathlib.Omega.{arith}
use native.Mathlib.Nat.{le_refl, le_trans, add-le-add, mul-le-mul, mul-pos}
use lib.Dec.{lit<}
use Rattle.grid.specs.Grid.{one}
use Rattle.whole.proofs.Round.{down_le, le_up}
use Rattle.series.specs.Terms.{Series, Q-, Q+, l, u}
use Rattle.series.specs.Exact.{num, ratio, den}
use Rattle.series.proofs.TermLimits.{Divides, unit_pos}

-- what `≤` and its opposite share
pub record Order (R : ℕ → ℕ → Type 0) : Type 0 where
  pub itself : (n : ℕ) → R n n
  pub along : {a b c : ℕ} → R a b → R b c → R a c
  pub plus : {a b c d : ℕ} → R a b → R c d → R (a + c) (b + d)
  pub times : {a b c d : ℕ} → R a b → R c d → R (a * c) (b * d)

abbrev pub Least : ℕ → ℕ → Type 0
Least a b = b ≤ a

pub upward : Order ◌≤◌
upward = record { itself = le_refl; along = le_trans; plus = add-le-add; times = mul-le-mul }

pub downward : Order Least
downward = record { itself = le_refl; along = λ h k. le_trans k h; plus = add-le-add; times = mul-le-mul }

-- terms f, made from Q as l is from Q- and u from Q+, before they are rounded
pub record Made (R : ℕ → ℕ → Type 0) (s : Series) (X Q : ℕ) (f : ℕ → ℕ) : Type 0 where
  pub start : R (f zero) (s.term0 X)
  pub square : R (Q * one) (X * X)
  pub next : (k : ℕ) → R (f (suc k) * (one * s.divisor (suc k))) (f k * Q)

pub l_made : (s : Series) (X : ℕ) → Made ◌≤◌ s X (Q- X) (l s X)
unfolding l
l_made s X =
    record {
      start = le_refl (s.term0 X);
      square = down_le (X * X) one;
      next = λ k. down_le (l s X k * Q- X) (one * s.divisor (suc k));
    }

pub u_made : (s : Series) → Divides s → (X : ℕ) → Made Least s X (Q+ X) (u s X)
unfolding u
u_made s div X =
    record {
      start = le_refl (s.term0 X);
      square = le_up (X * X) one (lit< tt);
      next = λ k. le_up (u s X k * Q+ X) (one * s.divisor (suc k)) (unit_pos s div k);
    }

module _ (R : ℕ → ℕ → Type 0) (o : Order R) (s : Series) (X Q : ℕ) (f : ℕ → ℕ) (m : Made R s X Q f) where
  step : (k : ℕ) → R (f k * den s k) (num s X k) → R (f (suc k) * den s (suc k)) (num s X (suc k))
  unfolding den num ratio
  step k h =
      let a : f k * den s k * (Q * one) ≡ f k * Q * (one * den s k) = omega arith in
      let b : f (suc k) * (one * s.divisor (suc k)) * (one * den s k)
      ≡ f (suc k) * (den s k * (72057594037927936 * s.divisor (suc k))) = omega arith in
      subst (λ (n : ℕ). R n (num s X k * (X * X))) b
      (o.along (o.times (m.next k) (o.itself (one * den s k)))
      (subst (λ (n : ℕ). R n (num s X k * (X * X))) a (o.times h m.square)))

  pub terms-true : (k : ℕ) → R (f k * den s k) (num s X k)
  unfolding den num
  terms-true zero = let a : f zero ≡ f zero * 1 = omega arith in subst (λ (n : ℕ). R n (s.term0 X)) a m.start
  terms-true (suc k) = step k (terms-true k)

-- l_k ≤ 2^28 t_k ≤ u_k, multiplied out
pub l-true : (s : Series) (X k : ℕ) → l s X k * den s k ≤ num s X k
l-true s X = terms-true ◌≤◌ upward s X (Q- X) (l s X) (l_made s X)

pub u-true : (s : Series) → Divides s → (X k : ℕ) → num s X k ≤ u s X k * den s k
u-true s div X = terms-true Least downward s X (Q+ X) (u s X) (u_made s div X)

pub ratio_pos : (s : Series) → Divides s → (k : ℕ) → 0 < ratio s (suc k)
unfolding ratio
ratio_pos s div k = mul-pos (lit< tt) (div k)

pub den_pos : (s : Series) → Divides s → (k : ℕ) → 0 < den s k
unfolding den
den_pos s div zero = lit< tt
den_pos s div (suc k) = mul-pos (den_pos s div k) (ratio_pos s div k)
