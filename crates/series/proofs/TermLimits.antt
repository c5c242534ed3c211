-- How large the terms of a series and their sums can be: the terms grow with X, and fall from term 1 on. Assumes nothing.
use Prim.Native.Nat.{ℕ, zero, suc, ◌*◌, ◌≤◌, ◌<◌}
use native.Mathlib.Omega.{arith}
use native.Mathlib.Nat.{le_trans, mul-le-mul, mul-le-mul_left, mul-pos}
use lib.Dec.{T, leb, lit<, lit≤}
use Rattle.grid.specs.Grid.{one, T_units}
use Rattle.whole.proofs.Round.{down_mono, up_mono, down-le-up, up_le}
use Rattle.series.specs.Terms.{Series, Q-, Q+, l, u}
use Rattle.series.specs.Bounds.{evens, odds}

-- what makes the divisions of a series' terms divisions
abbrev pub Divides : Series → Type 0
Divides s = (k : ℕ) → 0 < s.divisor (suc k)

one_pos : 0 < one
one_pos = lit< tt

pub unit_pos : (s : Series) → Divides s → (k : ℕ) → 0 < one * s.divisor (suc k)
unit_pos s div k = mul-pos one_pos (div k)

pub Q_mono : {X Y : ℕ} → X ≤ Y → Q+ X ≤ Q+ Y
Q_mono h = up_mono one one_pos (mul-le-mul h h)

Q_down_mono : {X Y : ℕ} → X ≤ Y → Q- X ≤ Q- Y
Q_down_mono h = down_mono one one_pos (mul-le-mul h h)

pub Q_order : (X : ℕ) → Q- X ≤ Q+ X
Q_order X = down-le-up (X * X) one one_pos

module _ (s : Series) (div : Divides s) where
  -- u_k grows with X where u_0 does
  pub u_mono : {X Y : ℕ} → s.term0 X ≤ s.term0 Y → X ≤ Y → (k : ℕ) → u s X k ≤ u s Y k
  unfolding u
  u_mono f h zero = f
  u_mono f h (suc k) = up_mono (one * s.divisor (suc k)) (unit_pos s div k) (mul-le-mul (u_mono f h k) (Q_mono h))

  -- and so does l_k
  pub l_mono : {X Y : ℕ} → s.term0 X ≤ s.term0 Y → X ≤ Y → (k : ℕ) → l s X k ≤ l s Y k
  unfolding l
  l_mono f h zero = f
  l_mono f h (suc k) = down_mono (one * s.divisor (suc k)) (unit_pos s div k) (mul-le-mul (l_mono f h k) (Q_down_mono h))

  pub l-le-u : (X k : ℕ) → l s X k ≤ u s X k
  unfolding l u
  l-le-u X zero = omega arith
  l-le-u X (suc k) =
      le_trans
      (down_mono (one * s.divisor (suc k)) (unit_pos s div k) (mul-le-mul (l-le-u X k) (Q_order X)))
      (down-le-up (u s X k * Q+ X) (one * s.divisor (suc k)) (unit_pos s div k))

  -- from term k to the next u doesn't rise, where X^2 / 2^28 is at most 2^28 times the divisor
  pub u_falls : (X k : ℕ) → Q+ X ≤ one * s.divisor (suc k) → u s X (suc k) ≤ u s X k
  unfolding u
  u_falls X k h =
      up_le (u s X k) (u s X k * Q+ X) (one * s.divisor (suc k)) (unit_pos s div k) (mul-le-mul_left (u s X k) h)

  -- so a limit for terms 0 and 1 is a limit for every term
  pub u_limit : (X B : ℕ) → s.term0 X ≤ B → u s X 1 ≤ B → ((k : ℕ) → Q+ X ≤ one * s.divisor (suc (suc k))) →
      (k : ℕ) → u s X k ≤ B
  unfolding u
  u_limit X B a b h zero = a
  u_limit X B a b h (suc zero) = b
  u_limit X B a b h (suc (suc k)) = le_trans (u_falls X (suc k) (h k)) (u_limit X B a b h (suc k))

-- x^2 is at most 10 at every angle tested
pub Q_within : (X : ℕ) → X ≤ T_units → Q+ X ≤ 10 * one
Q_within X h = le_trans (Q_mono h) (lit≤ tt)

-- the greatest angle tested gives limits for every angle, where term 0 doesn't fall as the angle grows
module _ (s : Series) (div : Divides s) (grows : (X Y : ℕ) → X ≤ Y → s.term0 X ≤ s.term0 Y) where
  pub at_T : (X k B : ℕ) → X ≤ T_units → T (leb (u s T_units k) B) → u s X k ≤ B
  at_T X k B h t = le_trans (u_mono s div (grows X T_units h) h k) (lit≤ t)

  -- what terms 0 and 1 are within at T is a limit for every term, where the divisors after the first are at least 10
  pub terms_within : (B : ℕ) → T (leb (u s T_units 0) B) → T (leb (u s T_units 1) B) → ((k : ℕ) → 10 ≤ s.divisor (suc (suc k))) →
      (X : ℕ) → X ≤ T_units → (k : ℕ) → u s X k ≤ B
  unfolding u
  terms_within B a b from X h =
      u_limit s div X B (at_T X 0 B h a) (at_T X 1 B h b) (λ k. omega (arith, Q_within X h, mul-le-mul_left one (from k)))

-- n terms, each within a limit
pub evens_limit : (f : ℕ → ℕ) (B : ℕ) → ((k : ℕ) → f k ≤ B) → (n : ℕ) → evens f n ≤ n * B
unfolding evens
evens_limit f B h zero = omega arith
evens_limit f B h (suc n) = omega (arith, evens_limit f B h n, h (2 * n))

pub odds_limit : (f : ℕ → ℕ) (B : ℕ) → ((k : ℕ) → f k ≤ B) → (n : ℕ) → odds f n ≤ n * B
unfolding odds
odds_limit f B h zero = omega arith
odds_limit f B h (suc n) = omega (arith, odds_limit f B h n, h (suc (2 * n)))
