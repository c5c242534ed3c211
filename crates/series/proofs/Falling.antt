-- R9: how the exact sums close in, for any series whose divisors from the second on are at least x^2. Assumes nothing.
use mathlib.Core.Path.{◌≡◌, refl, ap, subst, ◌∙◌}
use mathlib.Core.Bool.{Bool, true, false, not}
use Prim.Native.Nat.{ℕ, zero, suc, ◌+◌, ◌-◌, ◌*◌, ◌≤◌}
use native.Mathlib.Omega.{arith}
use native.Mathlib.Nat.{le_trans, mul-le-mul, mul-le-mul_left}
use lib.Dec.{T, leb, lit≤}
use lib.IntN.{ℤ, pos, ◌*ℤ◌}
use lib.Signed.{◌≤ℤ◌}
use Rattle.grid.specs.Grid.{T_units}
use Rattle.whole.proofs.Parts.{is_mul_right}
use Rattle.whole.proofs.Order.{le_parts}
use Rattle.series.specs.Terms.{Series}
use Rattle.series.specs.Exact.{num, ratio, den, even, S}
use Rattle.series.specs.Sine.{sine}
use Rattle.series.proofs.Sums.{same, other, Parted, S_parts}
use Rattle.series.proofs.OfSine.{from_20}

-- the exact terms fall from term 1 on: x^2 is at most every divisor but the first, multiplied out by 2^56
abbrev pub TermsFall : Series → ℕ → Type 0
TermsFall s X = (k : ℕ) → X * X ≤ ratio s (suc (suc k))

-- an even sum may fall and an odd one may rise
abbrev pub Onward : Bool → ℤ → ℤ → Type 0
Onward true y z = z ≤ℤ y
Onward false y z = y ≤ℤ z

pub onward : (t : Bool) (y z : ℤ) (a b c d : ℕ) → Parted t y a b → Parted t z c d → c + b ≤ d + a → Onward t y z
onward true y z a b c d i j h = (le_parts j i).1 (omega arith)
onward false y z a b c d i j h = (le_parts i j).1 (omega arith)

pub parted_mul : (t : Bool) (z : ℤ) (a b n : ℕ) → Parted t z a b → Parted t (z *ℤ pos n) (n * a) (n * b)
parted_mul true z a b n i = is_mul_right n i
parted_mul false z a b n i = is_mul_right n i

twice : (t : Bool) → not (not t) ≡ t
twice true = refl
twice false = refl

pub even_far : (n j m : ℕ) → m ≡ n + 2 * j → even m ≡ even n
even_far n zero m e = ap even (let f : m ≡ n = omega arith in f)
even_far n (suc j) zero e = absurd (let k : ⊥ = omega arith in k)
even_far n (suc j) (suc zero) e = absurd (let k : ⊥ = omega arith in k)
even_far n (suc j) (suc (suc m)) e = twice (even m) ∙ even_far n j m (omega arith)

pub double : (d : ℕ) → even (2 * d) ≡ true
double d = even_far 0 d (2 * d) (omega arith)

pub odd : (d : ℕ) → even (suc (2 * d)) ≡ false
odd d = even_far 1 d (suc (2 * d)) (omega arith)

module _ (s : Series) (X : ℕ) (fall : TermsFall s X) where
  -- two more terms: `same - other` doesn't grow
  pub pair : (n : ℕ) →
      same s X (suc (suc n)) + ratio s (suc n) * ratio s (suc (suc n)) * other s X n
      ≤ other s X (suc (suc n)) + ratio s (suc n) * ratio s (suc (suc n)) * same s X n
  unfolding same num
  pair n = omega (arith, mul-le-mul_left (num s X (suc n)) (fall n))

  -- S_n against S_(n+2)
  pub falling : (n : ℕ) → Onward (even n) (S s X n *ℤ pos (ratio s (suc n) * ratio s (suc (suc n)))) (S s X (suc (suc n)))
  falling n =
      let r = ratio s (suc n) * ratio s (suc (suc n)) in
      onward (even n) (S s X n *ℤ pos r) (S s X (suc (suc n))) (r * same s X n) (r * other s X n)
      (same s X (suc (suc n))) (other s X (suc (suc n)))
      (parted_mul (even n) (S s X n) (same s X n) (other s X n) r (S_parts s X n))
      (rw twice at (S_parts s X (suc (suc n)))) (pair n)

  pub far_parts : (n j m : ℕ) → m ≡ n + 2 * j →
      den s n * same s X m + den s m * other s X n ≤ den s n * other s X m + den s m * same s X n
  unfolding den
  far_parts n zero m e =
      subst
      (λ (k : ℕ). den s n * same s X k + den s k * other s X n ≤ den s n * other s X k + den s k * same s X n)
      (let f : n ≡ m = omega arith in f) (omega arith)
  far_parts n (suc j) zero e = absurd (let k : ⊥ = omega arith in k)
  far_parts n (suc j) (suc zero) e = absurd (let k : ⊥ = omega arith in k)
  far_parts n (suc j) (suc (suc m)) e =
      let h = far_parts n j m (omega arith) in
      omega (arith, mul-le-mul_left (den s n) (pair m), mul-le-mul_left (ratio s (suc m) * ratio s (suc (suc m))) h)

  -- S_n against any later S_m of the same parity, over their denominators
  pub far : (n j m : ℕ) → m ≡ n + 2 * j → Onward (even n) (S s X n *ℤ pos (den s m)) (S s X m *ℤ pos (den s n))
  far n j m e =
      onward (even n) (S s X n *ℤ pos (den s m)) (S s X m *ℤ pos (den s n)) (den s m * same s X n) (den s m * other s X n)
      (den s n * same s X m) (den s n * other s X m)
      (parted_mul (even n) (S s X n) (same s X n) (other s X n) (den s m) (S_parts s X n))
      (parted_mul (even n) (S s X m) (same s X m) (other s X m) (den s n) (rw (even_far n j m e) at (S_parts s X m)))
      (far_parts n j m e)

  -- R9: no odd sum is below an earlier odd one, and no even sum above an earlier even one
  pub odd_never_falls : (i k : ℕ) → i ≤ k →
      (S s X (suc (2 * i)) *ℤ pos (den s (suc (2 * k)))) ≤ℤ (S s X (suc (2 * k)) *ℤ pos (den s (suc (2 * i))))
  odd_never_falls i k h =
      rw (odd i) at (far (suc (2 * i)) (k - i) (suc (2 * k)) (omega arith))

  pub even_never_rises : (i k : ℕ) → i ≤ k →
      (S s X (2 * k) *ℤ pos (den s (2 * i))) ≤ℤ (S s X (2 * i) *ℤ pos (den s (2 * k)))
  even_never_rises i k h =
      rw (double i) at (far (2 * i) (k - i) (2 * k) (omega arith))

-- by the least divisor from the second on
pub fall_by : (s : Series) (n : ℕ) → ((k : ℕ) → n ≤ s.divisor (suc (suc k))) → (X : ℕ) → X * X ≤ 72057594037927936 * n → TermsFall s X
unfolding ratio
fall_by s n from X h k = le_trans h (mul-le-mul_left 72057594037927936 (from k))

-- which is 20 for sine
pub sine_fall : (X : ℕ) → X * X ≤ 72057594037927936 * 20 → TermsFall sine X
sine_fall = fall_by sine 20 from_20

-- x^2 at every angle tested, by x^2 at T
pub square_within : (X n : ℕ) → X ≤ T_units → T (leb (T_units * T_units) (72057594037927936 * n)) → X * X ≤ 72057594037927936 * n
square_within X n h t = le_trans (mul-le-mul h h) (lit≤ {m = T_units * T_units} {n = 72057594037927936 * n} t)

pub T_fall : (X : ℕ) → X ≤ T_units → TermsFall sine X
T_fall X h = sine_fall X (square_within X 20 h tt)

-- R9: the same of sine, while x^2 <= 20
pub sine_odd_never_falls : (X i k : ℕ) → X * X ≤ 72057594037927936 * 20 → i ≤ k →
    (S sine X (suc (2 * i)) *ℤ pos (den sine (suc (2 * k)))) ≤ℤ (S sine X (suc (2 * k)) *ℤ pos (den sine (suc (2 * i))))
sine_odd_never_falls X i k x = odd_never_falls sine X (sine_fall X x) i k

pub sine-even_never_rises : (X i k : ℕ) → X * X ≤ 72057594037927936 * 20 → i ≤ k →
    (S sine X (2 * k) *ℤ pos (den sine (2 * i))) ≤ℤ (S sine X (2 * i) *ℤ pos (den sine (2 * k)))
sine-even_never_rises X i k x = even_never_rises sine X (sine_fall X x) i k
