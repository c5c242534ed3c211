-- One law for both ends, over naturals: l - r against a times a bound p - q, and against a times an exact sum (f - g) / D.
-- The lower end has 2^28 X for l and 2^28 M for r, with Lo and S_9 for p - q and f - g; the upper end has them exchanged, with
-- -Hi and -S_10. Assumes nothing.
use mathlib.Core.Path.{◌≡◌, ap}
use mathlib.Core.Logic.{◌↔◌}
use Prim.Native.Nat.{ℕ, ◌+◌, ◌-◌, ◌*◌, ◌≤◌, ◌<◌}
use native.Mathlib.Omega.{arith}
use native.Mathlib.Nat.{mul-le-mul_left, mul-le-mul_right, le_of_mul-le-mul_right, le_of_lt, lt_of_not-le}
use native.Mathlib.Decide.{dec_le}

-- l - r <= a (p - q): the test
abbrev pub Accepts : ℕ → ℕ → ℕ → ℕ → ℕ → Type 0
Accepts l r a p q = l + a * q ≤ r + a * p

-- l - r + w a <= a (f - g) / D: the exact inequality, with w a to spare
abbrev pub Spares : ℕ → ℕ → ℕ → ℕ → ℕ → ℕ → ℕ → Type 0
Spares w l r a D f g = l * D + w * a * D + a * g ≤ r * D + a * f

module _ (l r a : ℕ) where
  -- the bound lies below the sum
  pub accept : (D f g p q : ℕ) → p * D + g ≤ f + q * D → Accepts l r a p q → Spares 0 l r a D f g
  accept D f g p q true h = omega (arith, mul-le-mul_left a true, mul-le-mul_right D h)

  -- the bound lies at most w below the sum
  pub refuse : (w D f g p q : ℕ) → 0 < D → f + q * D ≤ g + p * D + w * D → Spares w l r a D f g → Accepts l r a p q
  refuse w D f g p q some near h = le_of_mul-le-mul_right {k = D} (omega (arith, mul-le-mul_left a near)) some

  -- a better bound accepts no less
  pub better : (p q p' q' : ℕ) → p + q' ≤ p' + q → Accepts l r a p q → Accepts l r a p' q'
  better p q p' q' more h = omega (arith, mul-le-mul_left a more)

  -- at a = 0 no bound counts
  pub no_sine : a ≡ 0 → (p q : ℕ) → Accepts l r a p q ↔ l ≤ r
  no_sine e p q =
      let f : a * p ≡ 0 * p = ap (λ (k : ℕ). k * p) e in
      let g : a * q ≡ 0 * q = ap (λ (k : ℕ). k * q) e in
      (λ h. omega arith, λ h. omega arith)

-- what holds with d and with u in the place of a holds with every fraction k / s between them, whatever the sum's sign
pub between : (l r d u D f g k s : ℕ) → Spares 0 l r d D f g → Spares 0 l r u D f g → d * s ≤ k → k ≤ u * s
    → l * D * s + k * g ≤ r * D * s + k * f
between l r d u D f g k s low high least most =
    elim (dec_le g f) [
      | yes h ↦
          let j : ℕ = k - d * s in
          let e : k ≡ d * s + j = omega arith in
          let p : k * g ≡ (d * s + j) * g = ap (λ (n : ℕ). n * g) e in
          let q : k * f ≡ (d * s + j) * f = ap (λ (n : ℕ). n * f) e in
          omega (arith, mul-le-mul_right s low, mul-le-mul_left j h)
      | no n ↦
          let j : ℕ = u * s - k in
          let e : u * s ≡ k + j = omega arith in
          let p : u * s * g ≡ (k + j) * g = ap (λ (n : ℕ). n * g) e in
          let q : u * s * f ≡ (k + j) * f = ap (λ (n : ℕ). n * f) e in
          omega (arith, mul-le-mul_right s high, mul-le-mul_left j (le_of_lt (lt_of_not-le n)))
    ]
