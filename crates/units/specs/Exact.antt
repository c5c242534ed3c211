-- What is exact about a double in units, R41 and R60: its value, the product, and the floor and ceiling.
use Rattle.std.specs.Prelude.{◌≡◌, ℕ, ◌+◌, ◌*◌, ◌<◌, ◌≤◌, false, not, T, ◌↔◌, ℤ, pos, ◌*ℤ◌, Float}
use Rattle.std.specs.Float.{nan, inf, fin}
use Rattle.std.specs.Float.Ieee.{up, down}
use Rattle.whole.specs.Sign.{signed_by}
use Rattle.grid.specs.Grid.{one, T_units}

-- R41: the units in one radian, 2^28, as a double
abbrev pub radian : Float
radian = fin false 1 (pos 28)

-- R41: the double x is a / c, and not below zero: `fin s m exp` is m 2^exp, and up exp / down exp is 2^exp
abbrev pub Value : Float → ℕ → ℕ → Type 0
Value nan a c = ⊥
Value (inf s) a c = ⊥
Value (fin s m exp) a c = (T s → m ≡ 0) × (m * up exp * c ≡ a * down exp)

-- R60: the double x is p / q units, with its sign; s is `true` for a minus sign
abbrev pub InUnits : Float → ℤ → ℕ → Type 0
InUnits nan p q = ⊥
InUnits (inf s) p q = ⊥
InUnits (fin s m exp) p q = (pos (down exp) *ℤ p) ≡ (pos (one * q) *ℤ signed_by (not s) (pos (m * up exp)))

-- R41: f and c are a / d rounded down and up; they are equal exactly where the quotient is whole, and neither is above the top
pub record RoundedUpTo (top a d f c : ℕ) : Type 0 where
  pub floor_least : f * d ≤ a
  pub floor_most : a < (f + 1) * d
  pub ceiling_least : a ≤ c * d
  pub ceiling_most : c * d < a + d
  pub ordered : f ≤ c
  pub next : c ≤ f + 1
  pub exactly : c ≡ f ↔ a ≡ f * d
  pub limit : c ≤ top

-- R41: of an orbit's estimate, whose top is T
abbrev pub Rounded : ℕ → ℕ → ℕ → ℕ → Type 0
Rounded = RoundedUpTo T_units
