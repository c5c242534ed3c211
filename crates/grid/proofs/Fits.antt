-- What a check that passed says of its number. Assumes nothing.
use mathlib.Core.Path.{◌≡◌, refl}
use mathlib.Core.Bool.{Bool, true, false}
use mathlib.Core.List.{[], ◌∷◌}
use Prim.Native.Nat.{ℕ, ◌≤◌}
use borrow.Author.Tests.{ltb-false, le-ltb}
use lib.IntN.{ℤ, nat_abs}
use Rattle.whole.specs.Sign.{negative}
use Rattle.grid.specs.Grid.{T_units, depths}
use Rattle.grid.specs.Codes.{Passed, or, limit_check, span_check, x_check, depth_check, signed_x_check}
use Rattle.grid.specs.Limits.{DepthIn}
use Rattle.grid.specs.declared.codes.Refusal.{Refusal}
use Rattle.grid.specs.declared.codes.Refusal.TheVariants.{BadDepth, BadX}

pub limit_fits : (n limit : ℕ) (k : Refusal) → (limit_check n limit k).fails ≡ false → n ≤ limit
limit_fits n limit k e = ltb-false limit n e

-- an angle whose check passed is within its limit
pub angle_in : (x : ℕ) → Passed (x_check x ∷ []) → x ≤ T_units
angle_in x p = limit_fits x T_units BadX p.0

neither : (s t : Bool) → or s t ≡ false → (s ≡ false) × (t ≡ false)
neither true t e = (e, cc)
neither false t e = (refl, e)

pub span_fits : (n least limit : ℕ) (k : Refusal) → (span_check n least limit k).fails ≡ false → (least ≤ n) × (n ≤ limit)
span_fits n least limit k e = let w = neither _ _ e in (ltb-false n least w.0, ltb-false limit n w.1)

pub span_passes : (n least limit : ℕ) (k : Refusal) → least ≤ n → n ≤ limit → (span_check n least limit k).fails ≡ false
span_passes n least limit k h j = simp (le-ltb n least h, le-ltb limit n j)

pub depth_fits : (d : ℕ) → (depth_check d).fails ≡ false → DepthIn d
depth_fits d e = let w = span_fits d 1 depths BadDepth e in record { some = w.0; few = w.1 }

pub depth_passes : (d : ℕ) → 1 ≤ d → d ≤ depths → (depth_check d).fails ≡ false
depth_passes d some few = span_passes d 1 depths BadDepth some few

-- a number with its sign that is an angle
pub signed_fits : (z : ℤ) → (signed_x_check z).fails ≡ false → (negative z ≡ false) × (nat_abs z ≤ T_units)
signed_fits z e = let w = neither _ _ e in (w.0, ltb-false T_units (nat_abs z) w.1)
