-- One step of Newton or Halley in binary64, R75 to R77, of a problem of the grid as it is posed.
use Rattle.std.specs.Prelude.{ℕ, Bool, true, false, ◌||◌, cond, eqb, ℤ, pos, Float}
use Rattle.std.specs.Float.{fin, binary64}
use Rattle.std.specs.Float.Ieee.{of_int, sub, mul, div, eq}
use Rattle.grid.specs.Grid.{T_units, depths}
use Rattle.series.specs.Sine.{Lo}
use Rattle.cosine.specs.Cosine.{CosLo}
use Rattle.units.specs.Units.{mirror_double, off_range}
use Rattle.units.specs.Exact.{radian}
use Rattle.step.specs.declared.Local.{Local}
use Rattle.step.specs.declared.Taken.{Taken}
use Rattle.step.specs.declared.Taken.TheVariants.{Newton, Halley, Flat}

infixl 20 ◌⊖◌
infixl 30 ◌⊗◌ ◌⊘◌
-- R75: binary64's difference, product and quotient, each rounded once, to nearest and at a tie to even
abbrev pub ◌⊖◌ : Float → Float → Float
x ⊖ y = sub binary64 x y

abbrev pub ◌⊗◌ : Float → Float → Float
x ⊗ y = mul binary64 x y

abbrev pub ◌⊘◌ : Float → Float → Float
x ⊘ y = div binary64 x y

-- R76: 1, 2 and plus zero as doubles
abbrev pub unit : Float
unit = fin false 1 (pos 0)

abbrev pub two : Float
two = fin false 1 (pos 1)

abbrev pub plus_zero : Float
plus_zero = fin false 0 (pos 0)

-- R75: z units in radians, z / 2^28
abbrev pub in_radians : ℤ → Float
in_radians z = of_int binary64 z ⊘ radian

-- R75, R76: E = x, whose floor in units is f, with g = e s, F = (E - m) - g and D = 1 - e k
unfoldable pub local_at : ℕ → ℕ → Float → ℕ → Local
local_at m a x f =
    let e = in_radians (pos a) in
    let g = e ⊗ in_radians (Lo f depths) in
    record {
      estimate = x;
      g = g;
      residual = (x ⊖ in_radians (pos m)) ⊖ g;
      slope = unit ⊖ (e ⊗ in_radians (CosLo f depths));
    }

-- R76: Newton's new estimate; its divisor is D
abbrev pub newton_new : Local → Float
newton_new t = t.estimate ⊖ (t.residual ⊘ t.slope)

-- R76: Halley's divisor and new estimate
abbrev pub halley_divisor : Local → Float
halley_divisor t = ((two ⊗ t.slope) ⊗ t.slope) ⊖ (t.residual ⊗ t.g)

abbrev pub halley_new : Local → Float
halley_new t = t.estimate ⊖ (((two ⊗ t.residual) ⊗ t.slope) ⊘ halley_divisor t)

-- R77: whether nothing is handed over: the divisor is zero, or the new estimate would get code 4
abbrev pub flat : Float → Float → Bool
flat divisor y = eq divisor plus_zero || off_range T_units y

-- R59, R77: what is handed over: a zero as plus zero, any other number mirrored back
abbrev pub handed_over : Bool → Float → Float
handed_over mirrored y = cond (eq y plus_zero) plus_zero (mirror_double mirrored y)

-- R77: Flat, or a method's case with what is handed over
abbrev pub taken : (Float → Taken) → Bool → Float → Float → Taken
taken method mirrored divisor y = cond (flat divisor y) Flat (method (handed_over mirrored y))

-- R77: Newton's step and Halley's
abbrev pub newton_step : Bool → Local → Taken
newton_step mirrored t = taken Newton mirrored t.slope (newton_new t)

abbrev pub halley_step : Bool → Local → Taken
halley_step mirrored t = taken Halley mirrored (halley_divisor t) (halley_new t)

-- R78: the step of a method that is 1 or 2
abbrev pub step_by : ℕ → Bool → Local → Taken
step_by method mirrored t = cond (eqb method 1) (newton_step mirrored t) (halley_step mirrored t)

-- R77: the number of a step
abbrev pub step_number : Taken → ℕ
step_number (Newton y) = 1
step_number (Halley y) = 2
step_number Flat = 3

-- R77: the estimate beside that number
abbrev pub step_estimate : Taken → Float
step_estimate (Newton y) = y
step_estimate (Halley y) = y
step_estimate Flat = plus_zero

-- R59: a step mirrored: its estimate becomes its negative, and zero stays plus zero
abbrev pub mirror_taken : Taken → Taken
mirror_taken (Newton y) = Newton (handed_over true y)
mirror_taken (Halley y) = Halley (handed_over true y)
mirror_taken Flat = Flat
