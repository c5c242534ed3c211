-- R77, R80: what is handed over, of either method and on either side: it is within its limits, a zero is plus zero, and the mirror's
-- is its negative. Assumes nothing.
use mathlib.Core.Path.{◌≡◌, refl, sym, ap, ◌∙◌}
use mathlib.Core.Bool.{Bool, true, false, not, ◌||◌, ◌&&◌, cond, beq, true≢false}
use Prim.Native.Nat.{◌*◌}
use native.Mathlib.Nat.{zero-mul}
use lib.Dec.{eqb}
use lib.Ieee.{Float, nan, inf, fin, up, down, neg, eq}
use Rattle.grid.specs.Grid.{T_units}
use Rattle.units.specs.Units.{mirror_double, off_range}
use Rattle.step.specs.Step.{plus_zero, flat, handed_over, taken, step_estimate, mirror_taken}
use Rattle.step.specs.declared.Taken.{Taken}
use Rattle.step.specs.declared.Taken.TheVariants.{Flat}

again : (s : Bool) → not (not s) ≡ s
again true = refl
again false = refl

-- negated twice
pub mirror_twice : (mirrored : Bool) (x : Float) → mirror_double mirrored (mirror_double mirrored x) ≡ x
unfolding neg
mirror_twice false x = refl
mirror_twice true nan = refl
mirror_twice true (inf s) = ap inf (again s)
mirror_twice true (fin s m e) = ap (λ (t : Bool). fin t m e) (again s)

-- either sign of a number that is zero, and neither of one that is not
either_sign : (s t z : Bool) → z && (beq s t || z) ≡ z
either_sign true true true = refl
either_sign true false true = refl
either_sign false true true = refl
either_sign false false true = refl
either_sign s t false = refl

pub zero_alike : (mirrored : Bool) (x : Float) → eq (mirror_double mirrored x) plus_zero ≡ eq x plus_zero
unfolding neg eq
zero_alike false x = refl
zero_alike true nan = refl
zero_alike true (inf s) = refl
zero_alike true (fin s m e) =
    rw (zero-mul (down e)) (either_sign (not s) false (eqb (m * up e * 1) 0) ∙ sym (either_sign s false (eqb (m * up e * 1) 0)))

-- what is known of a test, where it fails
right_fails : (s t : Bool) → s || t ≡ false → t ≡ false
right_fails true t e = absurd (true≢false e)
right_fails false t e = e

plus_zero_within : (mirrored : Bool) → off_range T_units (mirror_double mirrored plus_zero) ≡ false
unfolding off_range neg
plus_zero_within true = refl
plus_zero_within false = refl

-- what is handed over of y, by whether y is a zero
module _ (mirrored : Bool) (y : Float) where
  within_by : (z : Bool) → off_range T_units y ≡ false → off_range T_units (mirror_double mirrored (cond z plus_zero (mirror_double mirrored y))) ≡ false
  within_by false e = ap (off_range T_units) (mirror_twice mirrored y) ∙ e
  within_by true e = plus_zero_within mirrored

  zero_by : (z : Bool) → eq y plus_zero ≡ z →
      let h = cond z plus_zero (mirror_double mirrored y) in eq h plus_zero ≡ true → h ≡ plus_zero
  zero_by true e f = refl
  zero_by false e f = absurd (true≢false (sym f ∙ zero_alike mirrored y ∙ e))

  again_by : (z : Bool) → eq y plus_zero ≡ z →
      let h = cond z plus_zero y in handed_over mirrored h ≡ cond z plus_zero (mirror_double mirrored y)
  unfolding eq
  again_by true e = refl
  again_by false e = ap (λ (z : Bool). cond z plus_zero (mirror_double mirrored y)) e

-- of a step of either method, by whether it is flat
module _ (method : Float → Taken) (told : (y : Float) → step_estimate (method y) ≡ y) (mirrored : Bool) (divisor y : Float) where
  abbrev by : Bool → Taken
  by f = cond f Flat (method (handed_over mirrored y))

  within_flat : (f : Bool) → flat divisor y ≡ f → off_range T_units (mirror_double mirrored (step_estimate (by f))) ≡ false
  within_flat true e = plus_zero_within mirrored
  within_flat false e =
      ap (λ (x : Float). off_range T_units (mirror_double mirrored x)) (told (handed_over mirrored y))
      ∙ within_by mirrored y (eq y plus_zero) (right_fails (eq divisor plus_zero) (off_range T_units y) e)

  -- it is within its limits on M's side
  pub taken_within : off_range T_units (mirror_double mirrored (step_estimate (taken method mirrored divisor y))) ≡ false
  taken_within = within_flat (flat divisor y) refl

  zero-flat : (f : Bool) → eq (step_estimate (by f)) plus_zero ≡ true → step_estimate (by f) ≡ plus_zero
  zero-flat true e = refl
  zero-flat false e =
      told (handed_over mirrored y)
      ∙ zero_by mirrored y (eq y plus_zero) refl (sym (ap (λ (x : Float). eq x plus_zero) (told (handed_over mirrored y))) ∙ e)

  -- a zero is plus zero
  pub taken-zero : let x = step_estimate (taken method mirrored divisor y) in eq x plus_zero ≡ true → x ≡ plus_zero
  taken-zero = zero-flat (flat divisor y)

-- on the mirror it is the other side's, mirrored
pub taken_mirrored : (method : Float → Taken) → ((y : Float) → mirror_taken (method y) ≡ method (handed_over true y)) → (divisor y : Float) →
    taken method true divisor y ≡ mirror_taken (taken method false divisor y)
taken_mirrored method told divisor y = by_flat (flat divisor y)
  where
    by_flat : (f : Bool) → cond f Flat (method (handed_over true y)) ≡ mirror_taken (cond f Flat (method (handed_over false y)))
    by_flat true = refl
    by_flat false = sym (told (handed_over false y) ∙ ap method (again_by true y (eq y plus_zero) refl))
