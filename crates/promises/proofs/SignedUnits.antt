-- f and c with the sign of M are the floor and the ceiling of the estimate. Assumes nothing.
use mathlib.Core.Path.{◌≡◌, subst}
use mathlib.Core.Bool.{Bool, true, false}
use Prim.Native.Nat.{ℕ}
use native.Mathlib.Omega.{arith}
use lib.IntN.{pos, ◌+ℤ◌, ◌-ℤ◌, ◌*ℤ◌}
use lib.Signed.{◌≤ℤ◌, ◌<ℤ◌}
use lib.Ieee.{Float}
use lib.Ieee.Positive.{den, den_pos}
use Rattle.whole.proofs.Parts.{is_pos, is_neg, is_add, is_minus, is_mul_right}
use Rattle.whole.proofs.Order.{le_parts, lt_parts}
use Rattle.grid.specs.Grid.{T_units}
use Rattle.units.specs.Units.{mirror_double, product, estimate_check}
use Rattle.units.specs.Exact.{Rounded}
use Rattle.units.specs.declared.Units.{Units}
use Rattle.units.proofs.Rounding.{passed_rounded}
use Rattle.orbit.specs.Mirror.{mirror}
use Rattle.orbit.specs.Given.{Given, mirrored_of}
use Rattle.orbit.proofs.Possible.{same_size, signed_value}
use Rattle.distance.specs.Distance.{units_of}
use Rattle.promises.specs.SignedUnits.{signed_floor, signed_ceiling, floor_of, ceiling_of, value_of, SignedRounded}

-- of the size p / q
module _ (p q : ℕ) (u : Units) (r : Rounded p q u.floor u.ceiling) where
  floor_below : (mirrored : Bool) → (signed_floor mirrored u *ℤ pos q) ≤ℤ mirror mirrored (pos p)
  floor_below false = (le_parts (is_mul_right q (is_pos u.floor)) (is_pos p)).1 (let h = r.floor_least in omega arith)
  floor_below true = (le_parts (is_mul_right q (is_neg (is_pos u.ceiling))) (is_neg (is_pos p))).1 (let h = r.ceiling_least in omega arith)

  floor_next : (mirrored : Bool) → mirror mirrored (pos p) <ℤ ((signed_floor mirrored u +ℤ pos 1) *ℤ pos q)
  floor_next false = (lt_parts (is_pos p) (is_mul_right q (is_add (is_pos u.floor) (is_pos 1)))).1 (let h = r.floor_most in omega arith)
  floor_next true =
      (lt_parts (is_neg (is_pos p)) (is_mul_right q (is_add (is_neg (is_pos u.ceiling)) (is_pos 1)))).1 (let h = r.ceiling_most in omega arith)

  ceiling_above : (mirrored : Bool) → mirror mirrored (pos p) ≤ℤ (signed_ceiling mirrored u *ℤ pos q)
  ceiling_above false = (le_parts (is_pos p) (is_mul_right q (is_pos u.ceiling))).1 (let h = r.ceiling_least in omega arith)
  ceiling_above true = (le_parts (is_neg (is_pos p)) (is_mul_right q (is_neg (is_pos u.floor)))).1 (let h = r.floor_least in omega arith)

  ceiling_before : (mirrored : Bool) → ((signed_ceiling mirrored u -ℤ pos 1) *ℤ pos q) <ℤ mirror mirrored (pos p)
  ceiling_before false =
      (lt_parts (is_mul_right q (is_minus (is_pos u.ceiling) (is_pos 1))) (is_pos p)).1 (let h = r.ceiling_most in omega arith)
  ceiling_before true =
      (lt_parts (is_mul_right q (is_minus (is_neg (is_pos u.floor)) (is_pos 1))) (is_neg (is_pos p))).1 (let h = r.floor_most in omega arith)

module _ (g : Given) (x : Float) (passed : (estimate_check (mirror_double (mirrored_of g) x)).fails ≡ false) where
  -- of what the mirror leaves of the estimate, by its own size
  pub size_rounded : Rounded (product x) (den x) (units_of g x).floor (units_of g x).ceiling
  size_rounded =
      let (products, dens) = same_size (mirrored_of g) x in
      let f = (units_of g x).floor in
      let c = (units_of g x).ceiling in
      subst (λ (p : ℕ). Rounded p (den x) f c) products
      (subst (λ (q : ℕ). Rounded (product (mirror_double (mirrored_of g) x)) q f c) dens (passed_rounded (mirror_double (mirrored_of g) x) passed))

  pub signed-rounded : SignedRounded x (value_of g x) (den x) (floor_of g x) (ceiling_of g x)
  signed-rounded =
      let t = mirrored_of g in
      let u = units_of g x in
      record {
        over_0 = den_pos x;
        value = signed_value T_units t x passed;
        floor_least = floor_below (product x) (den x) u size_rounded t;
        floor_most = floor_next (product x) (den x) u size_rounded t;
        ceiling_least = ceiling_above (product x) (den x) u size_rounded t;
        ceiling_most = ceiling_before (product x) (den x) u size_rounded t;
      }
