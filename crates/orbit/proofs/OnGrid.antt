-- A double that is a whole number of units: its sign, its check and its rounding are those of the number. Assumes nothing.
use mathlib.Core.Path.{◌≡◌, refl, sym, ap₂, subst}
use mathlib.Core.Bool.{true, false}
use Prim.Native.Nat.{ℕ, zero, suc, ◌+◌, ◌*◌, ◌<◌}
use native.Mathlib.Nat.{le_of_eq, mul-lt-mul_of_pos_right, lt_of_mul-lt-mul_right}
use native.Mathlib.Omega.{arith}
use borrow.Author.Tests.{lt-ltb}
use lib.Dec.{ltb, ltb→lt, lt→ltb}
use lib.IntN.{ℤ, pos, negsuc, nat_abs}
use lib.Ieee.{Float, nan, inf, fin, neg, up, down}
use lib.Ieee.Fits.{up_pos, down_pos}
use Rattle.whole.specs.Sign.{negative}
use Rattle.whole.specs.Round as round
use Rattle.whole.proofs.Bools.{alike}
use Rattle.whole.proofs.Parts.{Is, own, is_pos, is_neg, is_mul}
use Rattle.whole.proofs.Round.{le_down, up_le, down-le-up}
use Rattle.grid.specs.Grid.{one}
use Rattle.units.specs.Units.{is_below_zero, floor_and_ceiling, off_range}
use Rattle.units.specs.Exact.{InUnits}
use Rattle.units.specs.declared.Units.{Units}
use Rattle.orbit.specs.Given.{size_of}

-- ---- a product that is k times its denominator

module _ (a d k : ℕ) (some : 0 < d) (e : a ≡ k * d) where
  down_is : round.down a d ≡ k
  down_is =
      let h = le_down k a d some (le_of_eq (sym e)) in
      let l = down-le-up a d some in
      let m = up_le k a d some (le_of_eq e) in
      omega arith

  up_is : round.up a d ≡ k
  up_is = let h = up_le k a d some (le_of_eq e) in let l = down-le-up a d some in let m = down_is in omega arith

  over_is : (limit : ℕ) → ltb (limit * d) a ≡ ltb limit k
  over_is limit =
      alike (ltb (limit * d) a) (ltb limit k)
      (λ t. lt→ltb limit k (lt_of_mul-lt-mul_right d (subst (λ (n : ℕ). limit * d < n) e (ltb→lt (limit * d) a t))))
      (λ t. lt→ltb (limit * d) a (subst (λ (n : ℕ). limit * d < n) (sym e) (mul-lt-mul_of_pos_right (ltb→lt limit k t) some)))

-- ---- of a double

-- what is known of a double that is z units
pub record WholeUnits (x : Float) (z : ℤ) : Type 0 where
  pub sign : is_below_zero x ≡ negative z
  pub off : (limit : ℕ) → off_range limit (size_of x) ≡ ltb limit (nat_abs z)
  pub rounded : floor_and_ceiling (size_of x) ≡ record { floor = nat_abs z; ceiling = nat_abs z }

-- one number by two pairs of naturals
equal_parts : {y z : ℤ} {a b c d : ℕ} → Is y a b → Is z c d → y ≡ z → a + d ≡ c + b
equal_parts {y} {z} {a} {b} i j e =
    let f = (subst (λ (w : ℤ). Is w a b) e i).eq in let g = j.eq in omega arith

pair : {a b k : ℕ} → a ≡ k → b ≡ k → ◌≡◌ {A = Units} record { floor = a; ceiling = b } record { floor = k; ceiling = k }
pair p q = ap₂ (λ (f c : ℕ). record { floor = f; ceiling = c }) p q

pub whole_units : (x : Float) (z : ℤ) → InUnits x z 1 → WholeUnits x z
unfolding is_below_zero off_range neg
whole_units nan z e = absurd e
whole_units (inf s) z e = absurd e
whole_units (fin false m g) (pos k) e =
    let h = equal_parts (is_mul (down g) (is_pos k)) (is_mul (one * 1) (is_pos (m * up g))) e in
    let p : one * (m * up g) ≡ k * down g = omega arith in
    let d = down_pos g in
    record { sign = refl; off = over_is _ _ k d p; rounded = pair (down_is _ _ k d p) (up_is _ _ k d p) }
whole_units (fin false m g) (negsuc k) e =
    let h = equal_parts (is_mul (down g) (own (negsuc k))) (is_mul (one * 1) (is_pos (m * up g))) e in
    let d = down_pos g in
    absurd (let z : ⊥ = omega arith in z)
whole_units (fin true zero g) (pos k) e =
    let h = equal_parts (is_mul (down g) (is_pos k)) (is_mul (one * 1) (is_neg (is_pos (0 * up g)))) e in
    let p : one * (0 * up g) ≡ k * down g = omega arith in
    let d = down_pos g in
    record { sign = refl; off = over_is _ _ k d p; rounded = pair (down_is _ _ k d p) (up_is _ _ k d p) }
whole_units (fin true (suc m) g) (pos k) e =
    let h = equal_parts (is_mul (down g) (is_pos k)) (is_mul (one * 1) (is_neg (is_pos (suc m * up g)))) e in
    let u = up_pos g in
    absurd (let z : ⊥ = omega arith in z)
whole_units (fin true zero g) (negsuc k) e =
    let h = equal_parts (is_mul (down g) (own (negsuc k))) (is_mul (one * 1) (is_neg (is_pos (0 * up g)))) e in
    let d = down_pos g in
    absurd (let z : ⊥ = omega arith in z)
whole_units (fin true (suc m) g) (negsuc k) e =
    let h = equal_parts (is_mul (down g) (own (negsuc k))) (is_mul (one * 1) (is_neg (is_pos (suc m * up g)))) e in
    let p : one * (suc m * up g) ≡ suc k * down g = omega arith in
    let d = down_pos g in
    let below = lt-ltb 0 (suc m) (omega arith) in
    record {
      sign = below;
      off = λ limit. rw below (over_is _ _ (suc k) d p limit);
      rounded = rw below (pair (down_is _ _ (suc k) d p) (up_is _ _ (suc k) d p));
    }
