-- What is given is itself possible: M and A of the grid, and the values that two doubles are, lie in their cell. Assumes nothing.
use mathlib.Core.Path.{◌≡◌, refl}
use mathlib.Core.Bool.{Bool, true, false, true≢false}
use Prim.Native.Nat.{ℕ, zero, suc, ◌*◌, ◌≤◌}
use native.Mathlib.Omega.{arith}
use borrow.Author.Tests.{lt-ltb}
use native.Mathlib.Nat.{zero-lt-suc}
use lib.IntN.{pos}
use lib.Signed.{◌≤ℤ◌}
use lib.Ieee.{Float, nan, inf, fin, neg, up, down}
use lib.Ieee.Positive.{den, den_pos}
use Rattle.whole.proofs.Parts.{shift, is_pos, is_neg, is_mul}
use Rattle.whole.proofs.Order.{le_parts, one_number}
use Rattle.whole.proofs.Round.{down_le, le_up}
use Rattle.whole.proofs.CodeRoom.{sized}
use Rattle.grid.specs.Grid.{one, H_units}
use Rattle.grid.specs.Codes.{Passed}
use Rattle.units.specs.Units.{mirror_double, is_below_zero, product, off_range}
use Rattle.units.specs.Exact.{InUnits}
use Rattle.orbit.specs.Mirror.{mirror}
use Rattle.orbit.specs.Given.{Given, grid, doubles, checks_of, exact_of, Possible}

-- mirrored twice is not mirrored
pub back : (mirrored : Bool) (X : ℕ) → mirror mirrored (mirror mirrored (pos X)) ≡ pos X
back false X = refl
back true zero = refl
back true (suc X) = refl

pub pos_le : {a b : ℕ} → a ≤ b → pos a ≤ℤ pos b
pos_le {a} {b} h = (le_parts (is_pos a) (is_pos b)).1 (omega arith)

-- a double and its mirror have one size
pub same_size : (t : Bool) (x : Float) → (product (mirror_double t x) ≡ product x) × (den (mirror_double t x) ≡ den x)
unfolding neg
same_size false x = (refl, refl)
same_size true nan = (refl, refl)
same_size true (inf s) = (refl, refl)
same_size true (fin s m e) = (refl, refl)

pub own_possible : (g : Given) → Possible g (exact_of g)
own_possible (grid m a) =
    record {
      over_q = omega arith;
      over_s = omega arith;
      m_least = rw (sized m) (pos_le (omega arith));
      m_most = rw (sized m) (pos_le (omega arith));
      a_least = omega arith;
      a_most = omega arith;
    }
own_possible (doubles m e) =
    let t = is_below_zero m in
    let (products, dens) = same_size t m in
    record {
      over_q = den_pos m;
      over_s = den_pos e;
      m_least = rw (back t (product m), products, dens) (pos_le (down_le (product m) (den m)));
      m_most = rw (back t (product m), products, dens) (pos_le (le_up (product m) (den m) (den_pos m)));
      a_least = down_le (product e) (den e);
      a_most = le_up (product e) (den e) (den_pos e);
    }

-- ---- the doubles' values

-- of a double in range, or on the mirror of one whose negative is, the fraction is what it is, with its sign
pub signed_value : (limit : ℕ) (mirrored : Bool) (x : Float) → off_range limit (mirror_double mirrored x) ≡ false
    → InUnits x (mirror mirrored (pos (product x))) (den x)
unfolding off_range neg
signed_value limit false nan h = absurd (true≢false h)
signed_value limit false (inf s) h = absurd (true≢false h)
signed_value limit false (fin false m e) h =
    one_number (is_mul (down e) (is_pos (product (fin false m e)))) (shift (is_mul (one * down e) (is_pos (m * up e))) (omega arith))
signed_value limit false (fin true zero e) h =
    one_number (is_mul (down e) (is_pos (one * (0 * up e)))) (shift (is_mul (one * down e) (is_neg (is_pos (0 * up e)))) (omega arith))
signed_value limit false (fin true (suc m) e) h = absurd (true≢false (simp (lt-ltb 0 (suc m) (zero-lt-suc m)) at h))
signed_value limit true nan h = absurd (true≢false h)
signed_value limit true (inf s) h = absurd (true≢false h)
signed_value limit true (fin true m e) h =
    one_number (is_mul (down e) (is_neg (is_pos (product (fin true m e))))) (shift (is_mul (one * down e) (is_neg (is_pos (m * up e)))) (omega arith))
signed_value limit true (fin false zero e) h =
    one_number (is_mul (down e) (is_neg (is_pos (one * (0 * up e))))) (shift (is_mul (one * down e) (is_pos (0 * up e))) (omega arith))
signed_value limit true (fin false (suc m) e) h = absurd (true≢false (simp (lt-ltb 0 (suc m) (zero-lt-suc m)) at h))

pub own_value : (m e : Float) → Passed (checks_of (doubles m e))
    → let o = exact_of (doubles m e) in InUnits m o.p o.q × InUnits e (pos o.r) o.s
own_value m e p = (signed_value H_units (is_below_zero m) m p.0, signed_value one false e p.1.0)
