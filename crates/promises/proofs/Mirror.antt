-- The mirror's laws of numbers and of pairs of ends, R59, by which the promises go over from a problem not below 0 to either sign
-- of M. Assumes nothing.
use mathlib.Core.Path.{◌≡◌, refl, sym, ap, ◌∙◌}
use mathlib.Core.Bool.{Bool, true, false, not, true≢false}
use Prim.Native.Nat.{ℕ, zero, suc, ◌+◌, ◌-◌, ◌≤◌, ◌<◌}
use native.Mathlib.Omega.{arith}
use borrow.Author.Tests.{le-ltb}
use lib.IntN.{ℤ, pos, negsuc, neg_ℤ, nat_abs}
use lib.Signed.{◌≤ℤ◌}
use Rattle.whole.specs.Sign.{negative}
use Rattle.whole.proofs.Parts.{shift, is_pos, is_neg, is_add, is_minus}
use Rattle.whole.proofs.Order.{le_parts, one_number}
use Rattle.whole.proofs.CodeRoom.{size_sign}
use Rattle.grid.specs.Grid.{T_units}
use Rattle.grid.specs.Codes.{signed_x_check}
use Rattle.grid.proofs.Fits.{signed_fits}
use Rattle.orbit.specs.Mirror.{mirror, mirror_end}
use Rattle.orbit.proofs.Possible.{back, pos_le}
use Rattle.enclosure.specs.Enclosure.{mirror_ends}
use Rattle.promises.specs.Demand2.{inward}
use Rattle.promises.specs.Demand3.{Within}

-- ---- numbers

pub at_0 : (mirrored : Bool) → mirror mirrored (pos 0) ≡ pos 0
at_0 false = refl
at_0 true = refl

-- X is the mirror of an angle
pub record Side (mirrored : Bool) (X : ℤ) : Type 0 where
  pub sign : X ≡ mirror mirrored (pos (nat_abs X))
  pub angle : nat_abs X ≤ T_units

pub side_of : (mirrored : Bool) (X : ℕ) → X ≤ T_units → Side mirrored (mirror mirrored (pos X))
side_of mirrored X h =
    let e = size_sign (not mirrored) (pos X) in
    record { sign = ap (λ (n : ℕ). mirror mirrored (pos n)) (sym e); angle = rw e h }

-- as the check says
pub check_side : (mirrored : Bool) (X : ℤ) → (signed_x_check (mirror mirrored X)).fails ≡ false → Side mirrored X
check_side mirrored X e =
    let w = signed_fits (mirror mirrored X) e in
    record { sign = on_side mirrored X w.0; angle = rw (size_sign (not mirrored) X) at w.1 }
  where
    on_side : (t : Bool) (X : ℤ) → negative (mirror t X) ≡ false → X ≡ mirror t (pos (nat_abs X))
    on_side false (pos n) e = refl
    on_side false (negsuc n) e = absurd (true≢false e)
    on_side true (pos zero) e = refl
    on_side true (pos (suc n)) e = absurd (true≢false e)
    on_side true (negsuc n) e = refl

pub side_checks : (mirrored : Bool) (X : ℤ) → Side mirrored X → (signed_x_check (mirror mirrored X)).fails ≡ false
side_checks mirrored X s =
    ap (λ (z : ℤ). (signed_x_check z).fails) (ap (mirror mirrored) s.sign ∙ back mirrored (nat_abs X)) ∙ le-ltb T_units (nat_abs X) s.angle

-- ---- order

pub neg-le : {a b : ℕ} → a ≤ b → neg_ℤ (pos b) ≤ℤ neg_ℤ (pos a)
neg-le {a} {b} h = (le_parts (is_neg (is_pos b)) (is_neg (is_pos a))).1 (omega arith)

-- ---- two ends

module _ (a b : ℕ) where
  -- what holds of each end of the problem that was posed, mirrored back, holds of the ends answered
  pub each_end : (mirrored : Bool) (P : Bool → ℤ → Type 0)
      → P (mirror_end mirrored false) (mirror mirrored (pos a)) → P (mirror_end mirrored true) (mirror mirrored (pos b))
      → P false (mirror_ends mirrored a b).lower × P true (mirror_ends mirrored a b).upper
  each_end false P p q = (p, q)
  each_end true P p q = (q, p)

  pub in_order : (mirrored : Bool) → a ≤ b → (mirror_ends mirrored a b).lower ≤ℤ (mirror_ends mirrored a b).upper
  in_order false h = pos_le h
  in_order true h = neg-le h

  pub inside : (c d : ℕ) (mirrored : Bool) → c ≤ a → b ≤ d → Within (mirror_ends mirrored a b) (mirror_ends mirrored c d)
  inside c d false h k = record { lower = pos_le h; upper = pos_le k }
  inside c d true h k = record { lower = neg-le k; upper = neg-le h }

-- ---- one unit further in

-- on the problem that was posed: a lower end moves up, an upper end down
abbrev pub further : Bool → ℕ → ℕ
further true X = X - 1
further false X = X + 1

pub inward_mirrored : (mirrored upper : Bool) (X : ℕ) → (upper ≡ true → 0 < X)
    → inward (mirror_end mirrored upper) (mirror mirrored (pos X)) ≡ mirror mirrored (pos (further upper X))
inward_mirrored false false X some = refl
inward_mirrored false true X some =
    let h = some refl in one_number (is_minus (is_pos X) (is_pos 1)) (shift (is_pos (X - 1)) (omega arith))
inward_mirrored true false X some =
    one_number (is_minus (is_neg (is_pos X)) (is_pos 1)) (shift (is_neg (is_pos (X + 1))) (omega arith))
inward_mirrored true true X some =
    let h = some refl in one_number (is_add (is_neg (is_pos X)) (is_pos 1)) (shift (is_neg (is_pos (X - 1))) (omega arith))
