-- Which problems have the same answers, R60, and which have answers that mirror each other's, R59: an entry's answer goes by the
-- checks of M and A, the mark and the cell alone. Assumes nothing.
use mathlib.Core.Path.{◌≡◌, refl, sym, ap, ap₂, ◌∙◌}
use mathlib.Core.Bool.{Bool, true, false, true≢false}
use Prim.Native.Nat.{ℕ, ◌*◌, ◌^◌, ◌<◌}
use native.Mathlib.Omega.{arith}
use lib.Dec.{T, lit≤}
use lib.IntN.{ℤ, pos, negsuc, nat_abs}
use lib.Ieee.{Float, nan, inf, fin, binary64, up, down, fits, neg}
use lib.Ieee.Fits.{round-fits}
use lib.Ieee.Exact.{HasValue}
use Rattle.whole.specs.Sign.{negative}
use Rattle.whole.proofs.Parts.{own, shift, is_pos, is_neg, is_mul}
use Rattle.whole.proofs.Order.{one_number}
use Rattle.whole.proofs.CodeRoom.{size_sign}
use Rattle.grid.specs.Grid.{one, H_units}
use Rattle.grid.proofs.Refuses.{through}
use Rattle.units.specs.Units.{mirror_double, is_below_zero, floor_and_ceiling, off_range}
use Rattle.units.specs.Exact.{InUnits}
use Rattle.units.specs.declared.Units.{Units}
use Rattle.units.proofs.Scaled.{over_power}
use Rattle.orbit.specs.Given.{Given, grid, doubles, size_of, is_bad_m, is_bad_a, checks_of, mirrored_of, cell_of}
use Rattle.orbit.specs.Cell.{Cell}
use Rattle.orbit.proofs.Possible.{own_possible, own_value}
use Rattle.orbit.proofs.OnGrid.{whole_units}
use Rattle.enclosure.specs.Enclosure.{refusal, enclosed, enclosure_checks}
use Rattle.proposal.specs.Propose.{proposed, mirror_candidate, mirror_proposal, proposal_as, proposal_refused, proposal_rule}
use Rattle.judge.specs.Judge.{judge_rule}
use Rattle.judge.specs.Settle.{settle_rule}
use Rattle.distance.specs.Distance.{distance_rule}
use Rattle.promises.specs.Alike.{exchanged, Same, Mirrors}
use Rattle.promises.specs.Further.{units_double, Mirrored, Doubles}

-- two problems whose checks and cells are the same
record AlikeIn (g h : Given) : Type 0 where
  m : is_bad_m g ≡ is_bad_m h
  a : is_bad_a g ≡ is_bad_a h
  cell : cell_of g ≡ cell_of h

module _ {g h : Given} (e : AlikeIn g h) where
  same : mirrored_of g ≡ mirrored_of h → Same g h
  unfolding proposal_rule judge_rule settle_rule distance_rule
  same t =
      record {
        ends = λ upper x d. simp (e.m, e.a, e.cell, t);
        enclose = λ d. simp (e.m, e.a, e.cell, t);
        propose = simp (e.m, e.a, e.cell, t);
        judge = λ x n d. simp (e.m, e.a, e.cell, t);
        settle = λ x n. simp (e.m, e.a, e.cell, t);
        distance = λ x. simp (e.m, e.a, e.cell, t);
      }

  -- a refusal is its own mirror, so that `through` serves
  mirrors : mirrored_of g ≡ true → mirrored_of h ≡ false → Mirrors g h
  unfolding proposal_rule judge_rule settle_rule distance_rule
  mirrors t f =
      record {
        ends = λ upper x d. simp (e.m, e.a, e.cell, t, f, size_sign false x);
        enclose = λ d. rw (e.m, e.a, e.cell, t, f) (sym (through exchanged refusal (enclosed false (cell_of h) d) (enclosure_checks h d)));
        propose =
            rw (e.m, e.a, e.cell, t, f)
            (sym (through (mirror_proposal true) proposal_refused (proposal_as (mirror_candidate false (proposed (cell_of h)))) (checks_of h)));
        judge = λ x n d. simp (e.m, e.a, e.cell, t, f);
        settle = λ x n. simp (e.m, e.a, e.cell, t, f);
        distance = λ x. simp (e.m, e.a, e.cell, t, f);
      }

-- ---- the mirror

-- a double below 0, and its negative
not_below : (x : Float) → is_below_zero x ≡ true → is_below_zero (neg x) ≡ false
unfolding is_below_zero neg
not_below nan t = refl
not_below (inf true) t = refl
not_below (inf false) t = absurd (true≢false (sym t))
not_below (fin true n g) t = refl
not_below (fin false n g) t = absurd (true≢false (sym t))

module _ (m e : Float) (below : is_below_zero m ≡ true) where
  one_size : size_of m ≡ size_of (neg m)
  one_size = ap (λ (t : Bool). mirror_double t m) below ∙ sym (ap (λ (t : Bool). mirror_double t (neg m)) (not_below m below))

  doubles_mirrored : Mirrors (doubles m e) (doubles (neg m) e)
  doubles_mirrored =
      mirrors (record { m = ap (off_range H_units) one_size; a = refl; cell = ap cell_from one_size }) below (not_below m below)
    where
      cell_from : Float → Cell
      cell_from x = record { m = floor_and_ceiling x; a = floor_and_ceiling e }

pub mirrored : Mirrored
mirrored =
    record {
      on_grid = λ m a. mirrors (record { m = refl; a = refl; cell = refl }) refl refl;
      of_doubles = doubles_mirrored;
    }

-- ---- doubles on the grid

on_grid : (m e : Float) (M : ℤ) (A : ℕ) → InUnits m M 1 → InUnits e (pos A) 1 → Same (doubles m e) (grid M A)
on_grid m e M A p q =
    let u = whole_units m M p in
    let v = whole_units e (pos A) q in
    let s : size_of e ≡ e = ap (λ (t : Bool). mirror_double t e) v.sign in
    same (record {
      m = u.off H_units;
      a = ap (off_range one) (sym s) ∙ v.off one;
      cell = ap₂ (λ (x y : Units). record { m = x; a = y }) u.rounded (ap floor_and_ceiling (sym s) ∙ v.rounded);
    }) u.sign

-- a double with the sign and the size of a whole number of units
pub value_in_units : (x : Float) (z : ℤ) → HasValue x (negative z) (nat_abs z) one → InUnits x z 1
value_in_units nan z v = absurd v
value_in_units (inf s) z v = absurd v
value_in_units (fin s m e) (pos n) v =
    let h = v.1 in
    rw v.0 (one_number (is_mul (down e) (is_pos n)) (shift (is_mul (one * 1) (is_pos (m * up e))) (omega arith)))
value_in_units (fin s m e) (negsuc n) v =
    let h = v.1 in
    rw v.0 (one_number (is_mul (down e) (own (negsuc n))) (shift (is_mul (one * 1) (is_neg (is_pos (m * up e)))) (omega arith)))

every : (M : ℤ) → nat_abs M < 2 ^ 53 → T (fits binary64 (units_double M)) × InUnits (units_double M) M 1
every M few = (
  round-fits binary64 (negative M) (nat_abs M) one,
  value_in_units (units_double M) M (over_power binary64 (negative M) (nat_abs M) 28 (lit≤ tt) (lit≤ tt) few),
)

pub doubles_met : Doubles
doubles_met = record { values = own_value; possible = own_possible; on_grid = on_grid; every = every }
