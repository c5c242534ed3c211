-- The mirror's laws of an end, R59: negating X and M exchanges the ends, so that what the tests of a problem not below 0 say
-- holds for either sign of M. Assumes nothing.
use mathlib.Core.Path.{◌≡◌, refl, sym, ap, subst, ◌∙◌}
use mathlib.Core.Bool.{Bool, true, false, not}
use Prim.Native.Nat.{ℕ, zero, suc, ◌+◌, ◌*◌, ◌≤◌}
use native.Mathlib.Omega.{arith}
use lib.Dec.{T}
use lib.IntN.{ℤ, pos, negsuc, neg_ℤ, nat_abs, neg_ℤ-neg_ℤ}
use Rattle.whole.specs.Sign.{negative}
use Rattle.whole.proofs.Parts.{Is, plus, minus, own, is_pos, is_neg, is_add, is_minus, is_mul, is_mul_right}
use Rattle.whole.proofs.Order.{le_parts}
use Rattle.grid.specs.Grid.{one, T_units, depths}
use Rattle.series.specs.Exact.{num, ratio, S}
use Rattle.orbit.specs.Cell.{Exact, InCell, grid_cell}
use Rattle.orbit.specs.Mirror.{mirror, mirror_end}
use Rattle.orbit.specs.Given.{Given, grid, mirrored_of, cell_of}
use Rattle.orbit.specs.Cell.{Cell}
use Rattle.ends.specs.Ends.{end_at}
use Rattle.ends.specs.Exact.{oddly, difference, sine_of, Meets, Spare, sum_of, ExactAt, EndSpare}
use Rattle.ends.proofs.Fractions.{cell_true, other_sum, on_grid, grid_spare}

-- ---- the sums are odd

at_0 : (upper : Bool) → (sum_of upper).at 0 ≡ pos 0
unfolding S num ratio
at_0 true = refl
at_0 false = refl

odd : (upper : Bool) (X : ℤ) → oddly (sum_of upper).at (neg_ℤ X) ≡ neg_ℤ (oddly (sum_of upper).at X)
odd upper (pos zero) = at_0 upper ∙ sym (ap neg_ℤ (at_0 upper))
odd upper (pos (suc n)) = refl
odd upper (negsuc n) = sym (neg_ℤ-neg_ℤ ((sum_of upper).at (suc n)))

-- ---- an inequality on the mirror

abbrev negated : Exact → Exact
negated o = record { p = neg_ℤ o.p; q = o.q; r = o.r; s = o.s }

-- both sides change their signs
module _ (sum : Bool) (o : Exact) (X : ℤ) where
  abbrev k : ℕ
  k = one * (sum_of sum).den * o.s

  abbrev n : ℕ
  n = o.q * o.r

  abbrev sine : ℤ
  sine = oddly (sum_of sum).at X

  difference_own : Is (difference (sum_of sum) o X) (k * (o.q * plus X + minus o.p)) (k * (o.q * minus X + plus o.p))
  difference_own = is_mul k (is_minus (is_mul_right o.q (own X)) (own o.p))

  difference-neg : Is (difference (sum_of sum) (negated o) (neg_ℤ X)) (k * (o.q * minus X + plus o.p)) (k * (o.q * plus X + minus o.p))
  difference-neg = is_mul k (is_minus (is_mul_right o.q (is_neg (own X))) (is_neg (own o.p)))

  sine_own : Is (sine_of (sum_of sum) o X) (n * plus sine) (n * minus sine)
  sine_own = is_mul n (own sine)

  sine-neg : Is (sine_of (sum_of sum) (negated o) (neg_ℤ X)) (n * minus sine) (n * plus sine)
  sine-neg = rw (odd sum X) (is_mul n (is_neg (own sine)))

  meets : (upper : Bool) → Meets upper (sum_of sum) o X → Meets (not upper) (sum_of sum) (negated o) (neg_ℤ X)
  meets true t =
      let h = (le_parts sine_own difference_own).0 t in (le_parts difference-neg sine-neg).1 (omega arith)
  meets false t =
      let h = (le_parts difference_own sine_own).0 t in (le_parts sine-neg difference-neg).1 (omega arith)

  spares : (upper : Bool) → Spare (not upper) (sum_of sum) (negated o) (neg_ℤ X) → Spare upper (sum_of sum) o X
  spares true t =
      let w = is_pos (32 * n * (sum_of sum).den) in
      let h = (le_parts (is_add difference-neg w) sine-neg).0 t in
      (le_parts (is_add sine_own w) difference_own).1 (omega arith)
  spares false t =
      let w = is_pos (32 * n * (sum_of sum).den) in
      let h = (le_parts (is_add sine-neg w) difference-neg).0 t in
      (le_parts (is_add difference_own w) sine_own).1 (omega arith)

-- ---- of what is given

-- mirrored twice is not mirrored
pub twice : (mirrored upper : Bool) → mirror_end mirrored (mirror_end mirrored upper) ≡ upper
twice false upper = refl
twice true true = refl
twice true false = refl

-- an M on the mirror, negated
module _ {c : Cell} {o : Exact} (i : InCell c true o) where
  unmirrored : InCell c false (negated o)
  unmirrored =
      record { over_q = i.over_q; over_s = i.over_s; m_least = i.m_least; m_most = i.m_most; a_least = i.a_least; a_most = i.a_most }

  mirrored_back : (upper sum : Bool) (X : ℕ) → Meets upper (sum_of sum) (negated o) (pos X) → Meets (not upper) (sum_of sum) o (neg_ℤ (pos X))
  mirrored_back upper sum X t =
      subst (λ (p : ℤ). Meets (not upper) (sum_of sum) (record { p = p; q = o.q; r = o.r; s = o.s }) (neg_ℤ (pos X))) (neg_ℤ-neg_ℤ o.p)
      (meets sum (negated o) (pos X) upper t)

-- R19 of an end that the test of the problem posed accepts: with its own sum, and as the demand has it
module _ (c : Cell) (X : ℕ) (w : X ≤ T_units) (d : ℕ) (j : d ≤ depths) (upper : Bool) (t : T (end_at upper c d X)) where
  own_true : (mirrored : Bool) (o : Exact) → InCell c mirrored o → Meets (mirror_end mirrored upper) (sum_of upper) o (mirror mirrored (pos X))
  own_true false o i = cell_true c o i X upper w d j t
  own_true true o i = mirrored_back i upper upper X (cell_true c (negated o) (unmirrored i) X upper w d j t)

  letter_true : (mirrored : Bool) (o : Exact) → InCell c mirrored o
      → Meets (mirror_end mirrored upper) (sum_of (mirror_end mirrored upper)) o (mirror mirrored (pos X))
  letter_true false o i = own_true false o i
  letter_true true o i =
      mirrored_back i upper (not upper) X (other_sum upper (negated o) X (cell_true c (negated o) (unmirrored i) X upper w d j t))

pub end_true : (upper : Bool) (g : Given) (X : ℕ) → X ≤ T_units → (d : ℕ) → d ≤ depths → T (end_at upper (cell_of g) d X) → ExactAt upper g X
end_true upper g X w d j t =
    let m = mirrored_of g in
    record {
      own = λ o i.
          subst (λ (sum : Bool). Meets (mirror_end m upper) (sum_of sum) o (mirror m (pos X))) (sym (twice m upper))
          (own_true (cell_of g) X w d j upper t m o i);
      letter = letter_true (cell_of g) X w d j upper t m;
    }

-- R20, on the grid
pub spare_accepted : (upper : Bool) (m : ℤ) (a X : ℕ) → X ≤ T_units
    → EndSpare (mirror_end (negative m) upper) (grid m a) (mirror (negative m) (pos X))
    → T (end_at upper (grid_cell (nat_abs m) a) depths X)
spare_accepted upper (pos m) a X w s = grid_spare m a X w upper s
spare_accepted upper (negsuc m) a X w s =
    let o = on_grid (suc m) a in
    grid_spare (suc m) a X w upper
    (spares upper o (pos X) upper
    (subst (λ (sum : Bool). Spare (not upper) (sum_of sum) (negated o) (neg_ℤ (pos X))) (twice true upper) s))
