-- What a reported least depth says: there the test passes, and at no lesser depth; 0 says that the last depth fails it.
-- Assumes nothing.
use mathlib.Core.Path.{◌≡◌, refl, sym, ap, subst, ◌∙◌}
use mathlib.Core.Bool.{Bool, true, false, not, cond, ◌&&◌}
use mathlib.Core.Logic.{⊎_elim, ◌↔◌}
use Prim.Native.Nat.{ℕ, zero, suc, ◌-◌, ◌≤◌, ◌<◌}
use native.Mathlib.Omega.{arith}
use native.Mathlib.Nat.{eq-or-lt_of_le}
use borrow.Author.Tests.{ne_eqb}
use lib.Dec.{T, eqb, T_not, not_T}
use Rattle.std.specs.Prelude.{Option, is_some}
use Rattle.whole.specs.First.{first_from}
use Rattle.whole.proofs.Bools.{passed, passes, fails}
use Rattle.whole.proofs.First.{first, only}
use Rattle.ends.specs.Least.{least_depth, depth_or_none, from_least}

-- k is the least of the depths 1 to d that pass, and d passes too
pub record Least (test : ℕ → Bool) (d k : ℕ) : Type 0 where
  pub some : 1 ≤ k
  pub few : k ≤ d
  pub here : T (test k)
  pub last : T (test d)
  pub before : (l : ℕ) → 1 ≤ l → l < k → T (not (test l))

module _ (test : ℕ → Bool) (d : ℕ) where
  chosen : Bool → ℕ
  chosen t = cond t (first_from test 1 (d - 1)) 0

  pub none : test d ≡ false → least_depth test d ≡ 0
  unfolding least_depth chosen
  none e = ap chosen e

  pub found : (k : ℕ) → Least test d k → least_depth test d ≡ k
  unfolding least_depth chosen
  found k h =
      let s = h.some in
      let f = h.few in
      ap chosen (sym (passes (test d) h.last))
      ∙ only test 1 (d - 1) (first_from test 1 (d - 1)) k (first test 1 (d - 1))
      (record { from = s; to = omega arith; before = h.before; here = λ l. h.here })

  -- the two outcomes, by the last depth's test
  by_last : (t : Bool) → test d ≡ t → 1 ≤ d → (chosen t ≡ 0 → ⊥) → Least test d (chosen t)
  unfolding chosen
  by_last true e some nonzero =
      let r = first test 1 (d - 1) in
      let k = first_from test 1 (d - 1) in
      let s = r.from in
      let t = r.to in
      let last = passed (test d) (sym e) in
      let few : k ≤ d = omega arith in
      record {
        some = s;
        few = few;
        here = ⊎_elim (λ h. subst (λ (i : ℕ). T (test i)) (sym h) last) (λ h. r.here (omega arith)) (eq-or-lt_of_le few);
        last = last;
        before = r.before;
      }
  by_last false e some nonzero = absurd (nonzero refl)

  pub says : (k : ℕ) → k ≡ least_depth test d → 1 ≤ d → (k ≡ 0 → ⊥) → Least test d k
  unfolding least_depth chosen
  says k e some h = subst (Least test d) (sym e) (by_last (test d) refl some (λ z. h (e ∙ z)))

  nonzero : (t : Bool) → not (eqb (chosen t) 0) ≡ t
  unfolding chosen
  nonzero true = let s = (first test 1 (d - 1)).from in let k = first_from test 1 (d - 1) in ap not (ne_eqb k 0 (λ e. let z : ⊥ = omega arith in z))
  nonzero false = refl

  -- whether there is one is the last depth's test
  pub there : (k : ℕ) → k ≡ least_depth test d → not (eqb k 0) ≡ test d
  unfolding least_depth chosen
  there k e = ap (λ (i : ℕ). not (eqb i 0)) e ∙ nonzero (test d)

  -- so where there is none, the last depth fails
  pub says_none : least_depth test d ≡ 0 → test d ≡ false
  says_none e = sym (there 0 (sym e))

  -- and so it is of one that is handed on
  pub handed_on : (o : Option ℕ) → o ≡ from_least test d → is_some o ≡ test d
  handed_on o e = ap is_some e ∙ by_number (least_depth test d) ∙ there (least_depth test d) refl
    where
      by_number : (k : ℕ) → is_some (depth_or_none k) ≡ not (eqb k 0)
      by_number zero = refl
      by_number (suc k) = sym (ap not (ne_eqb (suc k) 0 (λ e. let z : ⊥ = omega arith in z)))

-- ---- two tests

-- a test after a first one that no depth changes, which passed or failed
pub then_least : (g : Bool) (test : ℕ → Bool) (d : ℕ) {r : ℕ} → g ≡ true → r ≡ least_depth test d → r ≡ least_depth (λ l. g && test l) d
then_least g test d e h = h ∙ sym (ap (λ (t : Bool). least_depth (λ l. t && test l) d) e)

pub else_least : (g : Bool) (test : ℕ → Bool) (d : ℕ) → g ≡ false → 0 ≡ least_depth (λ l. g && test l) d
unfolding least_depth
else_least g test d e = sym (ap (λ (t : Bool). least_depth (λ l. t && test l) d) e)

-- a test that asks for another, which the last depth fails
pub none_by : (test other : ℕ → Bool) (d : ℕ) → (T (test d) → T (other d)) → least_depth other d ≡ 0 → 0 ≡ least_depth test d
none_by test other d asks e = sym (none test d (sym (fails (test d) (λ t. subst T (says_none other d e) (asks t)))))

-- where a test is two others, of which the one is kept by depth: they pass from the later of their least depths on
pub later : (test one other : ℕ → Bool) → ((l : ℕ) → T (test l) ↔ T (one l) × T (other l)) → ((l k : ℕ) → l ≤ k → T (one l) → T (one k))
    → (d j k : ℕ) → Least one d j → Least other d k → j ≤ k → Least test d k
later test one other means kept d j k p q h =
    record {
      some = q.some;
      few = q.few;
      here = (means k).1 (kept j k h p.here, q.here);
      last = (means d).1 (p.last, q.last);
      before = λ l a b. not_T (test l) (λ t. T_not (other l) (q.before l a b) ((means l).0 t).1);
    }
