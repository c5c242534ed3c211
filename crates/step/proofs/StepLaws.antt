-- R78 to R80: what both entries answer with code 0: the step's number, that its estimate is within its limits, and the judge's
-- verdict on just that estimate. Assumes nothing.
use mathlib.Core.Path.{◌≡◌, refl, sym, ap, ◌∙◌}
use mathlib.Core.Bool.{Bool, true, false, not, ◌||◌, cond, true≢false}
use mathlib.Core.Logic.{◌⊎◌, inl, inr}
use Prim.Native.Nat.{ℕ, suc}
use native.Mathlib.Omega.{arith}
use borrow.Author.Tests.{eqb-true}
use lib.Dec.{eqb}
use lib.IntN.{ℤ, pos, negsuc, nat_abs}
use lib.Ieee.{Float, neg, eq}
use Rattle.grid.specs.Grid.{T_units}
use Rattle.grid.specs.Codes.{number, failed, Passed, method_check}
use Rattle.grid.specs.declared.codes.Refusal.TheVariants.{BadEstimate}
use Rattle.grid.proofs.Outcomes.{of_checked}
use Rattle.units.specs.Units.{off_range, floor_and_ceiling}
use Rattle.orbit.specs.Given.{grid, mirrored_of}
use Rattle.judge.specs.Judge.{claim_of, claim_checks, case_at, case_verdict, verdict, unjudged, judge_rule}
use Rattle.judge.specs.declared.Judged.{Judged}
use Rattle.judge.proofs.Answered.{answered}
use Rattle.step.specs.Step.{plus_zero, flat, newton_new, halley_divisor, halley_new, newton_step, halley_step, local_at, step_by, step_number, step_estimate, mirror_taken}
use Rattle.step.specs.Entry.{posed_as, step_from, step_checks, unstepped, stepped_as, step_rule, verdict_on}
use Rattle.step.specs.declared.Local.{Local}
use Rattle.step.specs.declared.Taken.{Taken}
use Rattle.step.specs.declared.Taken.TheVariants.{Newton, Halley, Flat}
use Rattle.step.specs.declared.Stepped.{Stepped}
use Rattle.step.proofs.HandedOver.{taken_within, taken-zero, taken_mirrored}

-- what holds of Newton's step and of Halley's holds of the method's
by_method : (P : Taken → Type 0) (method : ℕ) (mirrored : Bool) (t : Local) → P (newton_step mirrored t) → P (halley_step mirrored t) → P (step_by method mirrored t)
by_method P method mirrored t n h = by_test (eqb method 1)
  where
    by_test : (b : Bool) → P (cond b (newton_step mirrored t) (halley_step mirrored t))
    by_test true = n
    by_test false = h

module _ (m : ℤ) (a : ℕ) (x : Float) (method : ℕ) where
  abbrev here : Local
  here = let y = posed_as m a x in local_at (nat_abs m) a y (floor_and_ceiling y).floor

  -- R80: within its limits
  pub from_within : off_range T_units (posed_as m a (step_estimate (step_from m a x method))) ≡ false
  from_within =
      let side = mirrored_of (grid m a) in
      by_method (λ (t : Taken). off_range T_units (posed_as m a (step_estimate t)) ≡ false) method side here
      (taken_within Newton (λ y. refl) side here.slope (newton_new here))
      (taken_within Halley (λ y. refl) side (halley_divisor here) (halley_new here))

  -- R77: a zero is plus zero
  pub from_zero : let y = step_estimate (step_from m a x method) in eq y plus_zero ≡ true → y ≡ plus_zero
  from_zero =
      let side = mirrored_of (grid m a) in
      by_method (λ (t : Taken). eq (step_estimate t) plus_zero ≡ true → step_estimate t ≡ plus_zero) method side here
      (taken-zero Newton (λ y. refl) side here.slope (newton_new here))
      (taken-zero Halley (λ y. refl) side (halley_divisor here) (halley_new here))

-- R80: a step is its method's own, or Flat
own_by : (method : Float → Taken) (n : ℕ) (t : Bool) (y : Float) → step_number (method y) ≡ n →
    (step_number (cond t Flat (method y)) ≡ n) ⊎ (step_number (cond t Flat (method y)) ≡ 3)
own_by method n true y e = inr refl
own_by method n false y e = inl e

which : (s t : Bool) → not (s || t) ≡ false → (s ≡ true) ⊎ ((s ≡ false) × (t ≡ true))
which true t e = inl refl
which false true e = inr (refl, refl)
which false false e = absurd (true≢false e)

own : (method : ℕ) (mirrored : Bool) (t : Local) → (method_check method).fails ≡ false →
    (step_number (step_by method mirrored t) ≡ method) ⊎ (step_number (step_by method mirrored t) ≡ 3)
own method mirrored t e =
    elim (which (eqb method 1) (eqb method 2) e) [
      | inl p ↦ rw p (own_by Newton method (flat t.slope (newton_new t)) _ (sym (eqb-true method 1 p)))
      | inr p ↦ rw p.0 (own_by Halley method (flat (halley_divisor t) (halley_new t)) _ (sym (eqb-true method 2 p.1)))
    ]

pub from_own : (m : ℤ) (a : ℕ) (x : Float) (method : ℕ) → (method_check method).fails ≡ false →
    let n = step_number (step_from m a x method) in (n ≡ method) ⊎ (n ≡ 3)
from_own m a x method = own method (mirrored_of (grid m a)) (here m a x method)

-- R77: Flat carries nothing
pub flat_nothing : (t : Taken) → step_number t ≡ 3 → step_estimate t ≡ plus_zero
flat_nothing (Newton y) e = absurd (let z : ⊥ = omega arith in z)
flat_nothing (Halley y) e = absurd (let z : ⊥ = omega arith in z)
flat_nothing Flat e = refl

-- ---- an estimate within its limits, as both entries and the judge check it

module _ (m : ℤ) (a : ℕ) (y : Float) (within : off_range T_units (posed_as m a y) ≡ false) where
  no_4 : off_range T_units (posed_as m a y) ≡ true → ⊥
  no_4 e = true≢false (sym e ∙ within)

  pub judge-not_4 : (n d : ℕ) → (judge_rule (claim_of (grid m a) y n d)).code ≡ number (failed BadEstimate) → ⊥
  unfolding judge_rule
  judge-not_4 n d =
      let k = claim_of (grid m a) y n d in
      of_checked (λ (r : Judged). r.code ≡ 4 → ⊥) unjudged (verdict (case_verdict (case_at k))) (claim_checks k)
      (λ t e. omega arith, (λ t e. omega arith, (λ t e. omega arith, (λ t e. no_4 t, (λ t e. omega arith, tt))))) (λ p e. omega arith)

  pub step_not_4 : (method : ℕ) → (step_rule m a y method).code ≡ number (failed BadEstimate) → ⊥
  unfolding step_rule
  step_not_4 method =
      of_checked (λ (r : Stepped). r.code ≡ 4 → ⊥) unstepped (stepped_as (step_from m a y method)) (step_checks m a y method)
      (λ t e. omega arith, (λ t e. omega arith, (λ t e. no_4 t, (λ t e. omega arith, tt)))) (λ p e. omega arith)

  -- R79: what the judge answers to it beside an estimate whose claim's checks pass
  pub judged_of : (x : Float) (n d : ℕ) → Passed (claim_checks (claim_of (grid m a) x n d)) →
      let k = claim_of (grid m a) y n d in judge_rule k ≡ record { code = 0; verdict = (judge_rule k).verdict }
  judged_of x n d p =
      let k = claim_of (grid m a) y n d in
      let e = answered k (p.0, (p.1.0, (p.1.1.0, (within, p.1.1.1.1)))) in
      e ∙ sym (ap (λ (j : Judged). record { code = 0; verdict = j.verdict }) e)

-- R79: of a step that isn't flat
pub verdict_of_lem : (m : ℤ) (a : ℕ) (x : Float) (n d : ℕ) (t : Taken) → off_range T_units (posed_as m a (step_estimate t)) ≡ false
    → Passed (claim_checks (claim_of (grid m a) x n d)) → (step_number t ≡ 3 → ⊥)
    → judge_rule (claim_of (grid m a) (step_estimate t) n d) ≡ record { code = 0; verdict = verdict_on m a n d t }
verdict_of_lem m a x n d (Newton y) w p f = judged_of m a y w x n d p
verdict_of_lem m a x n d (Halley y) w p f = judged_of m a y w x n d p
verdict_of_lem m a x n d Flat w p f = absurd (f refl)

pub no_verdict : (m : ℤ) (a n d : ℕ) (t : Taken) → step_number t ≡ 3 → verdict_on m a n d t ≡ 0
no_verdict m a n d (Newton y) e = absurd (let z : ⊥ = omega arith in z)
no_verdict m a n d (Halley y) e = absurd (let z : ⊥ = omega arith in z)
no_verdict m a n d Flat e = refl

-- R59: the step of -M from the negative estimate is the mirror of the step of M
step_mirrored : (method : ℕ) (t : Local) → step_by method true t ≡ mirror_taken (step_by method false t)
step_mirrored method t = by_test (eqb method 1)
  where
    by_test : (b : Bool) → cond b (newton_step true t) (halley_step true t) ≡ mirror_taken (cond b (newton_step false t) (halley_step false t))
    by_test true = taken_mirrored Newton (λ y. refl) t.slope (newton_new t)
    by_test false = taken_mirrored Halley (λ y. refl) (halley_divisor t) (halley_new t)

pub from_mirrored : (m a : ℕ) (x : Float) (method : ℕ) → step_from (negsuc m) a x method ≡ mirror_taken (step_from (pos (suc m)) a (neg x) method)
from_mirrored m a x method = step_mirrored method (here (negsuc m) a x method)
