-- The promises of one step in doubles are kept. Assumes nothing.
use mathlib.Core.Path.{◌≡◌, refl, sym, ap, ◌∙◌}
use mathlib.Core.Bool.{Bool, true, false, cond}
use Prim.Native.Nat.{ℕ, suc, ◌^◌, ◌≤◌, ◌<◌}
use native.Mathlib.Omega.{arith}
use lib.Dec.{lit≤}
use lib.IntN.{ℤ, pos, negsuc, nat_abs}
use lib.Ieee.{Float, neg, eq}
use Rattle.grid.specs.Grid.{T_units, depths}
use Rattle.grid.specs.Codes.{Passed, checked}
use Rattle.grid.proofs.FirstCode.{goes}
use Rattle.grid.proofs.Fits.{depth_fits, depth_passes}
use Rattle.grid.proofs.Outcomes.{of_checked}
use Rattle.grid.proofs.Refuses.{through}
use Rattle.series.proofs.CodeRange.{InBounds, Lo_within, greatest_in}
use Rattle.cosine.specs.Cosine.{cosine}
use Rattle.cosine.proofs.OfCosine.{cosine_in_range}
use Rattle.units.specs.Units.{off_range}
use Rattle.orbit.specs.Given.{grid}
use Rattle.judge.specs.Verdict.{verdict_number}
use Rattle.judge.specs.Judge.{claim_of, claim_checks, verdict, judge_rule}
use Rattle.judge.specs.declared.Judged.{Judged}
use Rattle.judge.specs.declared.Verdict.{Verdict}
use Rattle.judge.specs.declared.Verdict.TheVariants.{Confirmed, Refuted, Undecided}
use Rattle.step.specs.Step.{plus_zero, in_radians, handed_over, step_number, step_estimate, mirror_taken}
use Rattle.step.specs.Entry.{posed_as, step_from, step_checks, unstepped, stepped_as, step_rule, judged_checks, unjudged_step, verdict_on, judged_as, judged_rule}
use Rattle.step.specs.declared.Taken.{Taken}
use Rattle.step.specs.declared.Taken.TheVariants.{Newton, Halley, Flat}
use Rattle.step.specs.declared.JudgedStep.{JudgedStep}
use Rattle.step.proofs.EitherZero.{step_either, judged_either}
use Rattle.step.proofs.HandedOver.{mirror_twice}
use Rattle.step.proofs.InRadians.{radians_value}
use Rattle.step.proofs.StepLaws.{from_within, from_zero, from_own, flat_nothing, judge-not_4, step_not_4, judged_of, verdict_of_lem, no_verdict, from_mirrored}
use Rattle.promises.specs.Step.{StepTrue, JudgedTrue, mirror_stepped, mirror_judged, Steps}
use Rattle.promises.proofs.Alike as alike
use Rattle.promises.proofs.Demand1.{demand_1}
use Rattle.promises.proofs.Rules.{rules}

step_true : (m : ℤ) (a : ℕ) (x : Float) (method : ℕ) → (step_rule m a x method).code ≡ 0 → StepTrue m a method (step_rule m a x method)
step_true m a x method e =
    let t = step_from m a x method in
    let within = from_within m a x method in
    rw (rules.step m a x method e)
    (record {
      own = from_own m a x method ((demand_1.step m a x method).passed.0 e).1.1.1.0;
      nothing = flat_nothing t;
      zero = from_zero m a x method;
      judged = judge-not_4 m a (step_estimate t) within;
      stepped = step_not_4 m a (step_estimate t) within;
    })

-- ---- the verdict of a judged step

some_number : (v : Verdict) → 0 ≡ verdict_number v → ⊥
some_number Confirmed e = omega arith
some_number Refuted e = omega arith
some_number Undecided e = omega arith

module _ (m : ℤ) (a : ℕ) (x : Float) (method n d : ℕ) where
  abbrev new : Float
  new = step_estimate (step_from m a x method)

  claim_passed : Passed (judged_checks m a x method n d) → Passed (claim_checks (claim_of (grid m a) x n d))
  claim_passed p = (p.0, (p.1.0, (p.1.1.0, (p.1.1.1.0, (p.1.1.1.1.0, tt)))))

  judged_true : (judged_rule m a x method n d).code ≡ 0 → JudgedTrue m a x method n d (judged_rule m a x method n d)
  unfolding step_rule
  judged_true e =
      let t = step_from m a x method in
      let p = (demand_1.step_judged m a x method n d).passed.0 e in
      rw (rules.step_judged m a x method n d e)
      (record {
        step = goes (step_checks m a x method) (p.0, (p.1.0, (p.1.1.1.0, p.1.1.1.1.1))) unstepped (stepped_as t);
        verdict = verdict_of_lem m a x n d t (from_within m a x method) (claim_passed p);
        none = no_verdict m a n d t;
      })

  -- a verdict is the judge's on the new estimate
  module _ (v : Verdict) where
    by_step : (t : Taken) → off_range T_units (posed_as m a (step_estimate t)) ≡ false → Passed (claim_checks (claim_of (grid m a) x n d))
        → verdict_on m a n d t ≡ verdict_number v → judge_rule (claim_of (grid m a) (step_estimate t) n d) ≡ verdict v
    by_step (Newton y) w p e = judged_of m a y w x n d p ∙ ap (λ (k : ℕ). record { code = 0; verdict = k }) e
    by_step (Halley y) w p e = judged_of m a y w x n d p ∙ ap (λ (k : ℕ). record { code = 0; verdict = k }) e
    by_step Flat w p e = absurd (some_number v e)

    pub judged_says : (judged_rule m a x method n d).verdict ≡ verdict_number v
        → ((judged_rule m a x method n d).estimate ≡ new) × (judge_rule (claim_of (grid m a) new n d) ≡ verdict v)
    unfolding judged_rule
    judged_says =
        let t = step_from m a x method in
        let no : 0 ≡ verdict_number v → ⊥ = some_number v in
        of_checked (λ (r : JudgedStep). r.verdict ≡ verdict_number v → (r.estimate ≡ new) × (judge_rule (claim_of (grid m a) new n d) ≡ verdict v))
        unjudged_step (judged_as m a n d t) (judged_checks m a x method n d)
        (λ z e. absurd (no e), (λ z e. absurd (no e), (λ z e. absurd (no e), (λ z e. absurd (no e), (λ z e. absurd (no e), (λ z e. absurd (no e), tt))))))
        (λ p e. (refl, by_step t (from_within m a x method) (claim_passed p) e))

  -- at another depth it is the same step, with the verdict that the judge has there
  module _ (e : ℕ) (v : Verdict) where
    one-verdict : (t : Taken) → verdict_on m a n d t ≡ verdict_number v → judge_rule (claim_of (grid m a) (step_estimate t) n e) ≡ verdict v
        → verdict_on m a n e t ≡ verdict_on m a n d t
    one-verdict (Newton y) i j = ap (λ (r : Judged). r.verdict) j ∙ sym i
    one-verdict (Halley y) i j = ap (λ (r : Judged). r.verdict) j ∙ sym i
    one-verdict Flat i j = refl

    pub judged_again : d ≤ e → e ≤ depths → judge_rule (claim_of (grid m a) new n e) ≡ verdict v
        → (judged_rule m a x method n d).verdict ≡ verdict_number v → judged_rule m a x method n e ≡ judged_rule m a x method n d
    unfolding judged_rule
    judged_again deeper few j =
        let t = step_from m a x method in
        let no : 0 ≡ verdict_number v → ⊥ = some_number v in
        of_checked (λ (r : JudgedStep). r.verdict ≡ verdict_number v → checked (judged_checks m a x method n e) unjudged_step (judged_as m a n e t) ≡ r)
        unjudged_step (judged_as m a n d t) (judged_checks m a x method n d)
        (λ z i. absurd (no i), (λ z i. absurd (no i), (λ z i. absurd (no i), (λ z i. absurd (no i), (λ z i. absurd (no i), (λ z i. absurd (no i), tt))))))
        (λ p i.
        let some = (depth_fits d p.1.1.0).some in
        goes (judged_checks m a x method n e) (p.0, (p.1.0, (depth_passes e (omega arith) few, p.1.1.1))) unjudged_step (judged_as m a n e t)
        ∙ ap (λ (k : ℕ). record { code = 0; step = step_number t; estimate = step_estimate t; verdict = k }) (one-verdict t i j))

-- ---- the mirror

told_mirrored : (t : Taken) → stepped_as (mirror_taken t) ≡ mirror_stepped (stepped_as t)
unfolding eq
told_mirrored (Newton y) = refl
told_mirrored (Halley y) = refl
told_mirrored Flat = refl

mirrored : (m a : ℕ) (x : Float) (method : ℕ)
    → step_rule (negsuc m) a x method ≡ mirror_stepped (step_rule (pos (suc m)) a (neg x) method)
unfolding step_rule eq
mirrored m a x method =
    let t = step_from (pos (suc m)) a (neg x) method in
    ap (checked (step_checks (negsuc m) a x method) unstepped) (ap stepped_as (from_mirrored m a x method) ∙ told_mirrored t)
    ∙ sym (through mirror_stepped unstepped (stepped_as t) (step_checks (pos (suc m)) a (neg x) method))

-- the judge takes either zero
zeros_alike : (m a n d : ℕ) → judge_rule (claim_of (grid (pos m) a) (neg plus_zero) n d) ≡ judge_rule (claim_of (grid (pos m) a) plus_zero n d)
unfolding judge_rule off_range neg
zeros_alike m a n d = refl

module _ (m a n d : ℕ) where
  back_by : (y : Float) (z : Bool) → eq y plus_zero ≡ z → (eq y plus_zero ≡ true → y ≡ plus_zero)
      → judge_rule (claim_of (grid (pos (suc m)) a) (neg (cond z plus_zero (neg y))) n d) ≡ judge_rule (claim_of (grid (pos (suc m)) a) y n d)
  back_by y true e zero = zeros_alike (suc m) a n d ∙ sym (ap (λ (x : Float). judge_rule (claim_of (grid (pos (suc m)) a) x n d)) (zero e))
  back_by y false e zero = ap (λ (x : Float). judge_rule (claim_of (grid (pos (suc m)) a) x n d)) (mirror_twice true y)

  verdict_mirrored : (y : Float) → (eq y plus_zero ≡ true → y ≡ plus_zero)
      → judge_rule (claim_of (grid (negsuc m) a) (handed_over true y) n d) ≡ judge_rule (claim_of (grid (pos (suc m)) a) y n d)
  verdict_mirrored y zero = ((alike.mirrored).on_grid m a).judge (handed_over true y) n d ∙ back_by y (eq y plus_zero) refl zero

  judged_told : (t : Taken) → (eq (step_estimate t) plus_zero ≡ true → step_estimate t ≡ plus_zero)
      → judged_as (negsuc m) a n d (mirror_taken t) ≡ mirror_judged (judged_as (pos (suc m)) a n d t)
  unfolding eq
  judged_told (Newton y) zero = ap (λ (j : Judged). record { code = 0; step = 1; estimate = handed_over true y; verdict = j.verdict }) (verdict_mirrored y zero)
  judged_told (Halley y) zero = ap (λ (j : Judged). record { code = 0; step = 2; estimate = handed_over true y; verdict = j.verdict }) (verdict_mirrored y zero)
  judged_told Flat zero = refl

judged_mirrored : (m a : ℕ) (x : Float) (method n d : ℕ)
    → judged_rule (negsuc m) a x method n d ≡ mirror_judged (judged_rule (pos (suc m)) a (neg x) method n d)
unfolding judged_rule eq
judged_mirrored m a x method n d =
    let t = step_from (pos (suc m)) a (neg x) method in
    ap (checked (judged_checks (negsuc m) a x method n d) unjudged_step)
    (ap (judged_as (negsuc m) a n d) (from_mirrored m a x method) ∙ judged_told m a n d t (from_zero (pos (suc m)) a (neg x) method))
    ∙ sym (through mirror_judged unjudged_step (judged_as (pos (suc m)) a n d t) (judged_checks (pos (suc m)) a (neg x) method n d))

-- ---- the numbers that a step takes

few : (z : ℤ) → InBounds z → nat_abs z < 2 ^ 53
few (pos n) w = let h = w.high in omega arith
few (negsuc n) w = let h = w.low in omega arith

pub steps_met : Steps
unfolding neg
steps_met =
    record {
      exact = λ z h. alike.value_in_units (in_radians z) z (radians_value z h);
      sine_few = λ X h. few _ (Lo_within X depths h (lit≤ tt));
      cosine_few = λ X h. few _ (greatest_in cosine X (cosine_in_range X h) depths (lit≤ tt));
      step = step_true;
      judged = judged_true;
      either_zero = λ m a method. step_either m a method true false;
      judged_either_zero = λ m a method. judged_either m a method true false;
      mirrored = mirrored;
      judged_mirrored = judged_mirrored;
    }
