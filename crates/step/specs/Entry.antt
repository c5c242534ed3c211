-- What the entries `step` and `step_judged` answer for any input, R78 and R79.
use Rattle.std.specs.Prelude.{ℕ, List, [], ◌∷◌, ◌++◌, ℤ, nat_abs, Float}
use Rattle.grid.specs.Codes.{Check, number, done, checked, method_check}
use Rattle.units.specs.Units.{mirror_double, floor_and_ceiling, estimate_check}
use Rattle.orbit.specs.Given.{grid, mirrored_of, checks_of}
use Rattle.judge.specs.Judge.{claim_of, claim_checks, judge_rule}
use Rattle.step.specs.Step.{plus_zero, local_at, step_by, step_number, step_estimate}
use Rattle.step.specs.declared.Taken.{Taken}
use Rattle.step.specs.declared.Taken.TheVariants.{Newton, Halley, Flat}
use Rattle.step.specs.declared.Stepped.{Stepped}
use Rattle.step.specs.declared.JudgedStep.{JudgedStep}

-- R59: the estimate, mirrored with M
abbrev pub posed_as : ℤ → ℕ → Float → Float
posed_as m a x = mirror_double (mirrored_of (grid m a)) x

-- R75 to R78: the step from an estimate by a method
abbrev pub step_from : ℤ → ℕ → Float → ℕ → Taken
step_from m a x method =
    let y = posed_as m a x in
    step_by method (mirrored_of (grid m a)) (local_at (nat_abs m) a y (floor_and_ceiling y).floor)

-- R78: codes 1, 2, 4 and 21 in that order
abbrev pub step_checks : ℤ → ℕ → Float → ℕ → List Check
step_checks m a x method = checks_of (grid m a) ++ estimate_check (posed_as m a x) ∷ method_check method ∷ []

-- R7: zeros beside a code
abbrev pub unstepped : ℕ → Stepped
unstepped code = record { code = code; step = 0; estimate = plus_zero }

-- R78: a step's number and estimate
abbrev pub stepped_as : Taken → Stepped
stepped_as t = record { code = number done; step = step_number t; estimate = step_estimate t }

-- R78: the first code that applies, or the step
unfoldable pub step_rule : ℤ → ℕ → Float → ℕ → Stepped
step_rule m a x method = checked (step_checks m a x method) unstepped (stepped_as (step_from m a x method))

-- R79: codes 1, 2, 3, 4, 5 and 21 in that order
abbrev pub judged_checks : ℤ → ℕ → Float → ℕ → ℕ → ℕ → List Check
judged_checks m a x method n d = claim_checks (claim_of (grid m a) x n d) ++ method_check method ∷ []

-- R7: zeros beside a code
abbrev pub unjudged_step : ℕ → JudgedStep
unjudged_step code = record { code = code; step = 0; estimate = plus_zero; verdict = 0 }

-- R79: the judge's verdict on a new estimate; Flat has none
abbrev pub verdict_on : ℤ → ℕ → ℕ → ℕ → Taken → ℕ
verdict_on m a n d (Newton y) = (judge_rule (claim_of (grid m a) y n d)).verdict
verdict_on m a n d (Halley y) = (judge_rule (claim_of (grid m a) y n d)).verdict
verdict_on m a n d Flat = 0

-- R79: a step's number, its estimate and its verdict
abbrev pub judged_as : ℤ → ℕ → ℕ → ℕ → Taken → JudgedStep
judged_as m a n d t =
    record { code = number done; step = step_number t; estimate = step_estimate t; verdict = verdict_on m a n d t }

-- R79: the first code that applies, or the step, judged
unfoldable pub judged_rule : ℤ → ℕ → Float → ℕ → ℕ → ℕ → JudgedStep
judged_rule m a x method n d = checked (judged_checks m a x method n d) unjudged_step (judged_as m a n d (step_from m a x method))
