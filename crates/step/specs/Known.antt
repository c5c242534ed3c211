-- What the functions behind both entries answer. No entry's contract cites this file.
use Rattle.std.specs.Prelude.{ℕ, Bool, cond, eqb, [], ◌∷◌, ℤ, Float, Option, None, Some, Result, Ok, Err}
use Rattle.grid.specs.Codes.{number, done, allowed, answer, method_check}
use Rattle.grid.specs.declared.codes.Refusal.{Refusal}
use Rattle.orbit.specs.Given.{grid}
use Rattle.judge.specs.Verdict.{verdict_number}
use Rattle.judge.specs.Judge.{claim_of}
use Rattle.judge.specs.Decision.{settled_known}
use Rattle.judge.specs.declared.Decision.{Decision}
use Rattle.judge.specs.declared.Verdict.{Verdict}
use Rattle.step.specs.Step.{flat, handed_over, newton_step, halley_step, step_number, step_estimate}
use Rattle.step.specs.Entry.{step_from, step_checks, unstepped, stepped_as, judged_checks, unjudged_step}
use Rattle.step.specs.declared.Local.{Local}
use Rattle.step.specs.declared.Method.{Method}
use Rattle.step.specs.declared.Method.TheVariants as methods
use Rattle.step.specs.declared.Taken.{Taken}
use Rattle.step.specs.declared.Taken.TheVariants.{Newton, Halley, Flat}
use Rattle.step.specs.declared.Stepped.{Stepped}
use Rattle.step.specs.declared.Outcome.{Outcome}
use Rattle.step.specs.declared.JudgedStep.{JudgedStep}

-- R77: what is handed over, where the step isn't flat
abbrev pub unless_flat : Bool → Float → Float → Option Float
unless_flat mirrored divisor y = cond (flat divisor y) None (Some (handed_over mirrored y))

-- R78: the step of a method
abbrev pub step_of : Method → Bool → Local → Taken
step_of methods.Newton = newton_step
step_of methods.Halley = halley_step

-- R78: the method of a number that is 1 or 2
abbrev pub method_of : ℕ → Method
method_of n = cond (eqb n 1) methods.Newton methods.Halley

-- R78: code 21, or the method
abbrev pub coded_method : ℕ → Result Method Refusal
coded_method n = allowed (method_check n ∷ []) (method_of n)

-- R78: the first code that applies, or the step
abbrev pub step_known : ℤ → ℕ → Float → ℕ → Result Taken Refusal
step_known m a x method = allowed (step_checks m a x method) (step_from m a x method)

-- R78: as the entry `step` says it
abbrev pub step_answer : Result Taken Refusal → Stepped
step_answer = answer unstepped stepped_as

-- R48: the verdict that was decided, where there is one
abbrev pub verdict_in : Result Decision Refusal → Option Verdict
verdict_in (Ok decision) = Some decision.verdict
verdict_in (Err refusal) = None

-- R79: the judge's verdict on a new estimate; Flat has none
abbrev pub judged_on : ℤ → ℕ → ℕ → ℕ → Taken → Option Verdict
judged_on m a n d (Newton y) = verdict_in (settled_known (claim_of (grid m a) y n d))
judged_on m a n d (Halley y) = verdict_in (settled_known (claim_of (grid m a) y n d))
judged_on m a n d Flat = None

-- R79: its number, and 0 where there is none
abbrev pub judged_number : Option Verdict → ℕ
judged_number (Some v) = verdict_number v
judged_number None = 0

-- R79: a step and its verdict
abbrev pub outcome_of : ℤ → ℕ → ℕ → ℕ → Taken → Outcome
outcome_of m a n d t = record { taken = t; verdict = judged_on m a n d t }

-- R79: both as the entry gives them
abbrev pub outcome_as : Outcome → JudgedStep
outcome_as j =
    record {
      code = number done;
      step = step_number j.taken;
      estimate = step_estimate j.taken;
      verdict = judged_number j.verdict;
    }

-- R79: the first code that applies, or the step, judged
abbrev pub judged_known : ℤ → ℕ → Float → ℕ → ℕ → ℕ → Result Outcome Refusal
judged_known m a x method n d = allowed (judged_checks m a x method n d) (outcome_of m a n d (step_from m a x method))

-- R79: as the entry `step_judged` says it
abbrev pub judged_answer : Result Outcome Refusal → JudgedStep
judged_answer = answer unjudged_step outcome_as
