-- R79: the number of a step's verdict is that of the judge's answer to its new estimate. Assumes nothing.
use mathlib.Core.Path.{◌≡◌, refl, ap, ◌∙◌}
use Prim.Native.Nat.{ℕ}
use lib.IntN.{ℤ}
use Rattle.std.specs.Prelude.{Result, Ok, Err}
use Rattle.grid.specs.declared.codes.Refusal.{Refusal}
use Rattle.grid.proofs.FirstCode.{answers}
use Rattle.orbit.specs.Given.{grid}
use Rattle.judge.specs.Judge.{Claim, claim_of, claim_checks, case_at, verdict, unjudged, judge_rule}
use Rattle.judge.specs.Decision.{decision, settled_known, judged_answer}
use Rattle.judge.specs.declared.Decision.{Decision}
use Rattle.judge.specs.declared.Judged.{Judged}
use Rattle.step.specs.Entry.{verdict_on, judged_as}
use Rattle.step.specs.Known.{verdict_in, judged_on, judged_number, outcome_of, outcome_as}
use Rattle.step.specs.declared.Taken.{Taken}
use Rattle.step.specs.declared.Taken.TheVariants.{Newton, Halley, Flat}

-- the number of what was decided stands in the judge's answer
number_in : (known : Result Decision Refusal) → judged_number (verdict_in known) ≡ (judged_answer known).verdict
number_in (Ok decision) = refl
number_in (Err refusal) = refl

claim_number : (c : Claim) → judged_number (verdict_in (settled_known c)) ≡ (judge_rule c).verdict
unfolding judge_rule
claim_number c =
    number_in (settled_known c)
    ∙ ap (λ (r : Judged). r.verdict) (answers unjudged (λ (d : Decision). verdict d.verdict) (decision (case_at c)) (claim_checks c))

pub number_on : (m : ℤ) (a n d : ℕ) (t : Taken) → judged_number (judged_on m a n d t) ≡ verdict_on m a n d t
number_on m a n d (Newton y) = claim_number (claim_of (grid m a) y n d)
number_on m a n d (Halley y) = claim_number (claim_of (grid m a) y n d)
number_on m a n d Flat = refl

-- so the answer by an outcome is the rule's
pub outcome_is : (m : ℤ) (a n d : ℕ) (t : Taken) → outcome_as (outcome_of m a n d t) ≡ judged_as m a n d t
outcome_is m a n d t = rw (number_on m a n d t)
