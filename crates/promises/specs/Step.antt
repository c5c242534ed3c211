-- One step in doubles, R75 to R80, over what both entries answer.
use Rattle.std.specs.Prelude.{◌≡◌, true, ◌⊎◌, ℕ, suc, ◌^◌, ◌≤◌, ◌<◌, ℤ, pos, negsuc, nat_abs, Float}
use Rattle.std.specs.Float.Ieee.{neg, eq}
use Rattle.grid.specs.Grid.{T_units, depths}
use Rattle.grid.specs.Codes.{number, done, failed}
use Rattle.grid.specs.declared.codes.Refusal.TheVariants.{BadEstimate}
use Rattle.series.specs.Sine.{Lo}
use Rattle.cosine.specs.Cosine.{CosLo}
use Rattle.units.specs.Exact.{InUnits}
use Rattle.orbit.specs.Given.{grid}
use Rattle.judge.specs.Judge.{claim_of, judge_rule}
use Rattle.step.specs.Step.{plus_zero, in_radians, handed_over, step_number}
use Rattle.step.specs.Entry.{step_rule, judged_rule}
use Rattle.step.specs.declared.Taken.TheVariants.{Flat}
use Rattle.step.specs.declared.Stepped.{Stepped}
use Rattle.step.specs.declared.JudgedStep.{JudgedStep}

-- R77, R80: of what `step` answers with code 0
pub record StepTrue (m : ℤ) (a method : ℕ) (r : Stepped) : Type 0 where
  -- the method's own step, or Flat
  pub own : (r.step ≡ method) ⊎ (r.step ≡ step_number Flat)
  -- Flat hands nothing over
  pub nothing : r.step ≡ step_number Flat → r.estimate ≡ plus_zero
  -- a zero is plus zero
  pub zero : eq r.estimate plus_zero ≡ true → r.estimate ≡ plus_zero
  -- neither the judge nor a next step gives the new estimate code 4
  pub judged : (n d : ℕ) → (judge_rule (claim_of (grid m a) r.estimate n d)).code ≡ number (failed BadEstimate) → ⊥
  pub stepped : (next : ℕ) → (step_rule m a r.estimate next).code ≡ number (failed BadEstimate) → ⊥

-- R79: of what `step_judged` answers with code 0
pub record JudgedTrue (m : ℤ) (a : ℕ) (x : Float) (method n d : ℕ) (r : JudgedStep) : Type 0 where
  -- the step is the one that `step` takes
  pub step : step_rule m a x method ≡ record { code = r.code; step = r.step; estimate = r.estimate }
  -- the verdict is the judge's on the new estimate
  pub verdict : (r.step ≡ step_number Flat → ⊥)
      → judge_rule (claim_of (grid m a) r.estimate n d) ≡ record { code = r.code; verdict = r.verdict }
  pub none : r.step ≡ step_number Flat → r.verdict ≡ 0

-- R59: an answer mirrored
abbrev pub mirror_stepped : Stepped → Stepped
mirror_stepped r = record { code = r.code; step = r.step; estimate = handed_over true r.estimate }

abbrev pub mirror_judged : JudgedStep → JudgedStep
mirror_judged r = record { code = r.code; step = r.step; estimate = handed_over true r.estimate; verdict = r.verdict }

pub record Steps : Type 0 where
  -- R75: s, k, m and e are exact: a double holds z / 2^28 for every z below 2^53 in size, as Lo and CosLo are
  pub exact : (z : ℤ) → nat_abs z < 2 ^ 53 → InUnits (in_radians z) z 1
  pub sine_few : (X : ℕ) → X ≤ T_units → nat_abs (Lo X depths) < 2 ^ 53
  pub cosine_few : (X : ℕ) → X ≤ T_units → nat_abs (CosLo X depths) < 2 ^ 53
  -- R77, R80
  pub step : (m : ℤ) (a : ℕ) (x : Float) (method : ℕ) → (step_rule m a x method).code ≡ number done
      → StepTrue m a method (step_rule m a x method)
  -- R79
  pub judged : (m : ℤ) (a : ℕ) (x : Float) (method n d : ℕ) → (judged_rule m a x method n d).code ≡ number done
      → JudgedTrue m a x method n d (judged_rule m a x method n d)
  -- R41: either zero as an estimate is 0
  pub either_zero : (m : ℤ) (a method : ℕ) → step_rule m a (neg plus_zero) method ≡ step_rule m a plus_zero method
  pub judged_either_zero : (m : ℤ) (a method n d : ℕ) → judged_rule m a (neg plus_zero) method n d ≡ judged_rule m a plus_zero method n d
  -- R59: the step of -M is the mirror of the step of M
  pub mirrored : (m a : ℕ) (x : Float) (method : ℕ)
      → step_rule (negsuc m) a x method ≡ mirror_stepped (step_rule (pos (suc m)) a (neg x) method)
  pub judged_mirrored : (m a : ℕ) (x : Float) (method n d : ℕ)
      → judged_rule (negsuc m) a x method n d ≡ mirror_judged (judged_rule (pos (suc m)) a (neg x) method n d)
