-- What both entries answer: their codes, and with code 0 the step. Assumes nothing.
use mathlib.Core.Path.{refl}
use Prim.Native.Nat.{ℕ}
use lib.IntN.{ℤ}
use lib.Ieee.{Float}
use Rattle.grid.specs.Refuses.{Refuses}
use Rattle.grid.proofs.Refuses.{makes}
use Rattle.step.specs.Entry.{step_from, step_checks, unstepped, stepped_as, step_rule, judged_checks, unjudged_step, judged_as, judged_rule}
use Rattle.step.specs.declared.Stepped.{Stepped}
use Rattle.step.specs.declared.JudgedStep.{JudgedStep}

module _ (m : ℤ) (a : ℕ) (x : Float) (method : ℕ) where
  pub steps : Refuses (step_checks m a x method) (λ (r : Stepped). r.code) unstepped (step_rule m a x method)
  unfolding step_rule
  steps =
      makes (step_checks m a x method) (λ (r : Stepped). r.code) unstepped (stepped_as (step_from m a x method)) refl (λ k. refl) tt

  pub judged_steps : (n d : ℕ)
      → Refuses (judged_checks m a x method n d) (λ (r : JudgedStep). r.code) unjudged_step (judged_rule m a x method n d)
  unfolding judged_rule
  judged_steps n d =
      makes (judged_checks m a x method n d) (λ (r : JudgedStep). r.code) unjudged_step (judged_as m a n d (step_from m a x method)) refl
      (λ k. refl) tt
