-- What the judge can answer: a code from 1 to 5 and no verdict, or one of the three verdicts. Assumes nothing.
use Prim.Native.Nat.{◌≤◌, ◌<◌}
use native.Mathlib.Omega.{arith}
use borrow.Author.Tests.{ltb-true}
use Rattle.grid.specs.Grid.{N_units}
use Rattle.grid.proofs.Outcomes.{of_checked}
use Rattle.judge.specs.Judge.{Claim, claim_checks, case_at, case_verdict, verdict, unjudged, judge_rule}
use Rattle.judge.specs.declared.Judged.{Judged}
use Rattle.judge.specs.declared.Verdict.{Verdict}
use Rattle.judge.proofs.Verdicts.{verdict_small}

-- what holds of each holds of the judge's answer; code 5 is given only for a tolerance above its limit
module _ (P : Judged → Type 0) (m : P (unjudged 1)) (a : P (unjudged 2)) (depth : P (unjudged 3)) (estimate : P (unjudged 4))
    (v : (v : Verdict) → P (verdict v)) where
  pub of_judged : (c : Claim) → (N_units < c.n → P (unjudged 5)) → P (judge_rule c)
  unfolding judge_rule
  of_judged c tolerance =
      let w = case_verdict (case_at c) in
      of_checked P unjudged (verdict w) (claim_checks c)
      (λ t. m, (λ t. a, (λ t. depth, (λ t. estimate, (λ t. tolerance (ltb-true _ _ t), tt))))) (λ p. v w)

-- so each is a byte
pub judged_small : (c : Claim) → ((judge_rule c).code ≤ 10) × ((judge_rule c).verdict ≤ 18)
judged_small c =
    of_judged (λ (j : Judged). (j.code ≤ 10) × (j.verdict ≤ 18)) (omega arith, omega arith) (omega arith, omega arith)
    (omega arith, omega arith) (omega arith, omega arith) (λ v. (omega arith, verdict_small v)) c (λ h. (omega arith, omega arith))
