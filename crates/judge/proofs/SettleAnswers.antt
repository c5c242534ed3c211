-- What the entry `settle` answers, R62: its codes, that code and verdict are the judge's at depth 5, and what every depth's verdict is.
-- Assumes nothing.
use mathlib.Core.Path.{◌≡◌, refl, sym, ap, subst, ◌∙◌}
use mathlib.Core.Bool.{not}
use mathlib.Core.Logic.{◌⊎◌, ⊎_elim}
use Prim.Native.Nat.{ℕ, ◌≤◌, ◌<◌}
use native.Mathlib.Omega.{arith}
use native.Mathlib.Nat.{eq-or-lt_of_le}
use lib.Dec.{T}
use lib.Ieee.{Float}
use Rattle.grid.specs.Grid.{depths}
use Rattle.grid.specs.Codes.{Passed, number, done}
use Rattle.grid.specs.Refuses.{Refuses}
use Rattle.grid.proofs.FirstCode.{goes}
use Rattle.grid.proofs.Refuses.{makes}
use Rattle.grid.proofs.Fits.{depth_passes}
use Rattle.orbit.specs.Given.{Given}
use Rattle.judge.specs.Verdict.{verdict_number}
use Rattle.judge.specs.Judge.{Case, claim_of, claim_checks, case_at, verdict, judge_rule}
use Rattle.judge.specs.Settle.{decides, verdict_at, settled_depth, settled_as, settled_by, unsettled, settle_checks, settle_rule}
use Rattle.judge.specs.Decision.{settled_rule}
use Rattle.judge.specs.Exact.{ConfirmedExact, AboveExact, BelowExact}
use Rattle.judge.specs.Limits.{CaseIn}
use Rattle.judge.specs.declared.Settled.{Settled}
use Rattle.judge.specs.declared.Verdict.{Verdict}
use Rattle.judge.specs.declared.Verdict.TheVariants.{Confirmed, Refuted, Undecided}
use Rattle.judge.proofs.Settles.{depth_some, depth_few, before_depth, at_depth_lem, from_depth}
use Rattle.judge.proofs.Answered.{to_judged, judged_is, case_in, answered, confirmed_says, refuted_says}

-- a verdict that doesn't decide, and one whose number is that of none
undecided_is : (v : Verdict) → T (not (decides v)) → v ≡ Undecided
undecided_is Confirmed t = absurd t
undecided_is Refuted t = absurd t
undecided_is Undecided t = refl

not_undecided : (v : Verdict) → verdict_number v ≡ verdict_number Undecided → T (decides v) → ⊥
not_undecided Confirmed e t = omega arith
not_undecided Refuted e t = omega arith
not_undecided Undecided e t = t

module _ (g : Given) (x : Float) (n : ℕ) where
  pub settlings : Refuses (settle_checks g x n) (λ (s : Settled). s.code) unsettled (settle_rule g x n)
  unfolding settle_rule
  settlings =
      makes (settle_checks g x n) (λ (s : Settled). s.code) unsettled (settled_by (case_at (claim_of g x n depths))) refl (λ k. refl) tt

  -- depth 5 is never refused
  pub settle_is : settle_rule g x n ≡ settled_rule (claim_of g x n depths)
  unfolding settle_rule settled_rule
  settle_is = refl

  pub at_last : judge_rule (claim_of g x n depths) ≡ to_judged (settle_rule g x n)
  at_last = judged_is (claim_of g x n depths) ∙ ap to_judged (sym settle_is)

  abbrev case : Case
  case = case_at (claim_of g x n depths)

  module _ (z : (settle_rule g x n).code ≡ number done) where
    passed : Passed (settle_checks g x n)
    passed = settlings.passed.0 z

    passed_at : (d : ℕ) → 1 ≤ d → d ≤ depths → Passed (claim_checks (claim_of g x n d))
    passed_at d some few = (passed.0, (passed.1.0, (depth_passes d some few, passed.1.1)))

    within : CaseIn case
    within = case_in (claim_of g x n depths) (passed_at depths (omega arith) (omega arith))

    answer : settle_rule g x n ≡ settled_by case
    unfolding settle_rule
    answer = goes (settle_checks g x n) passed unsettled (settled_by case)

    depth_is : (settle_rule g x n).depth ≡ settled_depth case
    depth_is = ap (λ (s : Settled). s.depth) answer

    pub some : 1 ≤ (settle_rule g x n).depth
    some = rw depth_is (depth_some case within)

    pub few : (settle_rule g x n).depth ≤ depths
    few = rw depth_is (depth_few case within)

    -- from the depth that is answered on, every depth has the verdict that is answered
    pub from_there : (d : ℕ) → (settle_rule g x n).depth ≤ d → d ≤ depths → judge_rule (claim_of g x n d) ≡ to_judged (settle_rule g x n)
    from_there d h k =
        let s = some in
        answered (claim_of g x n d) (passed_at d (omega arith) k)
        ∙ ap verdict (from_depth case within d (subst (λ (e : ℕ). e ≤ d) depth_is h) k) ∙ ap to_judged (sym answer)

    -- no lesser depth decides
    pub lesser : (d : ℕ) → 1 ≤ d → d < (settle_rule g x n).depth → judge_rule (claim_of g x n d) ≡ verdict Undecided
    lesser d s h =
        let f = few in
        answered (claim_of g x n d) (passed_at d s (omega arith))
        ∙ ap verdict (undecided_is (verdict_at case d) (before_depth case within d s (subst (λ (e : ℕ). d < e) depth_is h)))

    -- undecided is answered with depth 5
    pub none_decides : (settle_rule g x n).verdict ≡ verdict_number Undecided → (settle_rule g x n).depth ≡ depths
    none_decides e =
        ⊎_elim (λ h. h)
        (λ h. absurd (not_undecided (verdict_at case (settled_depth case)) (sym (ap (λ (s : Settled). s.verdict) answer) ∙ e) (at_depth_lem case within (subst (λ (d : ℕ). d < depths) depth_is h))))
        (eq-or-lt_of_le few)

  -- ---- what a verdict says

  judged_as_lem : (v : Verdict) (d : ℕ) → settle_rule g x n ≡ settled_as v d → judge_rule (claim_of g x n depths) ≡ verdict v
  judged_as_lem v d e = at_last ∙ ap to_judged e

  pub confirmed-true : (d : ℕ) → settle_rule g x n ≡ settled_as Confirmed d → ConfirmedExact g case.units n
  confirmed-true d e = confirmed_says (claim_of g x n depths) (judged_as_lem Confirmed d e)

  pub refuted-true : (d : ℕ) → settle_rule g x n ≡ settled_as Refuted d → AboveExact g case.units n ⊎ BelowExact g case.units n
  refuted-true d e = refuted_says (claim_of g x n depths) (judged_as_lem Refuted d e)
