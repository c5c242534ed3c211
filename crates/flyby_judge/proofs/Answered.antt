-- What the entry answers to a claim: its code, and what its verdict says. Assumes nothing.
use mathlib.Core.Path.{◌≡◌, refl, sym, ap, ◌∙◌}
use mathlib.Core.Bool.{Bool, true, false, cond, ◌||◌}
use mathlib.Core.List.{[], ◌∷◌}
use mathlib.Core.Logic.{◌⊎◌}
use Prim.Native.Nat.{ℕ, ◌≤◌}
use lib.Dec.{T}
use Rattle.whole.specs.First.{first_from}
use Rattle.grid.specs.Grid.{one, N_units}
use Rattle.grid.specs.Codes.{Passed, n_check}
use Rattle.grid.specs.Flyby.{X_top, flyby_checks}
use Rattle.grid.specs.Refuses.{Refuses}
use Rattle.grid.specs.declared.codes.Refusal.TheVariants.{BadEstimate, BadN}
use Rattle.grid.proofs.FirstCode.{goes, split}
use Rattle.grid.proofs.Fits.{limit_fits}
use Rattle.grid.proofs.Refuses.{makes}
use Rattle.ends.specs.Least.{least_depth, from_least}
use Rattle.units.specs.Units.{range_check, floor_and_ceiling}
use Rattle.units.proofs.Rounding.{range_fits}
use Rattle.units.specs.declared.Units.{Units}
use Rattle.judge.specs.Verdict.{Tests, confirmed_by, lower_above_by, upper_below_by, refuted_by, verdict_by}
use Rattle.judge.specs.Judge.{verdict, unjudged}
use Rattle.judge.specs.Decision.{decided, decided_by}
use Rattle.judge.specs.Exact.{ConfirmedSays, AboveSays, BelowSays}
use Rattle.judge.specs.declared.Judged.{Judged}
use Rattle.judge.specs.declared.Verdict.{Verdict}
use Rattle.judge.specs.declared.Verdict.TheVariants.{Confirmed, Refuted, Undecided}
use Rattle.judge.proofs.Verdicts.{InOrder, one-verdict, is_confirmed, is_refuted, confirmed_says, refuted_says}
use Rattle.flyby.specs.Ends.{Meets}
use Rattle.flyby.proofs.Posed.{flyby_in}
use Rattle.flyby.proofs.Exact.{end_true, apart}
use Rattle.flyby_judge.specs.Judge.{Claim, tests_of, claim_checks, claim_verdict, judge_rule}
use Rattle.flyby_judge.specs.Decision.{decision}
use Rattle.flyby_judge.specs.Limits.{CaseIn}

-- R46: the ends of a flyby's tests are in order
pub tests_in_order : (m b : ℕ) → one ≤ b → InOrder (tests_of m b) (tests_of m b)
tests_in_order m b e X Y x y p q = apart m b X Y e p q

-- what tests that know no depth decide: the verdict by them, at the one depth that is tried
at_one : (a b c : Bool) → decided (from_least (λ d. a) 1) (from_least (λ d. b) 1) (from_least (λ d. c) 1) 1
    ≡ record { verdict = cond a Confirmed (cond (b || c) Refuted Undecided); depth = 1 }
unfolding least_depth first_from
at_one true b c = refl
at_one false true c = refl
at_one false false true = refl
at_one false false false = refl

-- so it is of a flyby's
pub decision_is : (k : Claim) → decided_by (λ d. tests_of k.m k.b) (floor_and_ceiling k.estimate) k.n 1 ≡ decision k
unfolding verdict_by refuted_by
decision_is k =
    let t : Tests = tests_of k.m k.b in
    let u : Units = floor_and_ceiling k.estimate in
    at_one (confirmed_by t u k.n) (lower_above_by t u k.n) (upper_below_by t u k.n)

module _ (k : Claim) where
  pub claims : Refuses (claim_checks k) (λ (j : Judged). j.code) unjudged (judge_rule k)
  unfolding judge_rule
  claims = makes (claim_checks k) (λ (j : Judged). j.code) unjudged (verdict (claim_verdict k)) refl (λ n. refl) tt

  -- a claim whose checks pass is within every limit
  pub case_in : Passed (claim_checks k) → CaseIn k
  case_in p =
      let (posed, rest) = split (flyby_checks k.m k.b) (range_check k.estimate X_top BadEstimate ∷ n_check k.n ∷ []) p in
      record {
        flyby = flyby_in k.m k.b posed;
        units = range_fits k.estimate X_top BadEstimate rest.0;
        tolerance = limit_fits k.n N_units BadN rest.1.0;
      }

  pub answered : Passed (claim_checks k) → judge_rule k ≡ verdict (claim_verdict k)
  unfolding judge_rule
  answered p = goes (claim_checks k) p unjudged (verdict (claim_verdict k))

  -- an answer that gives a verdict: every check passed, and the verdict is the claim's
  pub judged_passed : (v : Verdict) → judge_rule k ≡ verdict v → Passed (claim_checks k)
  judged_passed v h = claims.passed.0 (ap (λ (j : Judged). j.code) h)

module _ (k : Claim) where
  pub answer_case : (v : Verdict) → judge_rule k ≡ verdict v → claim_verdict k ≡ v
  answer_case v h =
      one-verdict (claim_verdict k) v (ap (λ (j : Judged). j.verdict) (sym (answered k (judged_passed k v h)) ∙ h))

  -- R86 at the ends behind a verdict
  low_says : (X : ℕ) → X ≤ X_top → T ((tests_of k.m k.b).lower X) → Meets false k.m k.b X
  low_says X h t = end_true k.m k.b X false t

  high_says : (X : ℕ) → X ≤ X_top → T ((tests_of k.m k.b).upper X) → Meets true k.m k.b X
  high_says X h t = end_true k.m k.b X true t

  abbrev u : Units
  u = floor_and_ceiling k.estimate

  pub confirmed_exact : judge_rule k ≡ verdict Confirmed → ConfirmedSays (Meets false k.m k.b) (Meets true k.m k.b) X_top u k.n
  confirmed_exact h =
      confirmed_says (tests_of k.m k.b) (Meets false k.m k.b) (Meets true k.m k.b) low_says high_says u k.n
      (case_in k (judged_passed k Confirmed h)).units.ceiling
      (is_confirmed (tests_of k.m k.b) u k.n (answer_case Confirmed h))

  pub refuted_exact : judge_rule k ≡ verdict Refuted → AboveSays (Meets false k.m k.b) X_top u k.n ⊎ BelowSays (Meets true k.m k.b) u k.n
  refuted_exact h =
      refuted_says (tests_of k.m k.b) (Meets false k.m k.b) (Meets true k.m k.b) low_says high_says u k.n
      (case_in k (judged_passed k Refuted h)).units.ceiling
      (is_refuted (tests_of k.m k.b) u k.n (answer_case Refuted h))
