-- What the entry answers to a claim: its code, what 16 and 17 say, and that they are kept at every greater depth.
-- Assumes nothing.
use mathlib.Core.Path.{◌≡◌, refl, sym, ap, ◌∙◌}
use mathlib.Core.Logic.{◌⊎◌}
use mathlib.Core.List.{[], ◌∷◌}
use Prim.Native.Nat.{ℕ, ◌≤◌}
use native.Mathlib.Omega.{arith}
use lib.Ieee.{Float}
use Rattle.std.specs.Prelude.{Result, Ok}
use Rattle.grid.specs.Grid.{T_units, depths, N_units}
use Rattle.grid.specs.Codes.{Passed, n_check}
use Rattle.grid.specs.Refuses.{Refuses}
use Rattle.grid.specs.declared.codes.Refusal.{Refusal}
use Rattle.grid.specs.declared.codes.Refusal.TheVariants.{BadEstimate, BadN}
use Rattle.grid.proofs.FirstCode as checks
use Rattle.grid.proofs.FirstCode.{goes, made, passes, split, join}
use Rattle.grid.proofs.Refuses.{makes, through, alike_given}
use Rattle.grid.proofs.Fits.{limit_fits, depth_passes}
use Rattle.orbit.specs.Given.{mirrored_of, cell_of, problem_checks, problem_at, coded_problem}
use Rattle.orbit.specs.declared.pose.Posed.{Posed}
use Rattle.orbit.specs.declared.pose.Problem.{Problem}
use Rattle.orbit.proofs.Posed.{problem_in}
use Rattle.units.specs.Units.{mirror_double, floor_and_ceiling, estimate_check, coded_units}
use Rattle.units.specs.declared.Units.{Units}
use Rattle.units.proofs.Rounding.{estimate_fits}
use Rattle.judge.specs.Judge.{Claim, Case, estimate_of, claim_checks, case_at, case_verdict, verdict, unjudged, judge_rule}
use Rattle.judge.specs.Settle.{verdict_at, settled_depth, settled_as, settled_by, unsettled}
use Rattle.judge.specs.Decision.{decided_by, decision, settled_rule, settled_known, settled_answer}
use Rattle.judge.specs.Verdict.{tests_at}
use Rattle.judge.specs.Exact.{ConfirmedExact, AboveExact, BelowExact, at_depth}
use Rattle.judge.specs.Limits.{CaseIn, coded_tolerance}
use Rattle.judge.specs.declared.Decision.{Decision}
use Rattle.judge.specs.declared.Judged.{Judged}
use Rattle.judge.specs.declared.Settled.{Settled}
use Rattle.judge.specs.declared.Verdict.{Verdict}
use Rattle.judge.specs.declared.Verdict.TheVariants.{Confirmed, Refuted}
use Rattle.judge.proofs.Verdicts.{one-verdict}
use Rattle.judge.proofs.Settles.{decision_is, depth_few, from_depth}
use Rattle.judge.proofs.Kept.{is_confirmed, is_refuted, confirmed_exact, refuted_exact, confirmed_kept, refuted_kept}

module _ (k : Claim) where
  pub claims : Refuses (claim_checks k) (λ (j : Judged). j.code) unjudged (judge_rule k)
  unfolding judge_rule
  claims = makes (claim_checks k) (λ (j : Judged). j.code) unjudged (verdict (case_verdict (case_at k))) refl (λ n. refl) tt

  -- what settles it by the depths up to its own refuses by the same checks
  pub settled_claims : Refuses (claim_checks k) (λ (s : Settled). s.code) unsettled (settled_rule k)
  unfolding settled_rule
  settled_claims = makes (claim_checks k) (λ (s : Settled). s.code) unsettled (settled_by (case_at k)) refl (λ n. refl) tt

  -- a claim whose checks pass is within every limit
  pub case_in : Passed (claim_checks k) → CaseIn (case_at k)
  case_in p =
      let (posed, rest) = split (problem_checks k.given k.depth) (estimate_check (estimate_of k) ∷ n_check k.n ∷ []) p in
      record {
        problem = problem_in k.given k.depth posed;
        units = estimate_fits (estimate_of k) rest.0;
        tolerance = limit_fits k.n N_units BadN rest.1.0;
      }

  -- what is answered where every check passes
  pub answered : Passed (claim_checks k) → judge_rule k ≡ verdict (case_verdict (case_at k))
  unfolding judge_rule
  answered p = goes (claim_checks k) p unjudged (verdict (case_verdict (case_at k)))

  -- an answer that gives a verdict: every check passed
  pub judged_passed : (v : Verdict) → judge_rule k ≡ verdict v → Passed (claim_checks k)
  judged_passed v h = claims.passed.0 (ap (λ (j : Judged). j.code) h)

-- what is made on the way of a claim, each after its checks
module _ (k : Claim) {p : Result (Posed Problem) Refusal} {posed : Posed Problem} (problem : p ≡ coded_problem k.given k.depth) (is_posed : p ≡ Ok posed) {value : Float} (mirrored : value ≡ mirror_double posed.mirrored k.estimate) {u : Result Units Refusal} {units : Units} (in_units : u ≡ coded_units value T_units BadEstimate) (has_units : u ≡ Ok units) {t : Result ℕ Refusal} {n : ℕ} (tolerance : t ≡ coded_tolerance k.n) (tolerates : t ≡ Ok n) where
  abbrev case_made : Case
  case_made = record { problem = posed.of; units = units; tolerance = n }

  made_passed : Passed (claim_checks k) × (case_made ≡ case_at k)
  made_passed =
      let given : Posed Problem = record { mirrored = mirrored_of k.given; of = problem_at (cell_of k.given) k.depth } in
      let first = made given (problem_checks k.given k.depth) (sym problem ∙ is_posed) in
      let v : value ≡ estimate_of k = mirrored ∙ ap (λ (p : Posed Problem). mirror_double p.mirrored k.estimate) first.1 in
      let next = made (floor_and_ceiling (estimate_of k)) (estimate_check (estimate_of k) ∷ []) (rw v at (sym in_units ∙ has_units)) in
      let last = made k.n (n_check k.n ∷ []) (sym tolerance ∙ tolerates) in (
        join (problem_checks k.given k.depth) (estimate_check (estimate_of k) ∷ n_check k.n ∷ []) first.0 (next.0.0, (last.0.0, tt)),
        simp (first.1, next.1, last.1),
      )

  pub case_within : CaseIn case_made
  case_within = rw made_passed.1 (case_in k made_passed.0)

  pub case_decided : {d : Decision} → d ≡ decided_by (tests_at posed.of.cell) units n posed.of.depth → Ok d ≡ settled_known k
  case_decided e =
      ap Ok (e ∙ decision_is case_made case_within ∙ ap decision made_passed.1)
      ∙ sym (passes (decision (case_at k)) (claim_checks k) [] made_passed.0)

-- the verdict at the depth that a case settles for is the last depth's
settled_is : (k : Claim) → Passed (claim_checks k) → case_verdict (case_at k) ≡ verdict_at (case_at k) (settled_depth (case_at k))
settled_is k p =
    let h = case_in k p in
    from_depth (case_at k) h k.depth (depth_few (case_at k) h) (omega arith)

-- what is decided of a claim, as it is answered
pub settled_said : (k : Claim) {known : Result Decision Refusal} {said : Settled} → said ≡ settled_answer known → known ≡ settled_known k
    → said ≡ settled_rule k
unfolding settled_rule
settled_said k said known =
    let d = settled_depth (case_at k) in
    checks.answered unsettled (λ (r : Decision). settled_as r.verdict r.depth) (decision (case_at k)) (claim_checks k) said known
    ∙ alike_given unsettled (settled_as (case_verdict (case_at k)) d) (settled_by (case_at k)) (claim_checks k)
    (λ p. ap (λ (v : Verdict). settled_as v d) (settled_is k p))

-- R62: the code and the verdict of a settled claim
abbrev pub to_judged : Settled → Judged
to_judged s = record { code = s.code; verdict = s.verdict }

-- R62: they are the judge's at the last depth tried
pub judged_is : (k : Claim) → judge_rule k ≡ to_judged (settled_rule k)
unfolding judge_rule settled_rule
judged_is k =
    alike_given unjudged (verdict (case_verdict (case_at k))) (to_judged (settled_by (case_at k))) (claim_checks k)
    (λ p. ap verdict (settled_is k p))
    ∙ sym (through to_judged unsettled (settled_by (case_at k)) (claim_checks k))

module _ (k : Claim) where
  -- the verdict answered is the case's
  pub answer_case : (v : Verdict) → judge_rule k ≡ verdict v → case_verdict (case_at k) ≡ v
  answer_case v h =
      one-verdict (case_verdict (case_at k)) v (ap (λ (j : Judged). j.verdict) (sym (answered k (judged_passed k v h)) ∙ h))

  module _ (v : Verdict) (h : judge_rule k ≡ verdict v) where
    limits : CaseIn (case_at k)
    limits = case_in k (judged_passed k v h)

  -- Confirmed: both exact inequalities, at p and at q
  pub confirmed_says : judge_rule k ≡ verdict Confirmed → ConfirmedExact k.given (case_at k).units k.n
  confirmed_says h =
      let t = limits Confirmed h in
      confirmed_exact k.given (case_at k).units k.n t.units.ceiling k.depth t.problem.depth.few
      (is_confirmed (cell_of k.given) (case_at k).units k.n k.depth (answer_case Confirmed h))

  -- Refuted: the exact inequality at the refuting end
  pub refuted_says : judge_rule k ≡ verdict Refuted
      → AboveExact k.given (case_at k).units k.n ⊎ BelowExact k.given (case_at k).units k.n
  refuted_says h =
      let t = limits Refuted h in
      refuted_exact k.given (case_at k).units k.n t.units.ceiling k.depth t.problem.depth.few
      (is_refuted (cell_of k.given) (case_at k).units k.n k.depth (answer_case Refuted h))

  module _ (e : ℕ) (deeper : k.depth ≤ e) (few : e ≤ depths) where
    deeper_passed : Passed (claim_checks k) → Passed (claim_checks (at_depth k e))
    deeper_passed p =
        let some = (case_in k p).problem.depth.some in
        (p.0, (p.1.0, (depth_passes e (omega arith) few, p.1.1.1)))

    -- a verdict Confirmed or Refuted is the verdict at every greater depth
    pub confirmed_at : judge_rule k ≡ verdict Confirmed → judge_rule (at_depth k e) ≡ verdict Confirmed
    confirmed_at h =
        answered (at_depth k e) (deeper_passed (judged_passed k Confirmed h))
        ∙ ap verdict (confirmed_kept (cell_of k.given) (case_at k).units k.n k.depth e deeper (answer_case Confirmed h))

    pub refuted_at : judge_rule k ≡ verdict Refuted → judge_rule (at_depth k e) ≡ verdict Refuted
    refuted_at h =
        let t = limits Refuted h in
        answered (at_depth k e) (deeper_passed (judged_passed k Refuted h))
        ∙ ap verdict
        (refuted_kept (cell_of k.given) (case_at k).units k.n k.depth e deeper few t.problem.cell t.units.ceiling (answer_case Refuted h))
