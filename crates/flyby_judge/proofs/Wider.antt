-- R89: a greater tolerance keeps Confirmed, and a lesser one Refuted, as accepted ends are unbroken runs. Assumes nothing.
use mathlib.Core.Path.{◌≡◌, refl, ap, ◌∙◌}
use mathlib.Core.Logic.{inl, inr, ⊎_elim}
use Prim.Native.Nat.{ℕ, ◌+◌, ◌-◌, ◌≤◌}
use native.Mathlib.Omega.{arith}
use borrow.Author.Tests.{le-ltb}
use lib.Dec.{T}
use Rattle.grid.specs.Grid.{one, N_units}
use Rattle.grid.specs.Codes.{Passed}
use Rattle.units.specs.declared.Units.{Units}
use Rattle.units.specs.Units.{floor_and_ceiling}
use Rattle.judge.specs.Verdict.{low_end, high_end_to, confirmed_by, refuted_by}
use Rattle.judge.specs.Judge.{verdict}
use Rattle.judge.specs.declared.Verdict.TheVariants.{Confirmed, Refuted}
use Rattle.judge.proofs.Verdicts.{confirmed_by_lem, refuted_by_lem, never_both, is_confirmed, is_refuted, verdict-confirmed, verdict-refuted}
use Rattle.flyby.proofs.Exact.{lower_run, upper_run}
use Rattle.flyby_judge.specs.Judge.{Claim, claim_of, tests_of, claim_checks, judge_rule}
use Rattle.flyby_judge.proofs.Answered.{tests_in_order, case_in, answered, judged_passed, answer_case}

module _ (m b : ℕ) (e : one ≤ b) (u : Units) (n k : ℕ) (more : n ≤ k) where
  confirmed_wider : T (confirmed_by (tests_of m b) u n) → T (confirmed_by (tests_of m b) u k)
  confirmed_wider t =
      let top = (tests_of m b).top in
      let p = (confirmed_by_lem (tests_of m b) u n).0 t in
      (confirmed_by_lem (tests_of m b) u k).1 (
        lower_run m b e (low_end u n) (low_end u k) (omega arith) p.0,
        upper_run m b e (high_end_to top u k) (high_end_to top u n) (omega arith) p.1,
      )

  refuted_narrower : T (refuted_by (tests_of m b) u k) → T (refuted_by (tests_of m b) u n)
  refuted_narrower t =
      (refuted_by_lem (tests_of m b) u n).1
      (⊎_elim
      (λ a.
      let w = a.within in
      inl (record { within = omega arith; lower = lower_run m b e (u.floor + k + 1) (u.floor + n + 1) (omega arith) a.lower }))
      (λ a.
      let w = a.within in
      inr (record { within = omega arith; upper = upper_run m b e (u.ceiling - (n + 1)) (u.ceiling - (k + 1)) (omega arith) a.upper }))
      ((refuted_by_lem (tests_of m b) u k).0 t))

-- the same claim with another tolerance
module _ (c : Claim) (n : ℕ) (few : n ≤ N_units) where
  abbrev other : Claim
  other = claim_of c.m c.b c.estimate n

  other_passed : Passed (claim_checks c) → Passed (claim_checks other)
  other_passed p = (p.0, (p.1.0, (p.1.1.0, (le-ltb N_units n few, tt))))

  pub wider : c.n ≤ n → judge_rule c ≡ verdict Confirmed → judge_rule other ≡ verdict Confirmed
  wider more h =
      let p = judged_passed c Confirmed h in
      let t = tests_of c.m c.b in
      let u = floor_and_ceiling c.estimate in
      answered other (other_passed p)
      ∙ ap verdict
      (verdict-confirmed t u n
      (confirmed_wider c.m c.b (case_in c p).flyby.least u c.n n more (is_confirmed t u c.n (answer_case c Confirmed h))))

  pub narrower : n ≤ c.n → judge_rule c ≡ verdict Refuted → judge_rule other ≡ verdict Refuted
  narrower less h =
      let p = judged_passed c Refuted h in
      let t = tests_of c.m c.b in
      let u = floor_and_ceiling c.estimate in
      let least = (case_in c p).flyby.least in
      let order = tests_in_order c.m c.b least in
      let r = refuted_narrower c.m c.b least u n c.n less (is_refuted t u c.n (answer_case c Refuted h)) in
      answered other (other_passed p)
      ∙ ap verdict (verdict-refuted t u n (λ a. never_both t t u n refl order order (case_in c p).units.ceiling a r) r)
