-- The first demand, R5 to R7, of every entry's rule and of every checked constructor. That an entry takes any input and
-- ends (R54) is what its check proves, as its contract has no `requires`.
use Rattle.std.specs.Prelude.{◌≡◌, Bool, cond, List, [], ◌∷◌, ◌++◌, ℕ, T, eqb, ℤ, Float, length}
use Rattle.grid.specs.Codes.{Check, number, done, order, first_code, earlier, code_in, only_code, or, a_check, depth_check, x_check, signed_x_check, n_check, method_check}
use Rattle.grid.specs.Flyby.{X_check, flyby_checks}
use Rattle.grid.specs.Refuses.{Refuses, is_in_order, distinct, all}
use Rattle.grid.specs.Make.{coded_angle, coded_signed, coded_flyby_angle, coded_eccentricity, coded_depth}
use Rattle.series.specs.Entry.{bounds_checks, no_bounds, sine_rule}
use Rattle.series.specs.declared.Bounds.{Bounds}
use Rattle.cosine.specs.Cosine.{cosine_rule}
use Rattle.units.specs.Units.{estimate_check, coded_estimate}
use Rattle.orbit.specs.Given.{Given, checks_of, coded_cell, problem_checks, coded_problem}
use Rattle.ends.specs.Entry.{end_checks, end_refused, lower_rule, upper_rule}
use Rattle.ends.specs.declared.End.{End}
use Rattle.enclosure.specs.Enclosure.{enclosure_checks, refusal, enclosure_rule}
use Rattle.enclosure.specs.declared.Enclosure.{Enclosure}
use Rattle.proposal.specs.Propose.{proposal_refused, proposal_rule}
use Rattle.proposal.specs.declared.Proposal.{Proposal}
use Rattle.judge.specs.Verdict.{verdict_number}
use Rattle.judge.specs.Judge.{Claim, claim_of, claim_checks, unjudged, judge_rule}
use Rattle.judge.specs.Settle.{settle_checks, unsettled, settle_rule}
use Rattle.judge.specs.Limits.{coded_tolerance}
use Rattle.judge.specs.declared.Judged.{Judged}
use Rattle.judge.specs.declared.Settled.{Settled}
use Rattle.judge.specs.declared.Verdict.TheVariants.{Confirmed, Refuted, Undecided}
use Rattle.distance.specs.Distance.{distance_checks, no_distance, distance_rule}
use Rattle.distance.specs.declared.Off.{Off}
use Rattle.step.specs.Entry.{step_checks, unstepped, step_rule, judged_checks, unjudged_step, judged_rule}
use Rattle.step.specs.Known.{coded_method}
use Rattle.step.specs.declared.Stepped.{Stepped}
use Rattle.step.specs.declared.JudgedStep.{JudgedStep}
use Rattle.sinh.specs.Entry.{sinh_checks, sinh_rule}
use Rattle.flyby.specs.Posed.{coded_flyby}
use Rattle.flyby.specs.Entry as flyby
use Rattle.flyby_enclosure.specs.Enclosure as flyby_enclosure
use Rattle.flyby_judge.specs.Judge as flyby_claims
use Rattle.claims.specs.Form.{twenty}
use Rattle.claims.specs.Record.{record_checks, answer_at}
use Rattle.claims.specs.Batch.{batch_checks, batch_with, batch_rule, answers_after}
use Rattle.claims.specs.declared.Batch.{Batch}
use Rattle.promises.specs.Conditions.{Conditions}

-- R50: whether an answer byte is a verdict's number
abbrev pub is_verdict : ℕ → Bool
is_verdict b =
    or (eqb b (verdict_number Confirmed)) (or (eqb b (verdict_number Refuted)) (eqb b (verdict_number Undecided)))

-- the code that an answer byte stands for: beside a verdict there is none
abbrev pub code_of_byte : ℕ → ℕ
code_of_byte b = cond (is_verdict b) (number done) b

abbrev pub batch_of : List ℕ → List ℕ → Batch
batch_of claims answers = batch_rule twenty (length claims) (length answers)

pub record Demand1 : Type 0 where
  pub sine : (x d : ℕ) → Refuses (bounds_checks x d) (λ (r : Bounds). r.code) no_bounds (sine_rule x d)
  pub cosine : (x d : ℕ) → Refuses (bounds_checks x d) (λ (r : Bounds). r.code) no_bounds (cosine_rule x d)
  pub lower_end : (x : ℤ) (g : Given) (d : ℕ) → Refuses (end_checks x g d) (λ (r : End). r.code) end_refused (lower_rule x g d)
  pub upper_end : (x : ℤ) (g : Given) (d : ℕ) → Refuses (end_checks x g d) (λ (r : End). r.code) end_refused (upper_rule x g d)
  pub enclose : (g : Given) (d : ℕ) → Refuses (enclosure_checks g d) (λ (r : Enclosure). r.code) refusal (enclosure_rule g d)
  pub propose : (g : Given) → Refuses (checks_of g) (λ (r : Proposal). r.code) proposal_refused (proposal_rule g)
  pub judge : (c : Claim) → Refuses (claim_checks c) (λ (r : Judged). r.code) unjudged (judge_rule c)
  pub settle : (g : Given) (x : Float) (n : ℕ)
      → Refuses (settle_checks g x n) (λ (r : Settled). r.code) unsettled (settle_rule g x n)
  pub distance : (g : Given) (x : Float) → Refuses (distance_checks g x) (λ (r : Off). r.code) no_distance (distance_rule g x)
  pub step : (m : ℤ) (a : ℕ) (x : Float) (method : ℕ)
      → Refuses (step_checks m a x method) (λ (r : Stepped). r.code) unstepped (step_rule m a x method)
  pub step_judged : (m : ℤ) (a : ℕ) (x : Float) (method n d : ℕ)
      → Refuses (judged_checks m a x method n d) (λ (r : JudgedStep). r.code) unjudged_step (judged_rule m a x method n d)
  pub flyby_sinh : (x : ℕ) → Refuses (sinh_checks x) (λ (r : Bounds). r.code) no_bounds (sinh_rule x)
  pub flyby_lower_end : (x m b : ℕ) → Refuses (flyby.end_checks x m b) (λ (r : End). r.code) end_refused (flyby.lower_rule x m b)
  pub flyby_upper_end : (x m b : ℕ) → Refuses (flyby.end_checks x m b) (λ (r : End). r.code) end_refused (flyby.upper_rule x m b)
  pub flyby_enclose : (m b : ℕ)
      → Refuses (flyby_enclosure.enclosure_checks m b) (λ (r : Enclosure). r.code) refusal (flyby_enclosure.enclosure_rule m b)
  pub flyby_judge : (k : flyby_claims.Claim)
      → Refuses (flyby_claims.claim_checks k) (λ (r : Judged). r.code) unjudged (flyby_claims.judge_rule k)
  pub batch : (claims answers : List ℕ)
      → Refuses (batch_checks twenty (length claims) (length answers)) (λ (r : Batch). r.code) (λ k. batch_with k 0)
      (batch_of claims answers)
  -- R7: the answers buffer is as before
  pub lent : (claims answers : List ℕ) → ((batch_of claims answers).code ≡ number done → ⊥) → answers_after twenty claims answers ≡ answers
  -- R50: the byte of each record
  pub byte : (claims : List ℕ) (i : ℕ) → Refuses (record_checks twenty claims i) code_of_byte (λ k. k) (answer_at twenty claims i)
  -- R4: the checked constructors, and an estimate in units
  pub angle : (x : ℕ) → Refuses (x_check x ∷ []) code_in only_code (coded_angle x)
  pub signed_angle : (x : ℤ) → Refuses (signed_x_check x ∷ []) code_in only_code (coded_signed x)
  pub flyby_angle : (x : ℕ) → Refuses (X_check x ∷ []) code_in only_code (coded_flyby_angle x)
  pub tolerance : (n : ℕ) → Refuses (n_check n ∷ []) code_in only_code (coded_tolerance n)
  pub method : (n : ℕ) → Refuses (method_check n ∷ []) code_in only_code (coded_method n)
  pub eccentricity : (a : ℕ) → Refuses (a_check a ∷ []) code_in only_code (coded_eccentricity a)
  pub depth : (d : ℕ) → Refuses (depth_check d ∷ []) code_in only_code (coded_depth d)
  pub cell : (g : Given) → Refuses (checks_of g) code_in only_code (coded_cell g)
  pub problem : (g : Given) (d : ℕ) → Refuses (problem_checks g d) code_in only_code (coded_problem g d)
  pub posed_flyby : (m b : ℕ) → Refuses (flyby_checks m b) code_in only_code (coded_flyby m b)
  pub estimate : (x : Float) → Refuses (estimate_check x ∷ []) code_in only_code (coded_estimate x)
  -- R6: of checks one after the other the second code counts where the first is `done`
  pub in_turn : (cs ds : List Check) → number (first_code (cs ++ ds)) ≡ earlier (number (first_code cs)) (number (first_code ds))
  -- R6: every list of checks is in the order
  pub flybys_in_order : (x m b n : ℕ) (f : Float)
      → T (all (is_in_order order)
      (sinh_checks x ∷ flyby_checks m b ∷ flyby.end_checks x m b ∷ flyby_enclosure.enclosure_checks m b
      ∷ flyby_claims.claim_checks (flyby_claims.claim_of m b f n) ∷ []))
  pub in_order : (x a d n i method : ℕ) (z : ℤ) (g : Given) (f : Float) (claims answers : List ℕ)
      → T (all (is_in_order order)
      (bounds_checks x d ∷ end_checks z g d ∷ enclosure_checks g d ∷ checks_of g ∷ problem_checks g d
      ∷ claim_checks (claim_of g f n d) ∷ settle_checks g f n ∷ distance_checks g f ∷ step_checks z a f method ∷ judged_checks z a f method n d
      ∷ batch_checks twenty (length claims) (length answers) ∷ record_checks twenty claims i ∷ (x_check x ∷ [])
      ∷ (signed_x_check z ∷ []) ∷ (a_check a ∷ [])
      ∷ (depth_check d ∷ []) ∷ (estimate_check f ∷ []) ∷ []))
  -- R5: when each check fails
  pub conditions : Conditions
  -- R5: no two codes have one number
  pub own : T (distinct order)
