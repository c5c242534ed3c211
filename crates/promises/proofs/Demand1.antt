-- The first demand is met. Assumes nothing.
use mathlib.Core.Path.{◌≡◌, refl}
use mathlib.Core.Bool.{true, false}
use mathlib.Core.List.{List, [], ◌∷◌}
use Prim.Native.Nat.{ℕ}
use lib.Dec.{T}
use lib.IntN.{ℤ, nat_abs}
use lib.Ieee.{Float}
use lib.ListN.{length}
use Rattle.grid.specs.Codes.{order, a_check, depth_check, x_check, signed_x_check, n_check, method_check}
use Rattle.grid.specs.Flyby.{X_check, flyby_checks}
use Rattle.grid.specs.Refuses.{Refuses, is_in_order, all}
use Rattle.grid.proofs.Refuses.{refuses, makes_value, in_turn}
use Rattle.series.specs.Sine.{sine}
use Rattle.series.specs.Entry.{bounds_checks, bounds_rule}
use Rattle.series.proofs.Answers.{bounded}
use Rattle.cosine.specs.Cosine.{cosine}
use Rattle.units.specs.Units.{floor_and_ceiling, estimate_check}
use Rattle.orbit.specs.Given.{Given, checks_of, problem_checks}
use Rattle.ends.proofs.Answered.{ends}
use Rattle.enclosure.specs.Enclosure.{enclosure_checks}
use Rattle.ends.specs.Entry.{end_checks}
use Rattle.enclosure.proofs.Encloses.{enclosures}
use Rattle.proposal.specs.Propose.{proposal_rule}
use Rattle.proposal.proofs.Proposed.{proposals}
use Rattle.judge.specs.Verdict.{verdict_number}
use Rattle.judge.specs.Judge.{claim_of, claim_checks, case_at, case_verdict, judge_rule}
use Rattle.judge.specs.Settle.{settle_checks, settle_rule}
use Rattle.judge.specs.declared.Verdict.{Verdict}
use Rattle.judge.specs.declared.Verdict.TheVariants.{Confirmed, Refuted, Undecided}
use Rattle.judge.proofs.Answered as judges
use Rattle.judge.proofs.SettleAnswers.{settlings}
use Rattle.distance.specs.Distance.{distance_checks, distance_rule}
use Rattle.distance.proofs.Answered.{distances}
use Rattle.step.specs.Entry.{step_checks, step_rule, judged_checks, judged_rule}
use Rattle.step.proofs.Answered.{steps, judged_steps}
use Rattle.sinh.specs.Entry.{sinh_checks, sinh_rule}
use Rattle.sinh.proofs.Answers.{sinhs}
use Rattle.flyby.specs.Entry as flyby
use Rattle.flyby.proofs.Answered as flyby_answers
use Rattle.flyby_enclosure.specs.Enclosure as flyby_enclosure
use Rattle.flyby_enclosure.proofs.Answers as flyby_encloses
use Rattle.flyby_judge.specs.Judge as flyby_claims
use Rattle.flyby_judge.proofs.Answered as flyby_judged
use Rattle.claims.specs.Form.{twenty}
use Rattle.claims.specs.Record.{record_checks, claim_at, answer_at}
use Rattle.claims.specs.Batch.{batch_checks, batch_rule}
use Rattle.claims.proofs.BatchCount.{batches}
use Rattle.claims.proofs.AnswersBuffer.{refused_kept}
use Rattle.promises.specs.Demand1.{code_of_byte, Demand1}
use Rattle.promises.proofs.Conditions.{conditions}

pub verdict_code : (v : Verdict) → code_of_byte (verdict_number v) ≡ 0
verdict_code Confirmed = refl
verdict_code Refuted = refl
verdict_code Undecided = refl

bytes : (claims : List ℕ) (i : ℕ) → Refuses (record_checks twenty claims i) code_of_byte (λ k. k) (answer_at twenty claims i)
unfolding answer_at
bytes claims i =
    let v = case_verdict (case_at (claim_at twenty claims i)) in
    refuses code_of_byte (λ k. k) (verdict_number v) (verdict_code v) (record_checks twenty claims i)
    (refl, (refl, (refl, (refl, (refl, (refl, tt)))))) tt

in_order : (x a d n i method : ℕ) (z : ℤ) (g : Given) (f : Float) (claims answers : List ℕ)
    → T (all (is_in_order order)
    (bounds_checks x d ∷ end_checks z g d ∷ enclosure_checks g d ∷ checks_of g ∷ problem_checks g d
    ∷ claim_checks (claim_of g f n d) ∷ settle_checks g f n ∷ distance_checks g f ∷ step_checks z a f method ∷ judged_checks z a f method n d
    ∷ batch_checks twenty (length claims) (length answers)
    ∷ record_checks twenty claims i ∷ (x_check x ∷ []) ∷ (signed_x_check z ∷ []) ∷ (a_check a ∷ []) ∷ (depth_check d ∷ []) ∷ (estimate_check f ∷ []) ∷ []))
in_order x a d n i method z g f claims answers = tt

flybys_in_order : (x m b n : ℕ) (f : Float)
    → T (all (is_in_order order)
    (sinh_checks x ∷ flyby_checks m b ∷ flyby.end_checks x m b ∷ flyby_enclosure.enclosure_checks m b
    ∷ flyby_claims.claim_checks (flyby_claims.claim_of m b f n) ∷ []))
flybys_in_order x m b n f = tt

pub demand_1 : Demand1
unfolding bounds_rule proposal_rule judge_rule settle_rule distance_rule step_rule judged_rule sinh_rule flyby.end_rule flyby_enclosure.enclosure_rule flyby_claims.judge_rule batch_rule
demand_1 =
    record {
      sine = bounded sine;
      cosine = bounded cosine;
      lower_end = ends false;
      upper_end = ends true;
      enclose = λ g d. enclosures g d;
      propose = λ g. proposals g;
      judge = judges.claims;
      settle = λ g x n. settlings g x n;
      distance = λ g x. distances g x;
      step = λ m a x method. steps m a x method;
      step_judged = λ m a x method n d. judged_steps m a x method n d;
      flyby_sinh = λ x. sinhs x;
      flyby_lower_end = λ x m b. flyby_answers.tests false x m b;
      flyby_upper_end = λ x m b. flyby_answers.tests true x m b;
      flyby_enclose = λ m b. flyby_encloses.enclosures m b;
      flyby_judge = λ k. flyby_judged.claims k;
      batch = λ claims answers. batches twenty (length claims) (length answers);
      lent = refused_kept twenty;
      byte = bytes;
      angle = λ x. makes_value x (x_check x ∷ []) tt;
      signed_angle = λ x. makes_value (nat_abs x) (signed_x_check x ∷ []) tt;
      flyby_angle = λ x. makes_value x (X_check x ∷ []) tt;
      tolerance = λ n. makes_value n (n_check n ∷ []) tt;
      method = λ n. makes_value _ (method_check n ∷ []) tt;
      eccentricity = λ a. makes_value a (a_check a ∷ []) tt;
      depth = λ d. makes_value d (depth_check d ∷ []) tt;
      cell = λ g. makes_value _ (checks_of g) tt;
      problem = λ g d. makes_value _ (problem_checks g d) tt;
      posed_flyby = λ m b. makes_value _ (flyby_checks m b) tt;
      estimate = λ x. makes_value (floor_and_ceiling x) (estimate_check x ∷ []) tt;
      in_turn = in_turn;
      flybys_in_order = flybys_in_order;
      in_order = in_order;
      conditions = conditions;
      own = tt;
    }
