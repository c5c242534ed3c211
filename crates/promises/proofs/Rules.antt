-- With code 0 an entry's answer is what its rule gives. Assumes nothing.
use mathlib.Core.Path.{refl}
use mathlib.Core.Bool.{true, false}
use mathlib.Core.List.{[], ◌∷◌}
use Prim.Native.Nat.{ℕ}
use lib.IntN.{nat_abs}
use lib.ListN.{length}
use Rattle.grid.proofs.FirstCode.{goes}
use Rattle.grid.specs.Codes.{a_check, depth_check, x_check, signed_x_check, n_check, method_check}
use Rattle.grid.specs.Flyby.{X_check, flyby_checks}
use Rattle.grid.proofs.Refuses.{gives, gives_value}
use Rattle.series.specs.Sine.{sine}
use Rattle.series.specs.Entry.{bounds_rule}
use Rattle.series.proofs.Answers.{bounded}
use Rattle.cosine.specs.Cosine.{cosine}
use Rattle.units.specs.Units.{floor_and_ceiling, estimate_check}
use Rattle.orbit.specs.Given.{checks_of, problem_checks}
use Rattle.ends.proofs.Answered.{ends}
use Rattle.enclosure.proofs.Encloses.{enclosures}
use Rattle.proposal.specs.Propose.{proposal_rule}
use Rattle.proposal.proofs.Proposed.{proposals}
use Rattle.judge.specs.Verdict.{verdict_number}
use Rattle.judge.specs.Judge.{case_at, case_verdict, judge_rule}
use Rattle.judge.specs.Settle.{settle_rule}
use Rattle.judge.proofs.Answered as judge
use Rattle.judge.proofs.SettleAnswers.{settlings}
use Rattle.distance.specs.Distance.{distance_rule}
use Rattle.distance.proofs.Answered.{distances}
use Rattle.step.specs.Entry.{step_rule, judged_rule}
use Rattle.step.proofs.Answered.{steps, judged_steps}
use Rattle.sinh.specs.Entry.{sinh_rule}
use Rattle.sinh.proofs.Answers.{sinhs}
use Rattle.flyby.specs.Entry as flyby
use Rattle.flyby.proofs.Answered as flyby_answers
use Rattle.flyby_enclosure.specs.Enclosure as flyby_enclosure
use Rattle.flyby_enclosure.proofs.Answers as flyby_encloses
use Rattle.flyby_judge.specs.Judge as flyby_claims
use Rattle.flyby_judge.proofs.Answered as flyby_judged
use Rattle.claims.specs.Form.{twenty}
use Rattle.claims.specs.Record.{record_checks, claim_at, answer_at}
use Rattle.claims.specs.Batch.{batch_rule}
use Rattle.claims.proofs.BatchCount.{batches}
use Rattle.claims.proofs.AnswersBuffer.{byte_answered, byte_kept, length_kept}
use Rattle.claims.proofs.AnswerBytes.{one_of_eight}
use Rattle.promises.specs.Rules.{Rules}
use Rattle.promises.proofs.Demand1.{demand_1}

pub rules : Rules
unfolding bounds_rule proposal_rule judge_rule settle_rule distance_rule step_rule judged_rule sinh_rule flyby.end_rule flyby_enclosure.enclosure_rule flyby_claims.judge_rule batch_rule answer_at
rules =
    record {
      sine = λ x d. gives _ (bounded sine x d);
      cosine = λ x d. gives _ (bounded cosine x d);
      lower_end = λ x g d. gives _ (ends false x g d);
      upper_end = λ x g d. gives _ (ends true x g d);
      enclose = λ g d. gives _ (enclosures g d);
      propose = λ g. gives _ (proposals g);
      judge = λ c. gives _ (judge.claims c);
      settle = λ g x n. gives _ (settlings g x n);
      distance = λ g x. gives _ (distances g x);
      step = λ m a x method. gives _ (steps m a x method);
      step_judged = λ m a x method n d. gives _ (judged_steps m a x method n d);
      flyby_sinh = λ x. gives _ (sinhs x);
      flyby_lower_end = λ x m b. gives _ (flyby_answers.tests false x m b);
      flyby_upper_end = λ x m b. gives _ (flyby_answers.tests true x m b);
      flyby_enclose = λ m b. gives _ (flyby_encloses.enclosures m b);
      flyby_judge = λ k. gives _ (flyby_judged.claims k);
      count = λ claims answers. gives _ (batches twenty (length claims) (length answers));
      written = byte_answered twenty;
      byte = λ claims i e.
          goes (record_checks twenty claims i) ((demand_1.byte claims i).passed.0 e) (λ (k : ℕ). k)
          (verdict_number (case_verdict (case_at (claim_at twenty claims i))));
      one_of_eight = one_of_eight twenty refl;
      beyond = byte_kept twenty;
      room = length_kept twenty;
      angle = λ x. gives_value x (x_check x ∷ []) tt;
      signed_angle = λ x. gives_value (nat_abs x) (signed_x_check x ∷ []) tt;
      flyby_angle = λ x. gives_value x (X_check x ∷ []) tt;
      tolerance = λ n. gives_value n (n_check n ∷ []) tt;
      method = λ n. gives_value _ (method_check n ∷ []) tt;
      eccentricity = λ a. gives_value a (a_check a ∷ []) tt;
      depth = λ d. gives_value d (depth_check d ∷ []) tt;
      cell = λ g. gives_value _ (checks_of g) tt;
      problem = λ g d. gives_value _ (problem_checks g d) tt;
      posed_flyby = λ m b. gives_value _ (flyby_checks m b) tt;
      estimate = λ x. gives_value (floor_and_ceiling x) (estimate_check x ∷ []) tt;
    }
