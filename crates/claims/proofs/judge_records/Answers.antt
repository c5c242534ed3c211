-- `claims::judge_records` meets its contract: each turn answers one record more, and there are as many turns as records counted.
use Rattle.std.proofs.Common.{◌≡◌, ◌<◌, ◌∙◌, sym, ap, subst, refl, arith, length, rules}
use Rattle.claims.specs.Form.{FormIn}
use Rattle.claims.specs.Batch.{written}
use Rattle.claims.proofs.BatchCount.{returned, count_is}
use Rattle.claims.proofs.AnswersBuffer.{written_none}
use Rattle.claims.proofs.CodeBatch.{answered_none, answered_more, counted, all_answered, after_rule}
use Rattle.claims.proofs.judge_records.Goals as goal
use Rattle.claims.proofs.judge_records.Goals.{After-answer_byte}

pub loop-i-init : goal.loop-i-init
loop-i-init c = record {
  can_next = search rules;
  is_finite = search rules;
  width = search rules;
  so_far =
      let none = answered_none c.args.form c.args.claims.now c.args.answers.now in
      let same = c.into_iter-i-iterator.ensures.into_iter_gives in
      rw (same, c.enumerate-i-items.ensures.count, c.enumerate-i-items.ensures.source, c.chunks_exact.ensures.rest) none;
}

-- a turn: its record is whole, and is counted, so that its answer has a place
module _ (c : After-answer_byte) where
  form_in : FormIn c.args.form
  form_in = subst FormIn c.form.view_is c.form.invariant

  whole : length c.in-Some.bytes.now ≡ c.args.form.width
  whole = c.in-Some.ensures.steps.0.1.1 ∙ c.loop-i.invariant.width

  in_room : c.loop-i.i-iterator.count < length c.args.answers.now
  in_room =
      let n = counted _ _ _ _ _ _ c.loop-i.invariant.so_far _ _ c.in-Some.ensures.steps.0.1.0 whole form_in.some in
      let k = (count_is c.args.form (length c.args.claims.now) (length c.args.answers.now) (sym c.in_ok-count.was ∙ c.batch_of.ensures)).1 in
      omega arith

pub bounds-answers-i : goal.bounds-answers-i
bounds-answers-i c =
    let room = in_room c in
    omega (arith, c.in-Some.ensures.steps.1)

pub loop-i-preserved : goal.loop-i-preserved
loop-i-preserved c = record {
  can_next = search rules;
  is_finite = search rules;
  width = search rules;
  so_far =
      let step = c.in-Some.ensures.steps in
      let more = answered_more _ _ _ _ _ _ c.loop-i.invariant.so_far _ _ step.0.1.0 (whole c) (form_in c) (in_room c) in
      rw (step.1, step.2, c.answer_byte.ensures) more;
}

-- no record is left: the answers are as many as were counted
pub returns-clause-answers_after : goal.returns-clause-answers_after
returns-clause-answers_after c =
    let form = c.args.form in
    let claims = c.args.claims.now in
    let answers = c.args.answers.now in
    let form_in = subst FormIn c.form.view_is c.form.invariant in
    let left = c.in-None.ensures.steps.0.1.0 in
    let all = all_answered _ _ _ _ _ _ c.loop-i.invariant.so_far form_in.some (rw c.loop-i.invariant.width at left) in
    let same = (count_is form (length claims) (length answers) (sym c.in_ok-count.was ∙ c.batch_of.ensures)).0 in
    c.loop-i.invariant.so_far.answers_are
    ∙ ap (λ n. written form claims n answers) (sym (same ∙ all))
    ∙ after_rule form claims answers (returned _ _ _ refl (sym c.in_ok-count.was ∙ c.batch_of.ensures))

pub returns-in_err-count-clause-answers_after : goal.returns-in_err-count-clause-answers_after
returns-in_err-count-clause-answers_after c =
    let form = c.args.form in
    let claims = c.args.claims.now in
    let answers = c.args.answers.now in
    written_none form claims answers ∙ after_rule form claims answers (returned _ _ _ refl (sym c.in_err-count.was ∙ c.batch_of.ensures))
