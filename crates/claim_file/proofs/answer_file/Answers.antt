-- `claim_file::answer_file` meets its contract: the answers stand at the buffer's start, as many as the batch counted.
use Rattle.std.proofs.Common.{◌≡◌, ◌∙◌, sym, arith, length}
use Rattle.std.proofs.Math.Seq.{length-take-le}
use Rattle.claims.specs.Form.{twenty}
use Rattle.claims.specs.Batch.{batch_rule}
use Rattle.claims.proofs.BatchCount.{counted_is, count_fits}
use Rattle.claims.proofs.AnswersBuffer.{length_kept}
use Rattle.claim_file.specs.File.{most_claims}
use Rattle.claim_file.proofs.CodeOutput.{counted, left}
use Rattle.claim_file.proofs.answer_file.Goals as goal
use Rattle.claim_file.proofs.answer_file.Goals.{After-unwrap_or}

-- as many as the batch counts
count : (c : After-unwrap_or) → c.unwrap_or.result ≡ (batch_rule twenty (length c.args.input.now) (length c.args.answers.now)).count
count c = c.unwrap_or.ensures ∙ counted_is _ _ _ _ c.judge_records.ensures.value

pub returns-clause-value : goal.returns-clause-value
returns-clause-value c =
    let room : length c.args.answers.now ≡ most_claims = omega arith in
    count c ∙ counted c.args.input.now c.args.answers.now c.if-input-gt-MOST_BYTES.false room

pub returns-clause-answers_after : goal.returns-clause-answers_after
returns-clause-answers_after c =
    let room : length c.args.answers.now ≡ most_claims = omega arith in
    c.judge_records.ensures.answers_after
    ∙ left c.args.input.now c.args.answers.now c.if-input-gt-MOST_BYTES.false room

pub returns-clause-within : goal.returns-clause-within
returns-clause-within c =
    let kept = length_kept twenty c.args.input.now c.args.answers.now in
    rw (count c, c.judge_records.ensures.answers_after, kept)
    (count_fits twenty (length c.args.input.now) (length c.args.answers.now))

pub returns-clause-prefix_len : goal.returns-clause-prefix_len
returns-clause-prefix_len c = sym (length-take-le _ _ (returns-clause-within c))
