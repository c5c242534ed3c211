-- `claims::judge_claims` meets its contract: what is counted is answered.
use Rattle.std.proofs.Common.{length}
use Rattle.claims.specs.Form.{twenty}
use Rattle.claims.proofs.BatchCount.{returned}
use Rattle.claims.proofs.judge_claims.Goals as goal

pub returns-clause-value : goal.returns-clause-value
returns-clause-value c =
    returned twenty (length c.args.claims.now) (length c.args.answers.now) c.from.ensures c.judge_records.ensures.value
