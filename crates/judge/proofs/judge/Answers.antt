-- `judge::judge` meets its contract: what is decided of a claim is answered.
use Rattle.grid.proofs.FirstCode.{answered}
use Rattle.judge.specs.Judge.{claim_checks, case_at, verdict, unjudged, judge_rule}
use Rattle.judge.specs.Decision.{decision}
use Rattle.judge.specs.declared.Decision.{Decision}
use Rattle.judge.proofs.judge.Goals as goal

pub returns : goal.returns
unfolding judge_rule
returns g c =
    let k = c.args.claim in
    answered unjudged (λ (d : Decision). verdict d.verdict) (decision (case_at k)) (claim_checks k) c.from.ensures c.decide.ensures
