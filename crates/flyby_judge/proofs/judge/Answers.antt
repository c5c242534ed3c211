-- `flyby_judge::judge` meets its contract: what is decided of a claim is answered.
use Rattle.grid.proofs.FirstCode.{answered}
use Rattle.judge.specs.Judge.{verdict, unjudged}
use Rattle.judge.specs.declared.Decision.{Decision}
use Rattle.flyby_judge.specs.Judge.{claim_of, claim_checks, judge_rule}
use Rattle.flyby_judge.specs.Decision.{decision}
use Rattle.flyby_judge.proofs.judge.Goals as goal

pub returns : goal.returns
unfolding judge_rule
returns c =
    let k = claim_of c.args.given.m c.args.given.b c.args.estimate c.args.n in
    answered unjudged (λ (d : Decision). verdict d.verdict) (decision k) (claim_checks k) c.from.ensures c.decide.ensures
