-- `step::step_judged` meets its contract: the step that is known is answered beside its verdict.
use Rattle.std.proofs.Common.{ap, ◌∙◌}
use Rattle.grid.specs.Codes.{checked}
use Rattle.grid.proofs.FirstCode.{answered}
use Rattle.step.specs.Entry.{step_from, judged_checks, unjudged_step, judged_rule}
use Rattle.step.specs.Known.{outcome_as}
use Rattle.step.proofs.Judged.{outcome_is}
use Rattle.step.proofs.step_judged.Goals as goal

pub returns : goal.returns
unfolding judged_rule
returns c =
    let a = c.args in
    let g = a.given in
    let checks = judged_checks g.m g.a a.estimate a.method a.n a.depth in
    answered unjudged_step outcome_as _ checks c.from.ensures c.take_judged.ensures
    ∙ ap (checked checks unjudged_step) (outcome_is g.m g.a a.n a.depth (step_from g.m g.a a.estimate a.method))
