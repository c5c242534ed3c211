-- `step::step` meets its contract: the step that is known is answered.
use Rattle.grid.proofs.FirstCode.{answered}
use Rattle.step.specs.Entry.{step_checks, unstepped, stepped_as, step_rule}
use Rattle.step.proofs.step.Goals as goal

pub returns : goal.returns
unfolding step_rule
returns c =
    let a = c.args in
    answered unstepped stepped_as _ (step_checks a.given.m a.given.a a.estimate a.method) c.from.ensures c.take.ensures
