-- `judge::decide` meets its contract: every check passed, so that the case is the claim's own and within its limits.
use Rattle.judge.specs.Judge.{claim_of}
use Rattle.judge.proofs.Answered.{case_within, case_decided}
use Rattle.judge.proofs.decide.Goals as goal

pub invariant_of-case : goal.invariant_of-case
invariant_of-case g c =
    let i = c.claim.inside in
    let k = claim_of (g.G.Given.given i.given) i.estimate i.n i.depth in
    let h =
    case_within k c.pose.ensures c.in_ok-posed.was c.mirror-value.ensures c.in_units.ensures c.in_ok-units.was c.try_from.ensures
    c.in_ok-tolerance.was in
    record { within = h.units; tried = h.problem.depth }

pub returns : goal.returns
returns g c =
    let i = c.claim.inside in
    let k = claim_of (g.G.Given.given i.given) i.estimate i.n i.depth in
    rw (← c.claim.view_is)
    (case_decided k c.pose.ensures c.in_ok-posed.was c.mirror-value.ensures c.in_units.ensures c.in_ok-units.was c.try_from.ensures
    c.in_ok-tolerance.was c.decide.ensures)
