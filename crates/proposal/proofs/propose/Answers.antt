-- `proposal::propose` meets its contract: what was proposed is answered.
use Rattle.grid.proofs.FirstCode.{answered}
use Rattle.orbit.specs.Given.{checks_of}
use Rattle.proposal.specs.Propose.{proposal_as, proposal_refused, proposal_rule}
use Rattle.proposal.proofs.propose.Goals as goal

pub returns : goal.returns
unfolding proposal_rule
returns g c = answered proposal_refused proposal_as _ (checks_of (g.G.Given.given c.args.given)) c.from.ensures c.posed_proposal.ensures
