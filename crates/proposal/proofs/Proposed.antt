-- What the entry answers: its code, and with code 0 the proposal. Assumes nothing.
use mathlib.Core.Path.{refl}
use Rattle.grid.specs.Refuses.{Refuses}
use Rattle.grid.proofs.Refuses.{makes}
use Rattle.orbit.specs.Given.{Given, checks_of}
use Rattle.proposal.specs.Propose.{concluded, candidate_of, proposal_as, proposal_refused, proposal_rule}
use Rattle.proposal.specs.declared.Proposal.{Proposal}

pub proposals : (g : Given) → Refuses (checks_of g) (λ (r : Proposal). r.code) proposal_refused (proposal_rule g)
unfolding concluded proposal_rule
proposals g =
    makes (checks_of g) (λ (r : Proposal). r.code) proposal_refused (proposal_as (candidate_of g)) refl (λ k. refl) tt
