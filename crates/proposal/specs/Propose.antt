-- What the entry `propose` answers for what is given, R40.
use Rattle.std.specs.Prelude.{ℕ, Bool, pos, Result}
use Rattle.grid.specs.Codes.{number, done, checked, allowed, answer}
use Rattle.grid.specs.declared.codes.Refusal.{Refusal}
use Rattle.orbit.specs.Mirror.{mirror}
use Rattle.orbit.specs.Cell.{Cell}
use Rattle.orbit.specs.Given.{Given, checks_of, mirrored_of, cell_of}
use Rattle.rotations.specs.Rotate.{rotated, brought}
use Rattle.rotations.specs.declared.State.{State}
use Rattle.proposal.specs.Certify.{certificate}
use Rattle.proposal.specs.declared.Candidate.{Candidate}
use Rattle.proposal.specs.declared.Proposal.{Proposal}

-- R40: from the last state, E brought into range and its certificate; y and x as the last rotation left them
unfoldable pub concluded : Cell → State → Candidate
concluded c s =
    record {
      angle = pos (brought s.angle);
      y = s.sine;
      x = s.cosine;
      j = certificate c (brought s.angle);
    }

-- R35, R40: the rotations take M and A rounded down
abbrev pub proposed : Cell → Candidate
proposed c = concluded c (rotated c.m.floor c.a.floor)

-- R59: on the mirror E and y change their signs; x and j do not
abbrev pub mirror_candidate : Bool → Candidate → Candidate
mirror_candidate mirrored r = record { angle = mirror mirrored r.angle; y = mirror mirrored r.y; x = r.x; j = r.j }

-- R40: what is proposed, beside a code
abbrev pub proposal_beside : ℕ → Candidate → Proposal
proposal_beside code r = record { code = code; angle = r.angle; y = r.y; x = r.x; j = r.j }

-- R40: as the entry gives it
abbrev pub proposal_as : Candidate → Proposal
proposal_as = proposal_beside (number done)

-- R7: zeros beside a code
abbrev pub proposal_refused : ℕ → Proposal
proposal_refused code = proposal_beside code (record { angle = pos 0; y = pos 0; x = pos 0; j = 0 })

-- R40, R59: of whatever is given what is proposed, mirrored with M
abbrev pub candidate_of : Given → Candidate
candidate_of g = mirror_candidate (mirrored_of g) (proposed (cell_of g))

-- R40: the first code that applies, or what is proposed
abbrev pub proposal_known : Given → Result Candidate Refusal
proposal_known g = allowed (checks_of g) (candidate_of g)

-- R40: as the entry says it
abbrev pub proposal_answer : Result Candidate Refusal → Proposal
proposal_answer = answer proposal_refused proposal_as

-- R59: a whole answer on the mirror
abbrev pub mirror_proposal : Bool → Proposal → Proposal
mirror_proposal mirrored r = proposal_beside r.code (mirror_candidate mirrored (record { angle = r.angle; y = r.y; x = r.x; j = r.j }))

-- R40: codes 1 and 2 in that order, or the proposal
unfoldable pub proposal_rule : Given → Proposal
proposal_rule g = checked (checks_of g) proposal_refused (proposal_as (candidate_of g))
