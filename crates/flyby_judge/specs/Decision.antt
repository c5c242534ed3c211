-- What the function behind the entry answers. No entry's contract cites this file.
use Rattle.std.specs.Prelude.{Result}
use Rattle.grid.specs.Codes.{allowed}
use Rattle.grid.specs.declared.codes.Refusal.{Refusal}
use Rattle.judge.specs.declared.Decision.{Decision}
use Rattle.flyby_judge.specs.Judge.{Claim, claim_checks, claim_verdict}

-- R89: the verdict on a claim; a flyby's tests know no depth, so that the least depth that gives it is 1
abbrev pub decision : Claim → Decision
decision k = record { verdict = claim_verdict k; depth = 1 }

-- R89: the first code that applies, or what is decided
abbrev pub decided_known : Claim → Result Decision Refusal
decided_known k = allowed (claim_checks k) (decision k)
