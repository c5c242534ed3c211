-- What the functions behind both entries answer: the verdict on a case by any tests, and the least depth that gives it. No entry's
-- contract cites this file.
use Rattle.std.specs.Prelude.{ℕ, Bool, true, false, Option, Some, None, Result}
use Rattle.grid.specs.Codes.{checked, allowed, answer}
use Rattle.grid.specs.declared.codes.Refusal.{Refusal}
use Rattle.ends.specs.Least.{from_least}
use Rattle.units.specs.declared.Units.{Units}
use Rattle.judge.specs.Verdict.{Tests, confirmed_by, lower_above_by, upper_below_by}
use Rattle.judge.specs.Judge.{Claim, Case, claim_checks, case_at, case_verdict, verdict, unjudged}
use Rattle.judge.specs.Settle.{settled_depth, settled_as, settled_by, unsettled}
use Rattle.judge.specs.declared.Decision.{Decision}
use Rattle.judge.specs.declared.Judged.{Judged}
use Rattle.judge.specs.declared.Settled.{Settled}
use Rattle.judge.specs.declared.Verdict.TheVariants.{Confirmed, Refuted, Undecided}

-- the tests at a depth of whatever has ends, which are tested at a depth and an X: `true` for an upper one
abbrev pub tests_by : (Bool → ℕ → ℕ → Bool) → ℕ → ℕ → Tests
tests_by test top d = record { lower = test false d; upper = test true d; top = top }

-- R43: the least depth up to a last one whose tests confirm
abbrev pub confirmed_from : (ℕ → Tests) → Units → ℕ → ℕ → Option ℕ
confirmed_from tests u n last = from_least (λ d. confirmed_by (tests d) u n) last

-- R44: the least at which the end above q refutes
abbrev pub above_from : (ℕ → Tests) → Units → ℕ → ℕ → Option ℕ
above_from tests u n last = from_least (λ d. lower_above_by (tests d) u n) last

-- R44: the least at which the end below p refutes
abbrev pub below_from : (ℕ → Tests) → Units → ℕ → ℕ → Option ℕ
below_from tests u n last = from_least (λ d. upper_below_by (tests d) u n) last

-- what these three decide, and the last depth where there is none
abbrev pub decided : Option ℕ → Option ℕ → Option ℕ → ℕ → Decision
decided (Some d) above below last = record { verdict = Confirmed; depth = d }
decided None (Some d) below last = record { verdict = Refuted; depth = d }
decided None None (Some d) last = record { verdict = Refuted; depth = d }
decided None None None last = record { verdict = Undecided; depth = last }

-- what the tests of the depths up to a last one decide
abbrev pub decided_by : (ℕ → Tests) → Units → ℕ → ℕ → Decision
decided_by tests u n last = decided (confirmed_from tests u n last) (above_from tests u n last) (below_from tests u n last) last

-- the verdict at the case's own depth, and the least depth that gives it
abbrev pub decision : Case → Decision
decision k = record { verdict = case_verdict k; depth = settled_depth k }

-- a claim settled by the depths up to its own
unfoldable pub settled_rule : Claim → Settled
settled_rule c = checked (claim_checks c) unsettled (settled_by (case_at c))

-- the first code that applies, or what is decided by the depths up to a claim's own
abbrev pub settled_known : Claim → Result Decision Refusal
settled_known c = allowed (claim_checks c) (decision (case_at c))

-- as the entry `judge` says it
abbrev pub judged_answer : Result Decision Refusal → Judged
judged_answer = answer unjudged (λ d. verdict d.verdict)

-- as the entry `settle` says it
abbrev pub settled_answer : Result Decision Refusal → Settled
settled_answer = answer unsettled (λ d. settled_as d.verdict d.depth)
