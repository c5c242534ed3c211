-- What the entry `settle` answers for any claim that has no depth, R62.
use Rattle.std.specs.Prelude.{ℕ, ◌-◌, Bool, true, false, List, [], ◌∷◌, ◌++◌, Float}
use Rattle.whole.specs.First.{first_from}
use Rattle.grid.specs.Grid.{depths}
use Rattle.grid.specs.Codes.{Check, number, done, checked, n_check}
use Rattle.orbit.specs.Given.{Given, mirrored_of, checks_of}
use Rattle.units.specs.Units.{mirror_double, estimate_check}
use Rattle.judge.specs.Verdict.{verdict_of, verdict_number}
use Rattle.judge.specs.Judge.{Case, claim_of, case_at}
use Rattle.judge.specs.declared.Settled.{Settled}
use Rattle.judge.specs.declared.Verdict.{Verdict}
use Rattle.judge.specs.declared.Verdict.TheVariants.{Confirmed, Refuted, Undecided}

-- R62: whether a verdict decides a claim
abbrev pub decides : Verdict → Bool
decides Confirmed = true
decides Refuted = true
decides Undecided = false

-- R45, R62: the verdict on a case at another depth
abbrev pub verdict_at : Case → ℕ → Verdict
verdict_at k d = verdict_of k.problem.cell d k.units k.tolerance

-- R62: the depths from 1 on are tried in turn: the first that decides, and the case's own, which is the last, where none does
unfoldable pub settled_depth : Case → ℕ
settled_depth k = first_from (λ d. decides (verdict_at k d)) 1 (k.problem.depth - 1)

-- R62: the answer that gives a verdict and a depth
abbrev pub settled_as : Verdict → ℕ → Settled
settled_as v d = record { code = number done; verdict = verdict_number v; depth = d }

-- R62: that depth and its verdict
abbrev pub settled_by : Case → Settled
settled_by k = settled_as (verdict_at k (settled_depth k)) (settled_depth k)

-- R7: zeros beside a code
abbrev pub unsettled : ℕ → Settled
unsettled code = record { code = code; verdict = 0; depth = 0 }

-- R62: the checks of a claim without a depth, codes 1, 2, 4 and 5 in that order
abbrev pub settle_checks : Given → Float → ℕ → List Check
settle_checks g x n = checks_of g ++ estimate_check (mirror_double (mirrored_of g) x) ∷ n_check n ∷ []

-- R62: the first code of these checks, and where there is none the answer by depths up to 5
unfoldable pub settle_rule : Given → Float → ℕ → Settled
settle_rule g x n = checked (settle_checks g x n) unsettled (settled_by (case_at (claim_of g x n depths)))
