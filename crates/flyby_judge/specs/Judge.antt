-- What the entry `flyby_judge` answers for any claim, R89: the verdict of R42 to R45 by the flyby's tests, up to its top.
use Rattle.std.specs.Prelude.{ℕ, true, false, List, [], ◌∷◌, ◌++◌, Float}
use Rattle.grid.specs.Codes.{Check, checked, n_check}
use Rattle.grid.specs.Flyby.{X_top, flyby_checks}
use Rattle.grid.specs.declared.codes.Refusal.TheVariants.{BadEstimate}
use Rattle.units.specs.Units.{range_check, floor_and_ceiling}
use Rattle.judge.specs.Verdict.{Tests, verdict_by}
use Rattle.judge.specs.Judge.{verdict, unjudged}
use Rattle.judge.specs.declared.Judged.{Judged}
use Rattle.judge.specs.declared.Verdict.{Verdict}
use Rattle.flyby.specs.Ends.{end_at}

-- R89: the tests of R85; the greatest X is 2^29
abbrev pub tests_of : ℕ → ℕ → Tests
tests_of m b = record { lower = end_at false m b; upper = end_at true m b; top = X_top }

-- R89: what is judged: M, B, an estimate in radians and the tolerance N
pub record Claim : Type 0 where
  pub m : ℕ
  pub b : ℕ
  pub estimate : Float
  pub n : ℕ

abbrev pub claim_of : ℕ → ℕ → Float → ℕ → Claim
claim_of m b x n = record { m = m; b = b; estimate = x; n = n }

-- R89: codes 1, 2, 4 and 5 in that order
abbrev pub claim_checks : Claim → List Check
claim_checks k = flyby_checks k.m k.b ++ range_check k.estimate X_top BadEstimate ∷ n_check k.n ∷ []

-- R89: the verdict, with f and c of the estimate as in R41
abbrev pub claim_verdict : Claim → Verdict
claim_verdict k = verdict_by (tests_of k.m k.b) (floor_and_ceiling k.estimate) k.n

-- R89: the first code of the claim's checks, and the verdict where there is none
unfoldable pub judge_rule : Claim → Judged
judge_rule k = checked (claim_checks k) unjudged (verdict (claim_verdict k))
