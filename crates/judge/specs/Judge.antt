-- What the entry `judge` answers for any claim, R48.
use Rattle.std.specs.Prelude.{ℕ, List, [], ◌∷◌, ◌++◌, Float}
use Rattle.grid.specs.Codes.{Check, number, done, checked, n_check}
use Rattle.orbit.specs.Given.{Given, mirrored_of, cell_of, problem_checks, problem_at}
use Rattle.orbit.specs.declared.pose.Problem.{Problem}
use Rattle.units.specs.Units.{mirror_double, estimate_check, floor_and_ceiling}
use Rattle.units.specs.declared.Units.{Units}
use Rattle.judge.specs.Verdict.{verdict_of, verdict_number}
use Rattle.judge.specs.declared.Judged.{Judged}
use Rattle.judge.specs.declared.Verdict.{Verdict}

-- R48: what is judged: a problem, an estimate in radians, the tolerance N and the depth
pub record Claim : Type 0 where
  pub given : Given
  pub estimate : Float
  pub n : ℕ
  pub depth : ℕ

abbrev pub claim_of : Given → Float → ℕ → ℕ → Claim
claim_of g x n d = record { given = g; estimate = x; n = n; depth = d }

-- R59: the estimate, mirrored with M
abbrev pub estimate_of : Claim → Float
estimate_of c = mirror_double (mirrored_of c.given) c.estimate

-- R48: the checks of a claim, codes 1, 2, 3, 4 and 5 in that order
abbrev pub claim_checks : Claim → List Check
claim_checks c = problem_checks c.given c.depth ++ estimate_check (estimate_of c) ∷ n_check c.n ∷ []

-- R48: what a claim comes to: a problem, f and c, and N
pub record Case : Type 0 where
  pub problem : Problem
  pub units : Units
  pub tolerance : ℕ

-- R48: a claim whose checks pass
abbrev pub case_at : Claim → Case
case_at c =
    record {
      problem = problem_at (cell_of c.given) c.depth;
      units = floor_and_ceiling (estimate_of c);
      tolerance = c.n;
    }

-- R45: the verdict on a case
abbrev pub case_verdict : Case → Verdict
case_verdict k = verdict_of k.problem.cell k.problem.depth k.units k.tolerance

-- R48: the answer that gives a verdict
abbrev pub verdict : Verdict → Judged
verdict v = record { code = number done; verdict = verdict_number v }

-- R7: a zero beside a code
abbrev pub unjudged : ℕ → Judged
unjudged code = record { code = code; verdict = 0 }

-- R48: the first code of the claim's checks, and the verdict where there is none
unfoldable pub judge_rule : Claim → Judged
judge_rule c = checked (claim_checks c) unjudged (verdict (case_verdict (case_at c)))
