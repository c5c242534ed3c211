-- The limits of a tolerance and of a case, which the checks have seen to. No entry's contract cites this file.
use Rattle.std.specs.Prelude.{ℕ, ◌≤◌, [], ◌∷◌, Result}
use Rattle.grid.specs.Grid.{N_units}
use Rattle.grid.specs.Codes.{allowed, n_check}
use Rattle.grid.specs.declared.codes.Refusal.{Refusal}
use Rattle.orbit.specs.Given.{ProblemIn}
use Rattle.units.specs.Limits.{UnitsIn}
use Rattle.judge.specs.Judge.{Case}

-- R4: code 5, or the tolerance
abbrev pub coded_tolerance : ℕ → Result ℕ Refusal
coded_tolerance n = allowed (n_check n ∷ []) n

pub record CaseIn (k : Case) : Type 0 where
  pub problem : ProblemIn k.problem
  pub units : UnitsIn k.units
  pub tolerance : k.tolerance ≤ N_units
