-- A flyby within its limits, as the functions take it. No entry's contract cites this file.
use Rattle.std.specs.Prelude.{ℕ, ◌≤◌, Result}
use Rattle.grid.specs.Grid.{one}
use Rattle.grid.specs.Codes.{allowed}
use Rattle.grid.specs.Flyby.{M_top, B_top, X_top, flyby_checks}
use Rattle.grid.specs.declared.codes.Refusal.{Refusal}

-- R81: M and B
pub record Flyby : Type 0 where
  pub mean : ℕ
  pub shape : ℕ

-- R81: the first code that applies, or the flyby
abbrev pub coded_flyby : ℕ → ℕ → Result Flyby Refusal
coded_flyby m b = allowed (flyby_checks m b) (record { mean = m; shape = b })

-- R81: its limits
pub record FlybyIn (f : Flyby) : Type 0 where
  pub mean : f.mean ≤ M_top
  pub least : one ≤ f.shape
  pub shape : f.shape ≤ B_top

-- a flyby and an X within their limits
pub record Asked (f : Flyby) (x : ℕ) : Type 0 where
  pub flyby : FlybyIn f
  pub top : x ≤ X_top
