-- What a verdict says of the ends that R43 and R44 test; for the promises, R19 at them in exact fractions of what is given.
use Rattle.std.specs.Prelude.{true, false, ℕ, ◌+◌, ◌-◌, ◌≤◌}
use Rattle.grid.specs.Grid.{T_units}
use Rattle.orbit.specs.Given.{Given}
use Rattle.ends.specs.Exact.{ExactAt}
use Rattle.units.specs.declared.Units.{Units}
use Rattle.judge.specs.Verdict.{low_end, high_end_to}
use Rattle.judge.specs.Judge.{Claim}

-- ---- of any tests: Lower is what is said of a lower end, Upper of an upper one

-- R43: at p and q
pub record ConfirmedSays (Lower Upper : ℕ → Type 0) (top : ℕ) (u : Units) (n : ℕ) : Type 0 where
  pub lower : Lower (low_end u n)
  pub upper : Upper (high_end_to top u n)

-- R44: at the refuting end above q
pub record AboveSays (Lower : ℕ → Type 0) (top : ℕ) (u : Units) (n : ℕ) : Type 0 where
  pub within : u.floor + n + 1 ≤ top
  pub lower : Lower (u.floor + n + 1)

-- R44: at the refuting end below p
pub record BelowSays (Upper : ℕ → Type 0) (u : Units) (n : ℕ) : Type 0 where
  pub within : n + 1 ≤ u.ceiling
  pub upper : Upper (u.ceiling - (n + 1))

-- ---- of what is given

-- R19, R43: the exact inequalities at p and q
abbrev pub ConfirmedExact : Given → Units → ℕ → Type 0
ConfirmedExact g = ConfirmedSays (ExactAt false g) (ExactAt true g) T_units

-- R19, R44: the exact inequality at the refuting end above q
abbrev pub AboveExact : Given → Units → ℕ → Type 0
AboveExact g = AboveSays (ExactAt false g) T_units

-- R19, R44: the exact inequality at the refuting end below p
abbrev pub BelowExact : Given → Units → ℕ → Type 0
BelowExact g = BelowSays (ExactAt true g)

-- R47: the same claim at another depth
abbrev pub at_depth : Claim → ℕ → Claim
at_depth k d = record { given = k.given; estimate = k.estimate; n = k.n; depth = d }
