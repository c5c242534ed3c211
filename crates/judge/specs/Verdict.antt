-- The verdict, R42 to R45, on an estimate in units u with a tolerance n: by any tests of ends, and by those of a cell c at a depth d.
use Rattle.std.specs.Prelude.{ℕ, ◌+◌, ◌-◌, min, Bool, ◌&&◌, ◌||◌, cond, leb}
use Rattle.grid.specs.Grid.{T_units}
use Rattle.orbit.specs.Cell.{Cell}
use Rattle.ends.specs.Ends.{lower_end, upper_end}
use Rattle.units.specs.declared.Units.{Units}
use Rattle.judge.specs.declared.Verdict.{Verdict}
use Rattle.judge.specs.declared.Verdict.TheVariants.{Confirmed, Refuted, Undecided}

-- R43, R44: what a verdict goes by: whether X is accepted as lower end, whether as upper end, and the greatest X that is asked about
pub record Tests : Type 0 where
  pub lower : ℕ → Bool
  pub upper : ℕ → Bool
  pub top : ℕ

-- R42: p, where the reach begins: a difference of naturals is 0 where it would fall below
abbrev pub low_end : Units → ℕ → ℕ
low_end u n = u.ceiling - n

-- R42: q, where the reach ends, not beyond the top
abbrev pub high_end_to : ℕ → Units → ℕ → ℕ
high_end_to top u n = min (u.floor + n) top

-- R43: p is accepted as lower end and q as upper end
unfoldable pub confirmed_by : Tests → Units → ℕ → Bool
confirmed_by t u n = t.lower (low_end u n) && t.upper (high_end_to t.top u n)

-- R44: an accepted lower end one unit above q; beyond the top there is none
abbrev pub lower_above_by : Tests → Units → ℕ → Bool
lower_above_by t u n = leb (u.floor + n + 1) t.top && t.lower (u.floor + n + 1)

-- R44: an accepted upper end one unit below p; below 0 there is none
abbrev pub upper_below_by : Tests → Units → ℕ → Bool
upper_below_by t u n = leb (n + 1) u.ceiling && t.upper (u.ceiling - (n + 1))

-- R44: the one or the other
unfoldable pub refuted_by : Tests → Units → ℕ → Bool
refuted_by t u n = lower_above_by t u n || upper_below_by t u n

-- R43 to R45: the verdict; which is asked first makes no difference, as by R46 the tests never both hold
unfoldable pub verdict_by : Tests → Units → ℕ → Verdict
verdict_by t u n = cond (confirmed_by t u n) Confirmed (cond (refuted_by t u n) Refuted Undecided)

-- R45: the number of a verdict
abbrev pub verdict_number : Verdict → ℕ
verdict_number Confirmed = 16
verdict_number Refuted = 17
verdict_number Undecided = 18

-- ---- the same by the tests of R18, of a cell at a depth

-- R43, R44: these tests; the greatest X is T
abbrev pub tests_at : Cell → ℕ → Tests
tests_at c d = record { lower = lower_end c d; upper = upper_end c d; top = T_units }

-- R42: q
abbrev pub high_end : Units → ℕ → ℕ
high_end = high_end_to T_units

-- R43
abbrev pub confirmed : Cell → ℕ → Units → ℕ → Bool
confirmed c d = confirmed_by (tests_at c d)

-- R44: the refuting end above q
abbrev pub lower_above : Cell → ℕ → Units → ℕ → Bool
lower_above c d = lower_above_by (tests_at c d)

-- R44: the refuting end below p
abbrev pub upper_below : Cell → ℕ → Units → ℕ → Bool
upper_below c d = upper_below_by (tests_at c d)

-- R44
abbrev pub refuted : Cell → ℕ → Units → ℕ → Bool
refuted c d = refuted_by (tests_at c d)

-- R43 to R45
abbrev pub verdict_of : Cell → ℕ → Units → ℕ → Verdict
verdict_of c d = verdict_by (tests_at c d)
