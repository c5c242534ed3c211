-- The certificate of an angle E, R38.
use Rattle.std.specs.Prelude.{ℕ, ◌+◌, ◌-◌, ◌^◌, ◌<◌, min, Bool, not, ◌&&◌, T}
use Rattle.whole.specs.First.{first_from}
use Rattle.grid.specs.Grid.{T_units, depths}
use Rattle.ends.specs.Ends.{lower_end, upper_end}
use Rattle.orbit.specs.Cell.{Cell}

-- R38: the end below E: a difference of naturals is 0 where it would fall below
abbrev pub low_at : ℕ → ℕ → ℕ
low_at E j = E - 2 ^ j

-- R38: the end above E, not beyond T
abbrev pub high_at : ℕ → ℕ → ℕ
high_at E j = min (E + 2 ^ j) T_units

-- R38: whether both ends are accepted at depth 5
unfoldable pub certifies : Cell → ℕ → ℕ → Bool
certifies c E j = lower_end c depths (low_at E j) && upper_end c depths (high_at E j)

-- R38: how many j there are, from 0 on
abbrev pub widths : ℕ
widths = 31

-- R38: the first j that certifies
unfoldable pub certificate : Cell → ℕ → ℕ
certificate c E = first_from (certifies c E) 0 widths

-- R38: j is the smallest number below n that passes a test
pub record Smallest (test : ℕ → Bool) (n j : ℕ) : Type 0 where
  pub within : j < n
  pub here : T (test j)
  pub before : (k : ℕ) → k < j → T (not (test k))
