-- The terms l_k and u_k in units, R10 and R11, for any series whose terms are made alike.
use Rattle.std.specs.Prelude.{ℕ, zero, suc, ◌*◌}
use Rattle.grid.specs.Grid.{one}
use Rattle.whole.specs.Round.{down, up}

-- R8, R11: what tells one series from another: term 0, in units, at an angle of X units, and the number that term k is
-- divided by
pub record Series : Type 0 where
  pub term0 : ℕ → ℕ
  pub divisor : ℕ → ℕ

-- R10: the square, rounded down to units
abbrev pub Q- : ℕ → ℕ
Q- X = down (X * X) one

-- R10: the square, rounded up to units
abbrev pub Q+ : ℕ → ℕ
Q+ X = up (X * X) one

-- R11: a term made from the one before it by Q-, rounded down once
unfoldable pub l : Series → ℕ → ℕ → ℕ
l s X zero = s.term0 X
l s X (suc k) = down (l s X k * Q- X) (one * s.divisor (suc k))

-- R11: a term made from the one before it by Q+, rounded up once
unfoldable pub u : Series → ℕ → ℕ → ℕ
u s X zero = s.term0 X
u s X (suc k) = up (u s X k * Q+ X) (one * s.divisor (suc k))
