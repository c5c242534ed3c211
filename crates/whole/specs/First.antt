-- The first number that passes a test, for R38 and R62.
use Rattle.std.specs.Prelude.{ℕ, zero, suc, Bool, cond}

-- R38, R62: the first of the n numbers from i on that passes a test, and i + n where none does
unfoldable pub first_from : (ℕ → Bool) → ℕ → ℕ → ℕ
first_from test i zero = i
first_from test i (suc n) = cond (test i) i (first_from test (suc i) n)
