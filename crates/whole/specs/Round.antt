-- Quotients of whole numbers rounded down and up, for R10, R11, R35 and R41.
use Rattle.std.specs.Prelude.{Bool, true, false, ℕ, ◌+◌, ◌-◌, ◌/◌}

-- R10, R11, R35, R41: a / b rounded down
abbrev pub down : ℕ → ℕ → ℕ
down a b = a / b

-- R10, R11, R41: a / b rounded up, for b above 0
abbrev pub up : ℕ → ℕ → ℕ
up a b = (a + (b - 1)) / b

-- R10, R11, R82: either of them, `true` for what is rounded up
abbrev pub rounded : Bool → ℕ → ℕ → ℕ
rounded true = up
rounded false = down
