-- What the exact sums are multiplied out by, R8.
use Rattle.std.specs.Prelude.{ℕ, zero, suc, ◌*◌}

-- R8: n!
unfoldable pub factorial : ℕ → ℕ
factorial zero = 1
factorial (suc n) = suc n * factorial n
