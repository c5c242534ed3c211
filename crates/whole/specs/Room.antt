-- What functions ask of a signed number, so that no sum of two leaves the range of an i64. No entry's contract cites this file.
use Rattle.std.specs.Prelude.{ℕ, ◌≤◌, ℤ, nat_abs}

-- 2^40
abbrev pub room : ℕ
room = 1099511627776

pub record Roomy (z : ℤ) : Type 0 where
  pub size : nat_abs z ≤ room
