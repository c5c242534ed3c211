-- What the lists of numbers to hold against share, R57.
use Rattle.std.specs.Prelude.{List, [], ◌∷◌, ℕ, ℤ, pos, neg_ℤ, Float}
use Rattle.std.specs.Float.{binary64}
use Rattle.std.specs.Float.Ieee.{of_bits}

-- every row of a list, by what a row says
abbrev pub AllHold : {Row : Type 0} → (Row → Type 0) → List Row → Type 0
AllHold holds [] = Unit {0}
AllHold holds (r ∷ rs) = holds r × AllHold holds rs

-- a negative number
abbrev pub minus : ℕ → ℤ
minus n = neg_ℤ (pos n)

-- a double by its bits
abbrev pub double : ℕ → Float
double x = of_bits binary64 x
