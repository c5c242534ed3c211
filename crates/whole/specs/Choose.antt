-- The greater and the lesser of two signed whole numbers, for R13.
use Rattle.std.specs.Prelude.{cond, ℤ}
use Rattle.std.specs.Int.Signed.{le_z}

-- R13: by which the greatest raw low is chosen
abbrev pub greater : ℤ → ℤ → ℤ
greater a b = cond (le_z a b) b a

-- R13: by which the least raw high is chosen
abbrev pub lesser : ℤ → ℤ → ℤ
lesser a b = cond (le_z a b) a b
