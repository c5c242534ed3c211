-- The sign of a whole number, for R36 and R59.
use Rattle.std.specs.Prelude.{Bool, true, false, ℤ, pos, negsuc, neg_ℤ}

-- R36, R59: z, or its negative: `true` for plus
abbrev pub signed_by : Bool → ℤ → ℤ
signed_by true z = z
signed_by false z = neg_ℤ z

-- R59: whether z is below 0
abbrev pub negative : ℤ → Bool
negative (pos n) = false
negative (negsuc n) = true
