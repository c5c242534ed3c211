-- A number in whole units, R1: of the grid; R41 and R60: from a binary64 number, or the code of one that is off range, R5.
use Rattle.std.specs.Prelude.{ℕ, ◌*◌, Bool, true, false, cond, ◌&&◌, [], ◌∷◌, nat_lt, Float, Result, Ok, Err}
use Rattle.std.specs.Float.{nan, inf, fin}
use Rattle.std.specs.Float.Ieee.{neg}
use Rattle.std.specs.Float.Ieee.Positive.{num, den}
use Rattle.whole.specs.Round.{down, up}
use Rattle.grid.specs.Grid.{one, T_units}
use Rattle.grid.specs.Codes.{Check, or, allowed}
use Rattle.grid.specs.declared.codes.Refusal.{Refusal}
use Rattle.grid.specs.declared.codes.Refusal.TheVariants.{BadEstimate}
use Rattle.units.specs.declared.Units.{Units}

-- R1: a number of the grid
abbrev pub exactly : ℕ → Units
exactly n = record { floor = n; ceiling = n }

-- R59: a double, or on the mirror its negative
abbrev pub mirror_double : Bool → Float → Float
mirror_double false x = x
mirror_double true x = neg x

-- R60: whether a double is below 0: neither zero is, nor a NaN
unfoldable pub is_below_zero : Float → Bool
is_below_zero nan = false
is_below_zero (inf s) = s
is_below_zero (fin s m exp) = s && nat_lt 0 m

-- R41: a finite number is num / den in size, so it is exactly product / den units
abbrev pub product : Float → ℕ
product x = one * num x

-- R41: f and c
abbrev pub floor_and_ceiling : Float → Units
floor_and_ceiling x = record { floor = down (product x) (den x); ceiling = up (product x) (den x) }

-- R5: x is not from 0 to `limit` units; R41: a minus sign before 0 is no number below zero
unfoldable pub off_range : ℕ → Float → Bool
off_range limit nan = true
off_range limit (inf s) = true
off_range limit (fin s m exp) = or (s && nat_lt 0 m) (nat_lt (limit * den (fin s m exp)) (product (fin s m exp)))

-- R5, R41: f and c of a number, or why there are none where it is off range
abbrev pub coded_units : {R : Type 0} → Float → ℕ → R → Result Units R
coded_units x limit refusal = cond (off_range limit x) (Err refusal) (Ok (floor_and_ceiling x))

-- R5: a number off its range
abbrev pub range_check : Float → ℕ → Refusal → Check
range_check x limit code = record { fails = off_range limit x; code = code }

-- R5: code 4, an estimate beyond T
abbrev pub estimate_check : Float → Check
estimate_check x = range_check x T_units BadEstimate

-- R41: f and c of an estimate, or code 4
abbrev pub coded_estimate : Float → Result Units Refusal
coded_estimate x = allowed (estimate_check x ∷ []) (floor_and_ceiling x)
