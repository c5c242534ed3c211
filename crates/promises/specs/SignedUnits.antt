-- The enclosure at depth 5, and an estimate in units with its sign, for R63 to R65 and R68 to R70: over what is given, M of either
-- sign.
use Rattle.std.specs.Prelude.{Bool, true, false, ℕ, ◌<◌, ℤ, pos, neg_ℤ, ◌+ℤ◌, ◌-ℤ◌, ◌*ℤ◌, ◌≤ℤ◌, ◌<ℤ◌, Float}
use Rattle.grid.specs.Grid.{depths}
use Rattle.units.specs.Units.{product}
use Rattle.units.specs.Exact.{InUnits}
use Rattle.units.specs.declared.Units.{Units}
use Rattle.orbit.specs.Mirror.{mirror}
use Rattle.orbit.specs.Given.{Given, mirrored_of}
use Rattle.enclosure.specs.Enclosure.{enclosure_rule}
use Rattle.enclosure.specs.declared.Enclosure.{Enclosure}
use Rattle.distance.specs.Distance.{units_of}

-- R63, R68: lower and upper
abbrev pub enclosure_of : Given → Enclosure
enclosure_of g = enclosure_rule g depths

-- R64, R65, R68: f and c with the estimate's sign, which is M's: the floor of -x is minus the ceiling of x, and its ceiling minus
-- the floor of x
abbrev pub signed_floor : Bool → Units → ℤ
signed_floor false u = pos u.floor
signed_floor true u = neg_ℤ (pos u.ceiling)

abbrev pub signed_ceiling : Bool → Units → ℤ
signed_ceiling false u = pos u.ceiling
signed_ceiling true u = neg_ℤ (pos u.floor)

abbrev pub floor_of : Given → Float → ℤ
floor_of g x = signed_floor (mirrored_of g) (units_of g x)

abbrev pub ceiling_of : Given → Float → ℤ
ceiling_of g x = signed_ceiling (mirrored_of g) (units_of g x)

-- R41: the estimate is value_of / den units
abbrev pub value_of : Given → Float → ℤ
value_of g x = mirror (mirrored_of g) (pos (product x))

-- R64, R65, R68: f and c are the floor and the ceiling of x, which is p / q units
pub record SignedRounded (x : Float) (p : ℤ) (q : ℕ) (f c : ℤ) : Type 0 where
  pub over_0 : 0 < q
  pub value : InUnits x p q
  pub floor_least : (f *ℤ pos q) ≤ℤ p
  pub floor_most : p <ℤ ((f +ℤ pos 1) *ℤ pos q)
  pub ceiling_least : p ≤ℤ (c *ℤ pos q)
  pub ceiling_most : ((c -ℤ pos 1) *ℤ pos q) <ℤ p
