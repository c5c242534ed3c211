-- What the entry `distance` answers for what is given and an estimate, R67 and R68.
use Rattle.std.specs.Prelude.{ℕ, ◌-◌, max, List, [], ◌∷◌, ◌++◌, Float, Result}
use Rattle.grid.specs.Grid.{depths}
use Rattle.grid.specs.Codes.{Check, number, done, checked, allowed, answer}
use Rattle.grid.specs.declared.codes.Refusal.{Refusal}
use Rattle.units.specs.Units.{mirror_double, estimate_check, floor_and_ceiling}
use Rattle.units.specs.declared.Units.{Units}
use Rattle.orbit.specs.Given.{Given, mirrored_of, cell_of, checks_of}
use Rattle.enclosure.specs.declared.Found.{Found}
use Rattle.enclosure.specs.Enclosure.{found_ends}
use Rattle.distance.specs.declared.Away.{Away}
use Rattle.distance.specs.declared.Off.{Off}

-- R67: the greatest of a - c, f - b and 0: a difference of naturals is 0 where it would fall below
abbrev pub least_off : Found → Units → ℕ
least_off r u = max (r.a - u.ceiling) (u.floor - r.b)

-- R67: the greater of c - a and b - f, of which one at most would fall below 0
abbrev pub most_off : Found → Units → ℕ
most_off r u = max (u.ceiling - r.a) (r.b - u.floor)

-- R67: both
abbrev pub off_by : Found → Units → Away
off_by r u = record { least = least_off r u; most = most_off r u }

-- R59: the estimate in units, mirrored with M
abbrev pub units_of : Given → Float → Units
units_of g x = floor_and_ceiling (mirror_double (mirrored_of g) x)

-- R7: zeros beside a code
abbrev pub no_distance : ℕ → Off
no_distance code = record { code = code; least = 0; most = 0 }

-- R68: both as the entry gives them
abbrev pub off_as : Away → Off
off_as d = record { code = number done; least = d.least; most = d.most }

-- R68: codes 1, 2 and 4, in that order
abbrev pub distance_checks : Given → Float → List Check
distance_checks g x = checks_of g ++ estimate_check (mirror_double (mirrored_of g) x) ∷ []

-- R68: the first code that applies, or the distances by the ends found at depth 5
abbrev pub distance_known : Given → Float → Result Away Refusal
distance_known g x = allowed (distance_checks g x) (off_by (found_ends (cell_of g) depths) (units_of g x))

-- R68: as the entry says it
abbrev pub distance_answer : Result Away Refusal → Off
distance_answer = answer no_distance off_as

-- R68: the first code that applies, and where none does the distances by the ends found at depth 5
unfoldable pub distance_rule : Given → Float → Off
distance_rule g x = checked (distance_checks g x) no_distance (off_as (off_by (found_ends (cell_of g) depths) (units_of g x)))
