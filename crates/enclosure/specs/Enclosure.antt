-- What the entry `enclose` answers for what is given and a depth, R26 to R28 and R31.
use Rattle.std.specs.Prelude.{ℕ, Bool, true, false, not, List, [], ◌∷◌, ◌++◌, pos, neg_ℤ, Result}
use Rattle.grid.specs.Grid.{T_units}
use Rattle.grid.specs.Codes.{Check, number, done, checked, allowed, answer}
use Rattle.grid.specs.declared.codes.Refusal.{Refusal}
use Rattle.grid.specs.declared.codes.Refusal.TheVariants.{NoUpperEnd}
use Rattle.orbit.specs.Given.{Given, mirrored_of, cell_of, problem_checks}
use Rattle.orbit.specs.Cell.{Cell}
use Rattle.orbit.specs.declared.pose.Posed.{Posed}
use Rattle.ends.specs.Ends.{lower_end, upper_end}
use Rattle.enclosure.specs.declared.Enclosure.{Enclosure}
use Rattle.enclosure.specs.declared.Found.{Found}
use Rattle.enclosure.specs.Halving.{lower_search, upper_search}

-- R5, R28: code 6, by the test of T
abbrev pub T_check : Cell → ℕ → Check
T_check c d = record { fails = not (upper_end c d T_units); code = NoUpperEnd }

-- R31: the codes 1, 2, 3 and 6, in that order
abbrev pub enclosure_checks : Given → ℕ → List Check
enclosure_checks g d = problem_checks g d ++ T_check (cell_of g) d ∷ []

-- R26: a, by the tests of lower ends from 0 to T
unfoldable pub found_lower : Cell → ℕ → ℕ
found_lower c d = lower_search (lower_end c d) T_units

-- R27: b, by the tests of upper ends from 0 to T
unfoldable pub found_upper : Cell → ℕ → ℕ
found_upper c d = upper_search (upper_end c d) T_units

-- R26, R27: both
abbrev pub found_ends : Cell → ℕ → Found
found_ends c d = record { a = found_lower c d; b = found_upper c d }

-- R7: zeros beside a code
abbrev pub refusal : ℕ → Enclosure
refusal code = record { code = code; lower = pos 0; upper = pos 0 }

-- R31: the ends a and b; R59: on the mirror -b and -a
abbrev pub mirror_ends : Bool → ℕ → ℕ → Enclosure
mirror_ends false a b = record { code = number done; lower = pos a; upper = pos b }
mirror_ends true a b = record { code = number done; lower = neg_ℤ (pos b); upper = neg_ℤ (pos a) }

-- R31: both searches
abbrev pub enclosed : Bool → Cell → ℕ → Enclosure
enclosed mirrored c d = mirror_ends mirrored (found_lower c d) (found_upper c d)

-- R31: the first code that applies, or both ends, and whether they are mirrored
abbrev pub enclosure_known : Given → ℕ → Result (Posed Found) Refusal
enclosure_known g d = allowed (enclosure_checks g d) (record { mirrored = mirrored_of g; of = found_ends (cell_of g) d })

-- R31: the ends as the entry says them
abbrev pub said : Posed Found → Enclosure
said p = mirror_ends p.mirrored p.of.a p.of.b

-- R31: what was found as the entry answers it
abbrev pub enclosure_answer : Result (Posed Found) Refusal → Enclosure
enclosure_answer = answer refusal said

-- R31: the first code that applies, and the two ends where none does
abbrev pub enclosure_rule : Given → ℕ → Enclosure
enclosure_rule g d = checked (enclosure_checks g d) refusal (enclosed (mirrored_of g) (cell_of g) d)
