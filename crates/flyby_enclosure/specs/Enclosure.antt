-- What the entry `flyby_enclose` answers for any numbers, R88: the searches of R25 to R27 by the flyby's tests, up to its top.
use Rattle.std.specs.Prelude.{ℕ, true, false, not, List, [], ◌∷◌, ◌++◌, Result}
use Rattle.grid.specs.Codes.{Check, checked, allowed}
use Rattle.grid.specs.Flyby.{X_top, flyby_checks}
use Rattle.grid.specs.declared.codes.Refusal.{Refusal}
use Rattle.grid.specs.declared.codes.Refusal.TheVariants.{NoFlybyEnd}
use Rattle.orbit.specs.declared.pose.Posed.{Posed}
use Rattle.enclosure.specs.declared.Enclosure.{Enclosure}
use Rattle.enclosure.specs.declared.Found.{Found}
use Rattle.enclosure.specs.Halving.{lower_search, upper_search}
use Rattle.enclosure.specs.Enclosure.{refusal, mirror_ends}
use Rattle.flyby.specs.Ends.{end_at}

-- R88: code 15, by the test of the top
abbrev pub top_check : ℕ → ℕ → Check
top_check m b = record { fails = not (end_at true m b X_top); code = NoFlybyEnd }

-- R88: the codes 1, 2 and 15, in that order
abbrev pub enclosure_checks : ℕ → ℕ → List Check
enclosure_checks m b = flyby_checks m b ++ top_check m b ∷ []

-- R88: the lower end, by the tests of lower ends from 0 to the top
unfoldable pub found_lower : ℕ → ℕ → ℕ
found_lower m b = lower_search (end_at false m b) X_top

-- R88: the upper end, by the tests of upper ends from 0 to the top
unfoldable pub found_upper : ℕ → ℕ → ℕ
found_upper m b = upper_search (end_at true m b) X_top

-- R88: both
abbrev pub found_ends : ℕ → ℕ → Found
found_ends m b = record { a = found_lower m b; b = found_upper m b }

-- R88: both, as they are: a flyby has no mirror
abbrev pub enclosed : ℕ → ℕ → Enclosure
enclosed m b = mirror_ends false (found_lower m b) (found_upper m b)

-- R88: the first code that applies, or both ends, which nothing mirrors
abbrev pub enclosure_known : ℕ → ℕ → Result (Posed Found) Refusal
enclosure_known m b = allowed (enclosure_checks m b) (record { mirrored = false; of = found_ends m b })

-- R88: the first code that applies, and the two ends where none does
unfoldable pub enclosure_rule : ℕ → ℕ → Enclosure
enclosure_rule m b = checked (enclosure_checks m b) refusal (enclosed m b)
