-- What the two end test entries answer for any numbers, R24.
use Rattle.std.specs.Prelude.{ℕ, Bool, true, false, List, [], ◌∷◌, ◌++◌, ℤ, nat_abs, Result}
use Rattle.grid.specs.Codes.{Check, number, done, checked, allowed, answer, signed_x_check}
use Rattle.grid.specs.declared.codes.Refusal.{Refusal}
use Rattle.orbit.specs.Mirror.{mirror, mirror_end}
use Rattle.orbit.specs.Given.{Given, mirrored_of, cell_of, problem_checks}
use Rattle.ends.specs.Ends.{end_at}
use Rattle.ends.specs.declared.End.{End}

-- R24: codes 1, 2, 3 and 10 in that order; R59: on the mirror it is -X that is from 0 to T
abbrev pub end_checks : ℤ → Given → ℕ → List Check
end_checks x g d = problem_checks g d ++ signed_x_check (mirror (mirrored_of g) x) ∷ []

-- R7: a zero beside a code
abbrev pub end_refused : ℕ → End
end_refused code = record { code = code; accepted = 0 }

-- R24: accepted or not, as the entries say it
abbrev pub flagged : Bool → End
flagged true = record { code = number done; accepted = 1 }
flagged false = record { code = number done; accepted = 0 }

-- R24: the test of an upper end, `true`, or of a lower one; R59: on the mirror the other end's, at -X
abbrev pub end_of : Bool → Given → ℕ → ℤ → Bool
end_of upper g d x = end_at (mirror_end (mirrored_of g) upper) (cell_of g) d (nat_abs x)

-- R24: the first code that applies, or whether the end is accepted
abbrev pub end_known : Bool → ℤ → Given → ℕ → Result Bool Refusal
end_known upper x g d = allowed (end_checks x g d) (end_of upper g d x)

-- R24: as the entries say it
abbrev pub end_answer : Result Bool Refusal → End
end_answer = answer end_refused flagged

-- R24: either entry, by its side
abbrev pub end_rule : Bool → ℤ → Given → ℕ → End
end_rule upper x g d = checked (end_checks x g d) end_refused (flagged (end_of upper g d x))

-- R24: the entry `lower_end`
abbrev pub lower_rule : ℤ → Given → ℕ → End
lower_rule = end_rule false

-- R24: the entry `upper_end`
abbrev pub upper_rule : ℤ → Given → ℕ → End
upper_rule = end_rule true
