-- What the two end test entries of a flyby answer for any numbers, R87.
use Rattle.std.specs.Prelude.{ℕ, Bool, true, false, List, [], ◌∷◌, ◌++◌, Result}
use Rattle.grid.specs.Codes.{Check, checked, allowed}
use Rattle.grid.specs.declared.codes.Refusal.{Refusal}
use Rattle.grid.specs.Flyby.{X_check, flyby_checks}
use Rattle.ends.specs.Entry.{end_refused, flagged}
use Rattle.ends.specs.declared.End.{End}
use Rattle.flyby.specs.Ends.{end_at}

-- R87: codes 1, 2 and 10 in that order
abbrev pub end_checks : ℕ → ℕ → ℕ → List Check
end_checks x m b = flyby_checks m b ++ X_check x ∷ []

-- R87: the first code that applies, or whether the end is accepted
abbrev pub end_known : Bool → ℕ → ℕ → ℕ → Result Bool Refusal
end_known upper x m b = allowed (end_checks x m b) (end_at upper m b x)

-- R87: either entry, by its side
unfoldable pub end_rule : Bool → ℕ → ℕ → ℕ → End
end_rule upper x m b = checked (end_checks x m b) end_refused (flagged (end_at upper m b x))

-- R87: the entry `flyby_lower_end`
abbrev pub lower_rule : ℕ → ℕ → ℕ → End
lower_rule = end_rule false

-- R87: the entry `flyby_upper_end`
abbrev pub upper_rule : ℕ → ℕ → ℕ → End
upper_rule = end_rule true
