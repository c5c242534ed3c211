-- What an entry that bounds a series answers for any two numbers, R16, and sine's entry.
use Rattle.std.specs.Prelude.{ℕ, List, [], ◌∷◌, pos}
use Rattle.grid.specs.Codes.{Check, number, done, checked, depth_check, x_check}
use Rattle.series.specs.Terms.{Series}
use Rattle.series.specs.Bounds.{greatest_low, least_high}
use Rattle.series.specs.Sine.{sine}
use Rattle.series.specs.declared.Bounds.{Bounds}

-- R16: codes 3 and 10 in that order
abbrev pub bounds_checks : ℕ → ℕ → List Check
bounds_checks x d = depth_check d ∷ x_check x ∷ []

-- R7: zeros beside a code
abbrev pub no_bounds : ℕ → Bounds
no_bounds code = record { code = code; lo = pos 0; hi = pos 0 }

-- R16: the two bounds
abbrev pub bounds_of : Series → ℕ → ℕ → Bounds
bounds_of s x d = record { code = number done; lo = greatest_low s x d; hi = least_high s x d }

-- R16: a code, else the bounds
unfoldable pub bounds_rule : Series → ℕ → ℕ → Bounds
bounds_rule s x d = checked (bounds_checks x d) no_bounds (bounds_of s x d)

-- R16: the same of sine
abbrev pub sine_rule : ℕ → ℕ → Bounds
sine_rule x d = bounds_rule sine x d
