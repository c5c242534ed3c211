-- What the entry `flyby_sinh` answers for any number, R84.
use Rattle.std.specs.Prelude.{ℕ, List, [], ◌∷◌, pos, Result}
use Rattle.grid.specs.Codes.{Check, number, done, checked, allowed}
use Rattle.grid.specs.declared.codes.Refusal.{Refusal}
use Rattle.grid.specs.Flyby.{X_check}
use Rattle.series.specs.Entry.{no_bounds}
use Rattle.series.specs.declared.Bounds.{Bounds}
use Rattle.series.specs.declared.Interval.{Interval}
use Rattle.sinh.specs.Sinh.{low, high}

-- R84: code 10
abbrev pub sinh_checks : ℕ → List Check
sinh_checks x = X_check x ∷ []

-- R84: the two bounds
abbrev pub sinh_of : ℕ → Bounds
sinh_of x = record { code = number done; lo = pos (low x); hi = pos (high x) }

-- R84: the same as they are; no entry's contract cites this and the next
abbrev pub interval : ℕ → Interval
interval x = record { lo = pos (low x); hi = pos (high x) }

-- R84: code 10, or the two bounds
abbrev pub sinh_known : ℕ → Result Interval Refusal
sinh_known x = allowed (sinh_checks x) (interval x)

-- R84: a code, else low and high
unfoldable pub sinh_rule : ℕ → Bounds
sinh_rule x = checked (sinh_checks x) no_bounds (sinh_of x)
