-- The checked ways to make an angle, an eccentricity and a depth, R4: the value, or why there is none.
use Rattle.std.specs.Prelude.{ℕ, [], ◌∷◌, ℤ, nat_abs, Result}
use Rattle.grid.specs.Codes.{allowed, limit_check, signed_x_check, a_check, depth_check}
use Rattle.grid.specs.declared.codes.Refusal.TheVariants.{BadX}
use Rattle.grid.specs.Grid.{T_units}
use Rattle.grid.specs.Flyby.{X_top}
use Rattle.grid.specs.declared.codes.Refusal.{Refusal}

-- R4: code 10, or the angle up to a top
abbrev pub angle_up_to : ℕ → ℕ → Result ℕ Refusal
angle_up_to top x = allowed (limit_check x top BadX ∷ []) x

-- R4: the same of an orbit's
abbrev pub coded_angle : ℕ → Result ℕ Refusal
coded_angle x = angle_up_to T_units x

-- R4: the same of a number that has a sign
abbrev pub coded_signed : ℤ → Result ℕ Refusal
coded_signed x = allowed (signed_x_check x ∷ []) (nat_abs x)

-- R81: the same of a flyby's
abbrev pub coded_flyby_angle : ℕ → Result ℕ Refusal
coded_flyby_angle x = angle_up_to X_top x

-- R4: code 2, or the eccentricity
abbrev pub coded_eccentricity : ℕ → Result ℕ Refusal
coded_eccentricity a = allowed (a_check a ∷ []) a

-- R4: code 3, or the depth
abbrev pub coded_depth : ℕ → Result ℕ Refusal
coded_depth d = allowed (depth_check d ∷ []) d
