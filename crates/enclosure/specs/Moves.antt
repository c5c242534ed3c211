-- How the code's searches move, what they find, and the limits of it. No entry's contract cites this file.
use Rattle.std.specs.Prelude.{ℕ, ◌≤◌, Bool, true, false, not, [], ◌∷◌, Result}
use Rattle.grid.specs.Grid.{T_units}
use Rattle.grid.specs.Codes.{allowed}
use Rattle.grid.specs.declared.codes.Refusal.{Refusal}
use Rattle.enclosure.specs.declared.Found.{Found}
use Rattle.enclosure.specs.Halving.{searched}

-- R26, R27: the numbers to which a search moves p: that of an upper end those not accepted, that of a lower end those accepted
abbrev pub moves_p : Bool → (ℕ → Bool) → ℕ → Bool
moves_p true acc = λ X. not (acc X)
moves_p false acc = acc

-- R28, R88: both ends, or the refusal where the top is not accepted as an upper end
abbrev pub enclosed_by : (ℕ → Bool) → (ℕ → Bool) → ℕ → Refusal → Result Found Refusal
enclosed_by lower upper top none = allowed (record { fails = not (upper top); code = none } ∷ []) (searched lower upper top)

-- ends from 0 to T, which have negatives
pub record EndsIn (a b : ℕ) : Type 0 where
  pub lower : a ≤ T_units
  pub upper : b ≤ T_units
