-- The rotations, R35 to R37: their start, their signs and steps, and where they leave E.
use Rattle.std.specs.Prelude.{ℕ, zero, suc, ◌*◌, ◌^◌, ◌/◌, min, Bool, ℤ, pos, negsuc, ◌+ℤ◌, ◌-ℤ◌}
use Rattle.std.specs.Int.Signed.{lt_z, shr_z}
use Rattle.grid.specs.Grid.{one, T_units}
use Rattle.whole.specs.Round.{down}
use Rattle.whole.specs.Sign.{signed_by}
use Rattle.rotations.specs.Table.{entry, G}
use Rattle.rotations.specs.declared.State.{State}

-- R36: z / 2^k, rounded down whatever its sign
unfoldable pub shifted : ℕ → ℤ → ℤ
shifted k z = shr_z z (2 ^ k)

-- R36: one rotation, its sign given, `true` for plus: what x, the cosine, and y, the sine, gain or lose is a part of the old other, rounded first
-- and signed then
unfoldable pub turned : State → ℕ → Bool → State
turned s k plus =
    record {
      angle = s.angle +ℤ signed_by plus (pos (entry k));
      cosine = s.cosine -ℤ signed_by plus (shifted k s.sine);
      sine = s.sine +ℤ signed_by plus (shifted k s.cosine);
    }

-- R36: whether the sign is plus
unfoldable pub plus_at : ℕ → State → Bool
plus_at m s = lt_z (s.angle -ℤ s.sine) (pos m)

-- R36: the shift of rotation i, counted from 0: each shift comes twice
abbrev pub shift_of : ℕ → ℕ
shift_of i = i / 2

-- R36: the first n rotations
unfoldable pub rotations : ℕ → ℕ → State → State
rotations m zero s = s
rotations m (suc n) s = let r = rotations m n s in turned r (shift_of n) (plus_at m r)

-- R35: the state before the first rotation
unfoldable pub start : ℕ → State
start a = record { angle = pos 0; cosine = pos (down (a * G) one); sine = pos 0 }

-- R36: how many rotations there are
abbrev pub fifty : ℕ
fifty = 50

-- R35, R36: the state after the last rotation of M and A
unfoldable pub rotated : ℕ → ℕ → State
rotated m a = rotations m fifty (start a)

-- R37: E, or the nearer of 0 and T where it lies outside
abbrev pub brought : ℤ → ℕ
brought (pos n) = min n T_units
brought (negsuc n) = 0
