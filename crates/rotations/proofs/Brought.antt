-- R37: E is brought within 0 to T. Assumes nothing.
use mathlib.Core.Path.{◌≡◌, refl}
use Prim.Native.Nat.{◌≤◌}
use native.Mathlib.Omega.{arith}
use native.Mathlib.Nat.{min-le_right}
use lib.IntN.{ℤ, pos, negsuc}
use Rattle.grid.specs.Grid.{one, T_units}
use Rattle.rotations.specs.Table.{table, entry, G}
use Rattle.rotations.specs.Rotate.{shifted, turned, plus_at, rotations, start, rotated, brought}

pub brought_within : (z : ℤ) → brought z ≤ T_units
brought_within (pos n) = min-le_right n T_units
brought_within (negsuc n) = omega arith

-- the rotations of M = 0, A = 2^28 end below 0, so that E is brought up to 0
parabola : rotated 0 one ≡ record { angle = negsuc 1048513; cosine = pos 268433403; sine = negsuc 1048513 }
unfolding rotated rotations turned plus_at start shifted table entry G
parabola = refl
