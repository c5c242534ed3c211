-- The grid on which the user's numbers stand, R2 and R3: the unit and the greatest of each letter.
use Rattle.std.specs.Prelude.{ℕ}

-- R2, R3: one radian is `one` units, and e = 1 is A = `one`, the greatest A
abbrev pub one : ℕ
one = 268435456

-- R3: H, the greatest size of M
abbrev pub H_units : ℕ
H_units = 843314856

-- R3: T, the greatest size of X, 64 units above H
abbrev pub T_units : ℕ
T_units = 843314920

-- R3: the greatest depth; the least, 1, stands in `depth_check`
abbrev pub depths : ℕ
depths = 5

-- R3: the greatest tolerance
abbrev pub N_units : ℕ
N_units = 65535
