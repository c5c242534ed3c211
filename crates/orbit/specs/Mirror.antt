-- The mirror, R59: a negative M is posed as -M and marked mirrored. What is given beside M is then mirrored too, and what is
-- answered is mirrored back. Each definition takes the mark first.
use Rattle.std.specs.Prelude.{Bool, true, false, not, ℤ}
use Rattle.whole.specs.Sign.{signed_by}

-- R59: a number, or on the mirror its negative
abbrev pub mirror : Bool → ℤ → ℤ
mirror mirrored z = signed_by (not mirrored) z

-- R59: which end it is, `true` for an upper one: on the mirror the ends change places
abbrev pub mirror_end : Bool → Bool → Bool
mirror_end false upper = upper
mirror_end true upper = not upper
