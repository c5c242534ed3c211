-- What acceptance and refusal of an end say of the exact sums, R19 and R20.
-- In units, X - M against e · 2^28 S_n(X), where M is p / q, e is A / 2^28, A is r / s, and 2^28 S_n(X) is a whole number over its
-- denominator; multiplied out by 2^28 times that, and by q and s. A spare of w · e units is w · q · r times the denominator then.
use Rattle.std.specs.Prelude.{ℕ, suc, ◌*◌, Bool, true, false, ℤ, pos, negsuc, neg_ℤ, ◌+ℤ◌, ◌-ℤ◌, ◌*ℤ◌, ◌≤ℤ◌}
use Rattle.grid.specs.Grid.{one}
use Rattle.series.specs.Sine.{S9, S10, den9, den10}
use Rattle.orbit.specs.Cell.{Exact}
use Rattle.orbit.specs.Mirror.{mirror, mirror_end}
use Rattle.orbit.specs.Given.{Given, mirrored_of, exact_of, Possible}

-- R8: one of the sums, over its denominator
pub record Sum : Type 0 where
  pub at : ℕ → ℤ
  pub den : ℕ

-- R8, R59: a sum at an X with its sign: it is odd
abbrev pub oddly : (ℕ → ℤ) → ℤ → ℤ
oddly S (pos X) = S X
oddly S (negsuc X) = neg_ℤ (S (suc X))

-- R19: X - M, multiplied out
abbrev pub difference : Sum → Exact → ℤ → ℤ
difference sum o X = pos (one * sum.den * o.s) *ℤ (X *ℤ pos o.q -ℤ o.p)

-- R19: e S(X), multiplied out
abbrev pub sine_of : Sum → Exact → ℤ → ℤ
sine_of sum o X = pos (o.q * o.r) *ℤ oddly sum.at X

-- R20: 32 e, multiplied out
abbrev pub spare : Sum → Exact → ℤ
spare sum o = pos (32 * (o.q * o.r) * sum.den)

-- R19: X - M is at most e S(X)
abbrev pub AtMost : Sum → Exact → ℤ → Type 0
AtMost sum o X = difference sum o X ≤ℤ sine_of sum o X

-- R19: X - M is at least e S(X)
abbrev pub AtLeast : Sum → Exact → ℤ → Type 0
AtLeast sum o X = sine_of sum o X ≤ℤ difference sum o X

-- R20: the same with 32 e units to spare
abbrev pub AtMostSpare : Sum → Exact → ℤ → Type 0
AtMostSpare sum o X = (difference sum o X +ℤ spare sum o) ≤ℤ sine_of sum o X

abbrev pub AtLeastSpare : Sum → Exact → ℤ → Type 0
AtLeastSpare sum o X = (sine_of sum o X +ℤ spare sum o) ≤ℤ difference sum o X

-- R19, R20: of an upper end, `true`, or of a lower one
abbrev pub Meets : Bool → Sum → Exact → ℤ → Type 0
Meets true = AtLeast
Meets false = AtMost

abbrev pub Spare : Bool → Sum → Exact → ℤ → Type 0
Spare true = AtLeastSpare
Spare false = AtMostSpare

-- R19: S_10 for an upper end, S_9 for a lower one
abbrev pub sum_of : Bool → Sum
sum_of true = record { at = S10; den = den10 }
sum_of false = record { at = S9; den = den9 }

-- R19, R59: the sum behind the test of an end: where M is negative the ends change places, and so do the sums
abbrev pub own_sum : Bool → Given → Sum
own_sum upper g = sum_of (mirror_end (mirrored_of g) upper)

-- R19, R60: what an accepted end says, of every exact M and A that is possible: the inequality with its own sum, and the demand's,
-- which for a negative M is the weaker
pub record EndExact (upper : Bool) (g : Given) (X : ℤ) : Type 0 where
  pub own : (o : Exact) → Possible g o → Meets upper (own_sum upper g) o X
  pub letter : (o : Exact) → Possible g o → Meets upper (sum_of upper) o X

-- R19, R59: what an end of the problem that was posed says of what was given
abbrev pub ExactAt : Bool → Given → ℕ → Type 0
ExactAt upper g X = EndExact (mirror_end (mirrored_of g) upper) g (mirror (mirrored_of g) (pos X))

-- R20: the inequality with its own sum and 32 e units to spare: there depth 5 accepts
abbrev pub EndSpare : Bool → Given → ℤ → Type 0
EndSpare upper g X = Spare upper (own_sum upper g) (exact_of g) X
