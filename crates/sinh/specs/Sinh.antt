-- The hyperbolic sine: its bounds low and high, R82, and the exact sum S, R83. Its terms are sine's, and all of them are added.
use Rattle.std.specs.Prelude.{ℕ, zero, suc, ◌+◌, ◌*◌}
use Rattle.series.specs.Terms.{Series, l, u}
use Rattle.series.specs.Exact.{num, ratio, den}
use Rattle.series.specs.Sine.{sine}

-- R82: the number of the last term that is added
abbrev pub last : ℕ
last = 9

-- R82: f 0 + .. + f n
unfoldable pub total : (ℕ → ℕ) → ℕ → ℕ
total f zero = f zero
total f (suc n) = total f n + f (suc n)

-- R82: l_0 + .. + l_9
unfoldable pub low : ℕ → ℕ
low X = total (l sine X) last

-- R82: u_0 + .. + u_9, and u_9 once more for all the terms after it
unfoldable pub high : ℕ → ℕ
high X = total (u sine X) last + u sine X last

-- R83: 2^28 times the sum of the terms 0 to n, multiplied out by `den n`
unfoldable pub plain_sum : Series → ℕ → ℕ → ℕ
plain_sum s X zero = num s X zero
plain_sum s X (suc n) = plain_sum s X n * ratio s (suc n) + num s X (suc n)

-- R83: 2^28 S(X), multiplied out by `den_s`
abbrev pub S : ℕ → ℕ
S X = plain_sum sine X last

-- R83: its last term, 2^28 t_9, likewise
abbrev pub t9 : ℕ → ℕ
t9 X = num sine X last

-- R83: (2^56)^9 19!
abbrev pub den_s : ℕ
den_s = den sine last
