-- The exact terms and their alternating sums as fractions, R8, for any series.
use Rattle.std.specs.Prelude.{ℕ, zero, suc, ◌*◌, Bool, true, false, not, ℤ, pos, neg_ℤ, ◌+ℤ◌, ◌*ℤ◌}
use Rattle.series.specs.Terms.{Series}

-- R8: 2^28 t_k is `num k / den k`; for sine num k is X^(2k+1)
unfoldable pub num : Series → ℕ → ℕ → ℕ
num s X zero = s.term0 X
num s X (suc k) = num s X k * (X * X)

-- R8: by what den grows from k - 1 to k: (2^28)^2 times the divisor
unfoldable pub ratio : Series → ℕ → ℕ
ratio s k = 72057594037927936 * s.divisor k

-- R8: for sine den k is (2^56)^k (2k+1)!
unfoldable pub den : Series → ℕ → ℕ
den s zero = 1
den s (suc k) = den s k * ratio s (suc k)

-- R8, R33: the even-numbered terms are added
abbrev pub even : ℕ → Bool
even zero = true
even (suc n) = not (even n)

-- R8, R33: a term with its sign, `true` where it is added
abbrev pub signed : Bool → ℕ → ℤ
signed true n = pos n
signed false n = neg_ℤ (pos n)

-- R8: 2^28 S_n(X), multiplied out by `den n`
unfoldable pub S : Series → ℕ → ℕ → ℤ
S s X zero = pos (num s X zero)
S s X (suc n) = S s X n *ℤ pos (ratio s (suc n)) +ℤ signed (even (suc n)) (num s X (suc n))
