-- Sine among the series, R8 to R13 and R61: its bounds Lo and Hi, where its terms are spent, and its exact sums S_9 and S_10.
use Rattle.std.specs.Prelude.{ℕ, zero, suc, ◌+◌, ◌*◌, ℤ}
use Rattle.series.specs.Terms.{Series}
use Rattle.series.specs.Bounds.{greatest_low, least_high}
use Rattle.series.specs.Exact.{S, den}

-- R8, R11: term 0 is X, the divisor 2k(2k+1)
abbrev pub sine : Series
sine = record { term0 = λ X. X; divisor = λ k. 2 * k * (2 * k + 1) }

-- R13: sine's greatest raw low
abbrev pub Lo : ℕ → ℕ → ℤ
Lo X d = greatest_low sine X d

-- R13: sine's least raw high
abbrev pub Hi : ℕ → ℕ → ℤ
Hi X d = least_high sine X d

-- R61: the greatest angle at which sine's terms are spent after n pairs, n up to 5
abbrev pub last_spent : ℕ → ℕ
last_spent zero = 0
last_spent (suc zero) = 14417715
last_spent (suc (suc zero)) = 128808899
last_spent (suc (suc (suc zero))) = 341821575
last_spent (suc (suc (suc (suc zero)))) = 614482590
last_spent (suc (suc (suc (suc (suc n))))) = 924049289

-- R8: 2^28 S_9(X), multiplied out by `den9`
abbrev pub S9 : ℕ → ℤ
S9 X = S sine X 9

-- R8: 2^28 S_10(X), multiplied out by `den10`
abbrev pub S10 : ℕ → ℤ
S10 X = S sine X 10

-- R8: (2^56)^9 19!
abbrev pub den9 : ℕ
den9 = den sine 9

-- R8: (2^56)^10 21!
abbrev pub den10 : ℕ
den10 = den sine 10
