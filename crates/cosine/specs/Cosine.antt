-- Cosine among the series, R71 to R74: its bounds CosLo and CosHi, its exact sums C_9 and C_10, and its entry.
use Rattle.std.specs.Prelude.{ℕ, ◌-◌, ◌*◌, ℤ}
use Rattle.grid.specs.Grid.{one}
use Rattle.series.specs.Terms.{Series}
use Rattle.series.specs.Bounds.{greatest_low, least_high}
use Rattle.series.specs.Exact.{S, den}
use Rattle.series.specs.Entry.{bounds_rule}
use Rattle.series.specs.declared.Bounds.{Bounds}

-- R71: term 0 is 2^28, the divisor (2k-1) 2k
abbrev pub cosine : Series
cosine = record { term0 = λ X. one; divisor = λ k. (2 * k - 1) * (2 * k) }

-- R71: cosine's greatest raw low
abbrev pub CosLo : ℕ → ℕ → ℤ
CosLo X d = greatest_low cosine X d

-- R71: cosine's least raw high
abbrev pub CosHi : ℕ → ℕ → ℤ
CosHi X d = least_high cosine X d

-- R71: 2^28 C_n(X), multiplied out by `den_c n`
abbrev pub C : ℕ → ℕ → ℤ
C X n = S cosine X n

-- R71: (2^56)^n (2n)!
abbrev pub den_c : ℕ → ℕ
den_c n = den cosine n

-- R74: a code, else CosLo and CosHi
abbrev pub cosine_rule : ℕ → ℕ → Bounds
cosine_rule x d = bounds_rule cosine x d
