-- atan 1/n by exact alternating sums, for R33.
-- atan 1/n = 1/n - 1/(3 n^3) + 1/(5 n^5) - .. (public: NIST DLMF 4.24). For n above 1 the terms fall, so a sum whose last
-- term is subtracted lies below atan 1/n, and one whose last term is added lies above it.
use Rattle.std.specs.Prelude.{ℕ, zero, suc, ◌+◌, ◌*◌, ◌^◌, ℤ, pos, ◌+ℤ◌, ◌*ℤ◌}
use Rattle.series.specs.Exact.{even, signed}

-- R33: num / den, with den above 0
pub record Fraction : Type 0 where
  pub num : ℤ
  pub den : ℕ

-- R33: the sum of two fractions
abbrev pub added : Fraction → Fraction → Fraction
added p q = record { num = p.num *ℤ pos q.den +ℤ q.num *ℤ pos p.den; den = p.den * q.den }

-- R33: term i: 1 / ((2i+1) n^(2i+1)), added at even i and subtracted at odd i
abbrev pub term : ℕ → ℕ → Fraction
term n i = record { num = signed (even i) 1; den = (2 * i + 1) * n ^ (2 * i + 1) }

-- R33: the terms 0 to last of atan 1/n
unfoldable pub atan_sum : ℕ → ℕ → Fraction
atan_sum n zero = term n zero
atan_sum n (suc last) = added (atan_sum n last) (term n (suc last))

-- R33: atan 2^-k by the terms 0 to last; atan 1 as atan 1/2 + atan 1/3, as its own terms fall too slowly
unfoldable pub atan : ℕ → ℕ → Fraction
atan zero last = added (atan_sum 2 last) (atan_sum 3 last)
atan (suc k) last = atan_sum (2 ^ suc k) last
