-- R71 to R73: cosine's bounds are true, get no worse with the depth, and are within 26 units at depth 5. Assumes nothing.
use mathlib.Core.Path.{◌≡◌, refl}
use Prim.Native.Nat.{ℕ, zero, suc, ◌+◌, ◌*◌, ◌^◌, ◌≤◌}
use native.Mathlib.Omega.{arith}
use native.Mathlib.Nat.{pow-zero, pow-suc, mul-le-mul_left}
use lib.Dec.{lit<}
use lib.IntN.{pos, ◌*ℤ◌, ◌+ℤ◌}
use lib.Signed.{◌≤ℤ◌}
use Rattle.grid.specs.Grid.{one, T_units, depths}
use Rattle.whole.proofs.Round.{lt-down, up_le}
use Rattle.series.specs.Terms.{Q-, Q+, l, u}
use Rattle.series.specs.Bounds.{evens, odds}
use Rattle.series.specs.Exact.{num, ratio, den}
use Rattle.series.specs.Factorial.{factorial}
use Rattle.series.proofs.TermLimits.{Q_within}
use Rattle.series.proofs.BoundsTrue.{greatest_true, least_true}
use Rattle.series.proofs.Width.{Q_gap, gap_step, within_5}
use Rattle.cosine.specs.Cosine.{cosine, CosLo, CosHi, C, den_c}
use Rattle.cosine.proofs.OfCosine.{divisor_is, cosine_divides, from_12, T_fall, l_within, u10_within}

-- R72: against the exact sums
pub CosLo-true : (X d : ℕ) → X ≤ T_units → d ≤ depths → (CosLo X d *ℤ pos (den_c 9)) ≤ℤ C X 9
CosLo-true X d x h = greatest_true cosine cosine_divides X (T_fall X x) d 4 9 (omega arith) h

pub CosHi-true : (X d : ℕ) → X ≤ T_units → d ≤ depths → C X 10 ≤ℤ (CosHi X d *ℤ pos (den_c 10))
CosHi-true X d x h = least_true cosine cosine_divides X (T_fall X x) d 4 10 (omega arith) h

-- how far apart l_k and u_k are at most: term 0 is exact, and term 1 is half of Q- and of Q+
abbrev apart : ℕ → ℕ
apart zero = 0
apart (suc zero) = 1
apart (suc (suc k)) = 3

halved : (X : ℕ) → u cosine X 1 ≤ l cosine X 1 + 1
unfolding l u
halved X =
    up_le (l cosine X 1 + 1) (one * Q+ X) (one * 2) (lit< tt)
    (omega (arith, Q_gap X, lt-down (one * Q- X) (one * 2) (lit< tt)))

cosine-gap : (X : ℕ) → X ≤ T_units → (k : ℕ) → u cosine X k ≤ l cosine X k + apart k
unfolding l u
cosine-gap X h zero = omega arith
cosine-gap X h (suc zero) = halved X
cosine-gap X h (suc (suc zero)) =
    gap_step cosine cosine_divides X 1 1 (halved X) (omega (arith, Q_within X h, l_within X h 1, mul-le-mul_left one (from_12 0)))
cosine-gap X h (suc (suc (suc k))) =
    gap_step cosine cosine_divides X 3 (suc (suc k)) (cosine-gap X h (suc (suc k)))
    (omega (arith, Q_within X h, l_within X h (suc (suc k)), mul-le-mul_left one (from_12 (suc k))))

-- R73
pub cosine_width : (X : ℕ) → X ≤ T_units → CosHi X 5 ≤ℤ (CosLo X 5 +ℤ pos 26)
unfolding evens odds
cosine_width X h = within_5 cosine X 26 apart (cosine-gap X h) (omega (arith, u10_within X h))

-- R71: 2^28 c_n is 2^28 X^(2n) / denC n, and denC n is (2^56)^n (2n)!
pub den_c_is : (n : ℕ) → den_c n ≡ 72057594037927936 ^ n * factorial (2 * n)
unfolding den ratio factorial
den_c_is zero = refl
den_c_is (suc n) =
    let e : 2 * suc n ≡ suc (suc (2 * n)) = omega arith in
    rw (den_c_is n, divisor_is n, e, pow-suc) (omega arith)

pub num_c_is : (X n : ℕ) → num cosine X n ≡ one * X ^ (2 * n)
unfolding num
num_c_is X zero = rw (pow-zero X) (omega arith)
num_c_is X (suc n) =
    let e : 2 * suc n ≡ suc (suc (2 * n)) = omega arith in
    rw (num_c_is X n, e, pow-suc X (suc (2 * n)), pow-suc X (2 * n)) (omega arith)
