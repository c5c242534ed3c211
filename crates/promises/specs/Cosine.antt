-- Cosine's sums and depths, R71 and R72, beside what the second demand says of its bounds.
use Rattle.std.specs.Prelude.{◌≡◌, ℕ, suc, ◌*◌, ◌^◌, ◌≤◌, pos, ◌*ℤ◌, ◌≤ℤ◌}
use Rattle.grid.specs.Grid.{one, T_units, depths}
use Rattle.series.specs.Exact.{num}
use Rattle.series.specs.Factorial.{factorial}
use Rattle.cosine.specs.Cosine.{cosine, CosLo, CosHi, C, den_c, cosine_rule}
use Rattle.series.specs.Bounds.{Spent}

pub record CosineSums : Type 0 where
  -- R71: 2^28 c_n is 2^28 X^(2n) over (2^56)^n (2n)!
  pub denominator : (n : ℕ) → den_c n ≡ (one * one) ^ n * factorial (2 * n)
  pub numerator : (X n : ℕ) → num cosine X n ≡ one * X ^ (2 * n)
  -- R72: while x^2 <= 12
  pub odd_never_falls : (X i k : ℕ) → X * X ≤ one * one * 12 → i ≤ k
      → (C X (suc (2 * i)) *ℤ pos (den_c (suc (2 * k)))) ≤ℤ (C X (suc (2 * k)) *ℤ pos (den_c (suc (2 * i))))
  pub even_never_rises : (X i k : ℕ) → X * X ≤ one * one * 12 → i ≤ k
      → (C X (2 * k) *ℤ pos (den_c (2 * i))) ≤ℤ (C X (2 * i) *ℤ pos (den_c (2 * k)))
  -- R72: which it is at every angle tested
  pub within_12 : (X : ℕ) → X ≤ T_units → X * X ≤ one * one * 12
  -- R71: a greater depth has no worse bounds, and no lower bound lies above an upper one
  pub low_rises : (X d other : ℕ) → d ≤ other → CosLo X d ≤ℤ CosLo X other
  pub high_falls : (X d other : ℕ) → d ≤ other → CosHi X other ≤ℤ CosHi X d
  pub low_below_high : (X d other : ℕ) → X ≤ T_units → d ≤ depths → other ≤ depths → CosLo X d ≤ℤ CosHi X other
  -- R61, R71: from spent terms on the entry answers alike
  pub spent : (X n d : ℕ) → Spent cosine X n → 1 ≤ n → n ≤ d → d ≤ depths → cosine_rule X d ≡ cosine_rule X n
