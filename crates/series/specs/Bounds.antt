-- The raw bounds of a depth, the best of depths 1 to d, and when no depth has better ones, R12, R13 and R61, for any series.
use Rattle.std.specs.Prelude.{◌≡◌, ℕ, zero, suc, ◌+◌, ◌*◌, ◌≤◌, ℤ}
use Rattle.std.proofs.Math.IntN.{sub_ℕ}
use Rattle.whole.specs.Choose.{greater, lesser}
use Rattle.series.specs.Terms.{Series, l, u}

-- R12: f 0 + f 2 + .., n of them
unfoldable pub evens : (ℕ → ℕ) → ℕ → ℕ
evens f zero = 0
evens f (suc n) = evens f n + f (2 * n)

-- R12: f 1 + f 3 + .., n of them
unfoldable pub odds : (ℕ → ℕ) → ℕ → ℕ
odds f zero = 0
odds f (suc n) = odds f n + f (suc (2 * n))

-- R12: the raw low, of the terms 0 to 2d-1
unfoldable pub raw_low : Series → ℕ → ℕ → ℤ
raw_low s X d = sub_ℕ (evens (l s X) d) (odds (u s X) d)

-- R12: the raw high, of the terms 0 to 2d
unfoldable pub raw_high : Series → ℕ → ℕ → ℤ
raw_high s X d = sub_ℕ (evens (u s X) (suc d)) (odds (l s X) d)

-- R13: the greatest raw low of depths 1 to d; at depth 0, which no entry reaches, stands depth 1's
unfoldable pub greatest_low : Series → ℕ → ℕ → ℤ
greatest_low s X zero = raw_low s X 1
greatest_low s X (suc d) = greater (greatest_low s X d) (raw_low s X (suc d))

-- R13: the least raw high of depths 1 to d; at depth 0 likewise
unfoldable pub least_high : Series → ℕ → ℕ → ℤ
least_high s X zero = raw_high s X 1
least_high s X (suc d) = lesser (least_high s X d) (raw_high s X (suc d))

-- R61: after n pairs the terms are spent: the last one is 0, rounded down, and at most 1, rounded up
pub record Spent (s : Series) (X n : ℕ) : Type 0 where
  pub none : l s X (2 * n) ≡ 0
  pub little : u s X (2 * n) ≤ 1
