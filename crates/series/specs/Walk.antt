-- How the code walks through the terms of a series. No entry's contract cites this file: it is checked, and need not be
-- believed.
use Rattle.std.specs.Prelude.{ℕ, zero, suc, ◌+◌, ◌-◌, ◌*◌, ◌≤◌, ◌<◌, max, min, ◌≡◌, Bool, ◌&&◌, eqb, leb, ℤ, pos, negsuc}
use Rattle.grid.specs.Grid.{one, T_units, depths}
use Rattle.whole.specs.Round.{down, up}
use Rattle.series.specs.Terms.{Series, l, u, Q-, Q+}
use Rattle.series.specs.Bounds.{raw_low, raw_high, greatest_low, least_high}
use Rattle.series.specs.declared.Walk.{Walk}

-- 2^34: with it no bound is below 0
abbrev pub bias : ℕ
bias = 17179869184

abbrev pub biased : ℤ → ℕ
biased (pos n) = bias + n
biased (negsuc n) = bias - suc n

-- R13: the best bounds of depths 1 to d, biased; before depth 1 there is none, and any bound is better than what stands
-- there
unfoldable pub best_low : Series → ℕ → ℕ → ℕ
best_low s X zero = 0
best_low s X (suc d) = biased (greatest_low s X (suc d))

unfoldable pub best_high : Series → ℕ → ℕ → ℕ
best_high s X zero = 2 * bias
best_high s X (suc d) = biased (least_high s X (suc d))

-- the walk through the terms of X after d pairs
abbrev pub walk : Series → ℕ → ℕ → Walk
walk s X d =
    record {
      angle = X;
      pairs = d;
      floor = Q- X;
      ceiling = Q+ X;
      down = l s X (2 * d);
      up = u s X (2 * d);
      low = biased (raw_low s X d);
      high = biased (raw_high s X d);
      greatest = best_low s X d;
      least = best_high s X d;
    }

-- ---- the steps on a walk's numbers alone

-- before the first pair
abbrev pub begun : ℕ → ℕ → Walk
begun X term0 =
    record {
      angle = X;
      pairs = 0;
      floor = Q- X;
      ceiling = Q+ X;
      down = term0;
      up = term0;
      low = bias;
      high = bias + term0;
      greatest = 0;
      least = 2 * bias;
    }

-- a pair's odd-numbered term and then its even-numbered one, each by its divisor
abbrev pub odd_down : Walk → ℕ → ℕ
odd_down w odd = down (w.down * w.floor) (one * odd)

abbrev pub odd_up : Walk → ℕ → ℕ
odd_up w odd = up (w.up * w.ceiling) (one * odd)

abbrev pub even_up : Walk → ℕ → ℕ → ℕ
even_up w odd even = up (odd_up w odd * w.ceiling) (one * even)

-- one pair further
unfoldable pub deepened : Walk → ℕ → ℕ → Walk
deepened w odd even =
    let low = w.low + w.down - odd_up w odd in
    let high = w.high + even_up w odd even - odd_down w odd in
    record {
      angle = w.angle;
      pairs = w.pairs + 1;
      floor = w.floor;
      ceiling = w.ceiling;
      down = down (odd_down w odd * w.floor) (one * even);
      up = even_up w odd even;
      low = low;
      high = high;
      greatest = max w.greatest low;
      least = min w.least high;
    }

-- R11, R71: terms are divided by n times the next number, for each other n from a first one on
abbrev pub by_next : ℕ → ℕ
by_next n = n * (n + 1)

-- so the pair after p pairs
abbrev pub odd_from : ℕ → ℕ → ℕ
odd_from first p = by_next (4 * p + first)

abbrev pub even_from : ℕ → ℕ → ℕ
even_from first p = by_next (4 * p + first + 2)

-- ---- where the walk ends

-- R61: whether the terms are spent, by the walk's last one
abbrev pub spent_at : Walk → Bool
spent_at w = eqb w.down 0 && leb w.up 1

-- ---- what the steps ask for, so that nothing overflows

-- 2^31: six terms of a sign stay below the bias
abbrev pub term_limit : ℕ
term_limit = 2147483648

-- a term and a square whose product fits, and a divisor
pub record TermFits (t q divisor : ℕ) : Type 0 where
  pub term : t ≤ term_limit
  pub square : q ≤ 4294967296
  pub divides : 1 ≤ divisor
  pub little : divisor ≤ 65536

-- a biased sum that gains a number and then loses one
pub record Room (sum gain loss : ℕ) : Type 0 where
  pub top : sum + gain ≤ 3 * bias
  pub bottom : loss ≤ sum + gain

-- a pair of terms: down1 and up1 are the odd-numbered one, of which the even-numbered one is made
pub record PairFits (w : Walk) (odd even : ℕ) : Type 0 where
  pub fewer : w.pairs < depths
  pub down : TermFits w.down w.floor odd
  pub up : TermFits w.up w.ceiling odd
  pub down1 : TermFits (odd_down w odd) w.floor even
  pub up1 : TermFits (odd_up w odd) w.ceiling even
  pub low : Room w.low w.down (odd_up w odd)
  pub high : Room w.high (even_up w odd even) (odd_down w odd)

-- all terms of s at X are small, and up to the last one made each can be made into the next
pub record InRange (s : Series) (X : ℕ) : Type 0 where
  pub divides : (k : ℕ) → 0 < s.divisor (suc k)
  pub terms : (k : ℕ) → u s X k ≤ term_limit
  pub fits : (k : ℕ) → k < 2 * depths → TermFits (u s X k) (Q+ X) (s.divisor (suc k))

-- a walk with a pair to go
pub record Unfinished (s : Series) (w : Walk) : Type 0 where
  pub at : w ≡ walk s w.angle w.pairs
  pub top : w.angle ≤ T_units
  pub fewer : w.pairs < depths
