-- The range that the code asks of a series, how far from zero its bounds then lie, and that sine is in it. Assumes nothing.
use Prim.Native.Nat.{ℕ, suc, ◌*◌, ◌≤◌, ◌<◌}
use native.Mathlib.Omega.{arith}
use native.Mathlib.Nat.{le_trans, mul-le-mul}
use lib.IntN.{ℤ}
use Rattle.grid.specs.Grid.{T_units, depths}
use Rattle.series.specs.Terms.{Series, l, u}
use Rattle.series.specs.Bounds.{raw_low, raw_high, greatest_low, least_high}
use Rattle.series.specs.Sine.{sine, Lo, Hi}
use Rattle.series.specs.Walk.{term_limit, InRange}
use Rattle.series.proofs.TermLimits.{Divides, l-le-u, Q_within}
use Rattle.series.proofs.BoundLimits.{Bounded, raw_low_within, raw_high_within, greatest_within, least_within}
use Rattle.series.proofs.OfSine.{sine_divides, u_within}

-- below 2^34: depth 5 has at most 6 terms of a sign
abbrev pub bound_limit : ℕ
bound_limit = 6 * term_limit

abbrev pub InBounds : ℤ → Type 0
InBounds z = Bounded bound_limit z

module _ (s : Series) (X : ℕ) (r : InRange s X) where
  pub l_limit : (k : ℕ) → l s X k ≤ term_limit
  l_limit k = le_trans (l-le-u s r.divides X k) (r.terms k)

  module _ (d : ℕ) (h : d ≤ depths) where
    pub raw_low_in : InBounds (raw_low s X d)
    raw_low_in = raw_low_within s X term_limit l_limit r.terms d 6 (omega arith)

    pub raw_high_in : InBounds (raw_high s X d)
    raw_high_in = raw_high_within s X term_limit l_limit r.terms d 6 (omega arith)

    pub greatest_in : InBounds (greatest_low s X d)
    greatest_in = greatest_within s X term_limit l_limit r.terms d 6 (omega arith) (omega arith)

    pub least_in : InBounds (least_high s X d)
    least_in = least_within s X term_limit l_limit r.terms d 6 (omega arith) (omega arith)

-- a series is in range at every angle tested where its terms are within 2^31 and its divisors within 2^16
pub in_range : (s : Series) → Divides s → ((k : ℕ) → k < 2 * depths → s.divisor (suc k) ≤ 65536) →
    (X : ℕ) → X ≤ T_units → ((k : ℕ) → u s X k ≤ term_limit) → InRange s X
in_range s div few X h within =
    record {
      divides = div;
      terms = within;
      fits = λ k more.
          record {
            term = within k;
            square = omega (arith, Q_within X h);
            divides = div k;
            little = few k more;
          };
    }

pub sine_in_range : (X : ℕ) → X ≤ T_units → InRange sine X
sine_in_range X h =
    in_range sine sine_divides (λ k more. let m : k ≤ 9 = omega arith in omega (arith, mul-le-mul m m)) X h (u_within X h)

pub Lo_within : (X d : ℕ) → X ≤ T_units → d ≤ depths → InBounds (Lo X d)
Lo_within X d x = greatest_in sine X (sine_in_range X x) d

pub Hi_within : (X d : ℕ) → X ≤ T_units → d ≤ depths → InBounds (Hi X d)
Hi_within X d x = least_in sine X (sine_in_range X x) d
