-- One pair of terms added to the walk of any series in range: its numbers fit, and it leads to the walk of the next depth.
-- Assumes nothing.
use mathlib.Core.Path.{◌≡◌, sym, ap, subst, ◌∙◌}
use Prim.Native.Nat.{ℕ, zero, suc, ◌+◌, ◌-◌, ◌*◌, ◌≤◌, ◌<◌, max, min}
use native.Mathlib.Omega.{arith}
use native.Mathlib.Numerals.{add-one}
use Rattle.grid.specs.Grid.{depths}
use Rattle.whole.proofs.Parts.{is_sub}
use Rattle.series.specs.Terms.{Series, l, u, Q-}
use Rattle.series.specs.Bounds.{evens, odds, raw_low, raw_high, greatest_low, least_high}
use Rattle.series.specs.Walk.{bias, biased, best_low, best_high, walk, deepened, term_limit, TermFits, Room, PairFits}
use Rattle.series.specs.declared.Walk.{Walk}
use Rattle.series.proofs.TermLimits.{Q_order, evens_limit, odds_limit}
use Rattle.series.specs.Walk.{InRange}
use Rattle.series.proofs.CodeRange.{l_limit, raw_low_in, raw_high_in, greatest_in, least_in}
use Rattle.series.proofs.CodeBias.{biased_step, biased_small, biased-greater, biased-lesser}

-- sums of at most six terms are below 2^34
sums : (f : ℕ → ℕ) → ((k : ℕ) → f k ≤ term_limit) → (n : ℕ) → n ≤ 6 → (evens f n ≤ bias) × (odds f n ≤ bias)
sums f h n few = (omega (arith, evens_limit f term_limit h n), omega (arith, odds_limit f term_limit h n))

-- the divisors of the pair after d pairs
abbrev pub odd_divisor : Series → ℕ → ℕ
odd_divisor s d = s.divisor (suc (2 * d))

abbrev pub even_divisor : Series → ℕ → ℕ
even_divisor s d = s.divisor (suc (suc (2 * d)))

module _ (s : Series) (X : ℕ) (r : InRange s X) where
  down_fits : (k : ℕ) → k < 2 * depths → TermFits (l s X k) (Q- X) (s.divisor (suc k))
  down_fits k h =
      let v = r.fits k h in
      record {
        term = l_limit s X r k;
        square = omega (arith, v.square, Q_order X);
        divides = v.divides;
        little = v.little;
      }

  module _ (d : ℕ) (h : d < depths) where
    -- the raw low gains l and loses u, with room on both sides
    low_step :
        Room (biased (raw_low s X d)) (l s X (2 * d)) (u s X (suc (2 * d)))
        × (biased (raw_low s X d) + l s X (2 * d) - u s X (suc (2 * d)) ≡ biased (raw_low s X (suc d)))
    unfolding raw_low evens odds
    low_step =
        biased_step (l s X (2 * d)) (u s X (suc (2 * d))) (is_sub (evens (l s X) d) (odds (u s X) d))
        (is_sub (evens (l s X) (suc d)) (odds (u s X) (suc d))) (sums (l s X) (l_limit s X r) (suc d) (omega arith)).0
        (sums (u s X) r.terms (suc d) (omega arith)).1

    -- the raw high gains the next u and loses l
    high_step :
        Room (biased (raw_high s X d)) (u s X (2 * suc d)) (l s X (suc (2 * d)))
        × (biased (raw_high s X d) + u s X (2 * suc d) - l s X (suc (2 * d)) ≡ biased (raw_high s X (suc d)))
    unfolding raw_high evens odds
    high_step =
        biased_step (u s X (2 * suc d)) (l s X (suc (2 * d))) (is_sub (evens (u s X) (suc d)) (odds (l s X) d))
        (is_sub (evens (u s X) (suc (suc d))) (odds (l s X) (suc d))) (sums (u s X) r.terms (suc (suc d)) (omega arith)).0
        (sums (l s X) (l_limit s X r) (suc d) (omega arith)).1

    next : suc (suc (2 * d)) ≡ 2 * suc d
    next = omega arith

    fits : PairFits (walk s X d) (odd_divisor s d) (even_divisor s d)
    unfolding l u
    fits =
        record {
          fewer = h;
          down = down_fits (2 * d) (omega arith);
          up = r.fits (2 * d) (omega arith);
          down1 = down_fits (suc (2 * d)) (omega arith);
          up1 = r.fits (suc (2 * d)) (omega arith);
          low = low_step.0;
          high = subst (λ (n : ℕ). Room (biased (raw_high s X d)) (u s X n) (l s X (suc (2 * d)))) (sym next) high_step.0;
        }

  -- the better of the best so far and the raw bound of the next depth is the best of that depth
  better_low : (d : ℕ) → d < depths → max (best_low s X d) (biased (raw_low s X (suc d))) ≡ best_low s X (suc d)
  unfolding best_low greatest_low
  better_low zero h =
      let i = raw_low_in s X r 1 (omega arith) in omega (arith, biased-greater (raw_low s X 1) (raw_low s X 1) i i)
  better_low (suc d) h =
      biased-greater (greatest_low s X (suc d)) (raw_low s X (suc (suc d))) (greatest_in s X r (suc d) (omega arith))
      (raw_low_in s X r (suc (suc d)) h)

  better_high : (d : ℕ) → d < depths → min (best_high s X d) (biased (raw_high s X (suc d))) ≡ best_high s X (suc d)
  unfolding best_high least_high
  better_high zero h =
      let i = raw_high_in s X r 1 (omega arith) in
      omega (arith, biased_small (raw_high s X 1) i, biased-lesser (raw_high s X 1) (raw_high s X 1) i i)
  better_high (suc d) h =
      biased-lesser (least_high s X (suc d)) (raw_high s X (suc (suc d))) (least_in s X r (suc d) (omega arith))
      (raw_high_in s X r (suc (suc d)) h)

  stepped : (d : ℕ) → d < depths → deepened (walk s X d) (odd_divisor s d) (even_divisor s d) ≡ walk s X (suc d)
  unfolding deepened l u
  stepped d h =
      let e = next d h in
      let lower : l s X (suc (suc (2 * d))) ≡ l s X (2 * suc d) = ap (l s X) e in
      let upper : u s X (suc (suc (2 * d))) ≡ u s X (2 * suc d) = ap (u s X) e in
      cc ((low_step d h).1, (high_step d h).1, better_low d h, better_high d h, add-one d, lower, upper)

  -- of what is known to be a walk
  module _ (d : ℕ) (h : d < depths) (w : Walk) (at : w ≡ walk s X d) where
    pub pair_fits : PairFits w (odd_divisor s d) (even_divisor s d)
    pair_fits =
        subst (λ (t : Walk). PairFits t (odd_divisor s d) (even_divisor s d)) (sym at) (fits d h)

    pub paired : (t : Walk) → t ≡ deepened w (odd_divisor s d) (even_divisor s d) → t ≡ walk s X (suc d)
    paired t e =
        e ∙ ap (λ (v : Walk). deepened v (odd_divisor s d) (even_divisor s d)) at ∙ stepped d h
