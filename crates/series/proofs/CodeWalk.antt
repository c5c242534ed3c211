-- From pair to pair: a walk begins, the walk of X after d pairs goes to d + 1, and a walk has the bounds of its depth; of any
-- series in range. Assumes nothing.
use mathlib.Core.Path.{◌≡◌, refl, sym, ap, ap₂, ◌∙◌, subst}
use Prim.Native.Nat.{ℕ, zero, suc, ◌+◌, ◌-◌, ◌≤◌, ◌<◌}
use native.Mathlib.Omega.{arith}
use Rattle.grid.specs.Grid.{T_units, depths}
use Rattle.whole.proofs.Parts.{is_sub}
use Rattle.series.specs.Terms.{Series, l, u}
use Rattle.series.specs.Bounds.{evens, odds, raw_low, raw_high}
use Rattle.series.specs.Asked.{biased_bounds}
use Rattle.series.specs.Walk.{bias, best_low, best_high, walk, begun, deepened, odd_from, even_from, PairFits, Unfinished}
use Rattle.series.specs.declared.Walk.{Walk}
use Rattle.series.specs.declared.Biased.{Biased}
use Rattle.series.proofs.CodeBias.{biased_is}
use Rattle.series.specs.Walk.{InRange}
use Rattle.series.proofs.CodePair.{odd_divisor, even_divisor, pair_fits, paired}

-- before the first pair
pub begins : (s : Series) (X : ℕ) → begun X (s.term0 X) ≡ walk s X 0
unfolding l u evens odds raw_low raw_high best_low best_high
begins s X =
    let high = biased_is (is_sub (0 + s.term0 X) 0) (omega arith) in
    let e : bias + s.term0 X ≡ bias + (0 + s.term0 X) - 0 = omega arith in
    cc (high, e)

-- with the divisors of the pair that comes next, in the arm of its number
module _ (s : Series) (range : (X : ℕ) → X ≤ T_units → InRange s X) (w : Walk) (d : ℕ) (h : Unfinished s w) (e : w.pairs ≡ d) where
  pub arm_fits : PairFits w (odd_divisor s d) (even_divisor s d)
  arm_fits =
      subst (λ (n : ℕ). PairFits w (odd_divisor s n) (even_divisor s n)) e
      (pair_fits s w.angle (range w.angle h.top) w.pairs h.fewer w h.at)

  pub arm_next : (t : Walk) → t ≡ deepened w (odd_divisor s d) (even_divisor s d) → t ≡ walk s w.angle (suc w.pairs)
  arm_next t f =
      paired s w.angle (range w.angle h.top) w.pairs h.fewer w h.at t
      (f ∙ ap (λ (n : ℕ). deepened w (odd_divisor s n) (even_divisor s n)) (sym e))

-- the same where the divisors are n (n + 1) for n = first, first + 2, ..
module _ {s : Series} (range : (X : ℕ) → X ≤ T_units → InRange s X) (first : ℕ) (odd : (d : ℕ) → odd_divisor s d ≡ odd_from first d)
    (even : (d : ℕ) → even_divisor s d ≡ even_from first d) {w : Walk} (h : Unfinished s w) where
  pub next_fits : PairFits w (odd_from first w.pairs) (even_from first w.pairs)
  next_fits =
      rw (← odd w.pairs) (rw (← even w.pairs) (pair_fits s w.angle (range w.angle h.top) w.pairs h.fewer w h.at))

  pub next_is : {t : Walk} → t ≡ deepened w (odd_from first w.pairs) (even_from first w.pairs) → t ≡ walk s w.angle (suc w.pairs)
  next_is {t} f =
      paired s w.angle (range w.angle h.top) w.pairs h.fewer w h.at t
      (f ∙ sym (ap₂ (deepened w) (odd w.pairs) (even w.pairs)))

module _ (s : Series) (w : Walk) (X d : ℕ) (e : w ≡ walk s X d) where
  pub unfinished : X ≤ T_units → d < depths → Unfinished s w
  unfinished h k = subst (Unfinished s) (sym e) (record { at = refl; top = h; fewer = k })

  pub onward : (t : Walk) → t ≡ walk s w.angle (suc w.pairs) → t ≡ walk s X (suc d)
  onward t f = f ∙ ap (λ (v : Walk). walk s v.angle (suc v.pairs)) e

  -- a walk says itself how far it is
  pub own_pairs : w ≡ walk s X w.pairs
  own_pairs = e ∙ ap (walk s X) (sym (ap (λ (v : Walk). v.pairs) e))

  -- and of which angle it is
  pub walked_own : w ≡ walk s w.angle w.pairs
  walked_own = subst (λ (v : Walk). v ≡ walk s v.angle v.pairs) (sym e) refl

-- the bounds that a walk has come to
pub bounds : (s : Series) (w : Walk) (X d : ℕ) → 1 ≤ d → w ≡ walk s X d →
    ◌≡◌ {A = Biased} record { lo = w.greatest; hi = w.least } (biased_bounds s X d)
unfolding best_low best_high
bounds s w X zero h e = absurd (let k : ⊥ = omega arith in k)
bounds s w X (suc d) h e = ap (λ (v : Walk). record { lo = v.greatest; hi = v.least }) e
