-- R61: from spent terms on the best bounds of any series stay the numbers that they are; and where sine's terms are spent.
-- Assumes nothing.
use mathlib.Core.Path.{◌≡◌, refl}
use mathlib.Core.Logic.{◌↔◌}
use Prim.Native.Nat.{ℕ, zero, suc, ◌*◌, ◌≤◌}
use native.Mathlib.Omega.{arith}
use native.Mathlib.Decide.{le_ind}
use native.Mathlib.Nat.{zero-mul, zero-div, le_trans, lt_of_not-le}
use lib.Dec.{lit≤}
use lib.IntN.{ℤ}
use lib.Signed.{◌≤ℤ◌, ≤ℤ_refl}
use Rattle.grid.specs.Grid.{one, depths}
use Rattle.whole.proofs.Parts.{is_sub}
use Rattle.whole.proofs.Order.{≤ℤ_trans, ≤ℤ_antisym, of_greater, of_lesser, le_parts}
use Rattle.series.specs.Terms.{Series, Q-, l, u}
use Rattle.series.specs.Bounds.{evens, odds, raw_low, raw_high, greatest_low, least_high, Spent}
use Rattle.series.specs.Sine.{sine, last_spent}
use Rattle.series.proofs.TermLimits.{l_mono, u_mono}
use Rattle.series.proofs.OfSine.{sine_divides}
use Rattle.series.proofs.Deeper.{greatest_rises, least_falls, raw_le_greatest, least_le_raw}

-- a lower term of 0 alone does it: every later one is 0 too
module _ (s : Series) (X n : ℕ) (none : l s X (2 * n) ≡ 0) where
  none_later : (k : ℕ) → 2 * n ≤ k → l s X k ≡ 0
  unfolding l
  none_later =
      le_ind (λ (k : ℕ). l s X k ≡ 0) none (λ k h e. rw (e, zero-mul (Q- X)) (zero-div (one * s.divisor (suc k))))

  -- so the raw low only loses from there on, and the raw high only gains
  raw_low_falls : (d : ℕ) → n ≤ d → raw_low s X d ≤ℤ raw_low s X n
  unfolding raw_low evens odds
  raw_low_falls =
      le_ind (λ (d : ℕ). raw_low s X d ≤ℤ raw_low s X n) (≤ℤ_refl (raw_low s X n))
      (λ d h i.
      ≤ℤ_trans
      ((le_parts (is_sub (evens (l s X) (suc d)) (odds (u s X) (suc d))) (is_sub (evens (l s X) d) (odds (u s X) d))).1
      (omega (arith, none_later (2 * d) (omega arith))))
      i)

  raw_high_rises : (d : ℕ) → n ≤ d → raw_high s X n ≤ℤ raw_high s X d
  unfolding raw_high evens odds
  raw_high_rises =
      le_ind (λ (d : ℕ). raw_high s X n ≤ℤ raw_high s X d) (≤ℤ_refl (raw_high s X n))
      (λ d h i.
      ≤ℤ_trans i
      ((le_parts (is_sub (evens (u s X) (suc d)) (odds (l s X) d)) (is_sub (evens (u s X) (suc (suc d))) (odds (l s X) (suc d)))).1
      (omega (arith, none_later (suc (2 * d)) (omega arith)))))

  -- so no greater depth has better ones
  greatest_stays : 1 ≤ n → (d : ℕ) → n ≤ d → greatest_low s X d ≡ greatest_low s X n
  unfolding greatest_low
  greatest_stays some d h =
      ≤ℤ_antisym
      (le_ind (λ (e : ℕ). greatest_low s X e ≤ℤ greatest_low s X n) (≤ℤ_refl (greatest_low s X n))
      (λ e k i.
      of_greater (λ (z : ℤ). z ≤ℤ greatest_low s X n) (greatest_low s X e) (raw_low s X (suc e)) i
      (≤ℤ_trans (raw_low_falls (suc e) (omega arith)) (raw_le_greatest s X n some))) d h)
      (greatest_rises s X n d h)

  least_stays : 1 ≤ n → (d : ℕ) → n ≤ d → least_high s X d ≡ least_high s X n
  unfolding least_high
  least_stays some d h =
      ≤ℤ_antisym (least_falls s X n d h)
      (le_ind (λ (e : ℕ). least_high s X n ≤ℤ least_high s X e) (≤ℤ_refl (least_high s X n))
      (λ e k i.
      of_lesser (λ (z : ℤ). least_high s X n ≤ℤ z) (least_high s X e) (raw_high s X (suc e)) i
      (≤ℤ_trans (least_le_raw s X n some) (raw_high_rises (suc e) (omega arith)))) d h)

-- of spent terms
module _ {s : Series} {X n : ℕ} (h : Spent s X n) (some : 1 ≤ n) where
  pub low_stays : (d : ℕ) → n ≤ d → greatest_low s X d ≡ greatest_low s X n
  low_stays = greatest_stays s X n h.none some

  pub high_stays : (d : ℕ) → n ≤ d → least_high s X d ≡ least_high s X n
  high_stays = least_stays s X n h.none some

-- ---- sine's: the terms grow with the angle, so that one angle tells of all that are less, and the next of all that are greater

module _ (X n last : ℕ) where
  spent_to : l sine last (2 * n) ≡ 0 → u sine last (2 * n) ≤ 1 → X ≤ last → Spent sine X n
  spent_to none little h =
      let k = l_mono sine sine_divides h h (2 * n) in
      record { none = omega arith; little = le_trans (u_mono sine sine_divides h h (2 * n)) little }

  spent_within : 2 ≤ u sine (suc last) (2 * n) → Spent sine X n → X ≤ last
  spent_within more h =
      let k = lt_of_not-le (λ (g : suc last ≤ X). let i : ⊥ = omega (arith, u_mono sine sine_divides g g (2 * n), h.little) in i) in
      omega arith

  -- by what the terms are at the last such angle and after it
  at_last : l sine last (2 * n) ≡ 0 → u sine last (2 * n) ≤ 1 → 2 ≤ u sine (suc last) (2 * n) → Spent sine X n ↔ X ≤ last
  at_last none little more = (spent_within more, spent_to none little)

-- R61: exactly up to these angles
pub spent_angles : (X n : ℕ) → 1 ≤ n → n ≤ depths → Spent sine X n ↔ X ≤ last_spent n
unfolding l u
spent_angles X zero h k = absurd (let i : ⊥ = omega arith in i)
spent_angles X (suc zero) h k = at_last X 1 (last_spent 1) refl (lit≤ tt) (lit≤ tt)
spent_angles X (suc (suc zero)) h k = at_last X 2 (last_spent 2) refl (lit≤ tt) (lit≤ tt)
spent_angles X (suc (suc (suc zero))) h k = at_last X 3 (last_spent 3) refl (lit≤ tt) (lit≤ tt)
spent_angles X (suc (suc (suc (suc zero)))) h k = at_last X 4 (last_spent 4) refl (lit≤ tt) (lit≤ tt)
spent_angles X (suc (suc (suc (suc (suc zero))))) h k = at_last X 5 (last_spent 5) refl (lit≤ tt) (lit≤ tt)
spent_angles X (suc (suc (suc (suc (suc (suc n)))))) h k = absurd (let i : ⊥ = omega arith in i)
