-- Where a search ends, for any test and any top up to 2^30: its end is accepted and the next one in is not; and a test that
-- accepts more has its lower end no lower and its upper end no higher. Assumes nothing.
use mathlib.Core.Path.{◌≡◌, refl, subst}
use mathlib.Core.Bool.{Bool, not}
use mathlib.Core.Logic.{◌⊎◌, inl, inr}
use Prim.Native.Nat.{ℕ, suc, ◌-◌, ◌^◌, ◌≤◌, ◌<◌}
use native.Mathlib.Omega.{arith}
use lib.Dec.{T, T_not, not_T}
use Rattle.whole.proofs.Bools.{not_failed}
use Rattle.whole.proofs.Parts.{by_test}
use Rattle.enclosure.specs.Halving.{widest, last_bracket, lower_search, upper_search}
use Rattle.enclosure.proofs.Halving.{found, less_accepts}

-- R29: a is accepted, a + 1 is not
pub record LowerFound (acc : ℕ → Bool) (top a : ℕ) : Type 0 where
  pub accepted : T (acc a)
  pub next : T (not (acc (suc a)))
  pub within : a < top

-- R29: b is accepted, and b - 1, where there is one, is not
pub record UpperFound (acc : ℕ → Bool) (top b : ℕ) : Type 0 where
  pub accepted : T (acc b)
  pub next : (b ≡ 0) ⊎ T (not (acc (b - 1)))
  pub within : b ≤ top

opposites : (s t : Bool) → (T s → T t) → T (not t) → T (not s)
opposites s t h n = not_T s (λ y. T_not t n (h y))

module _ (acc : ℕ → Bool) (top : ℕ) (some : 0 < top) (fits : top ≤ 2 ^ 30) where
  pub lower_found : T (acc 0) → T (not (acc top)) → LowerFound acc top (lower_search acc top)
  lower_found a r =
      let f = found acc 30 top some fits a r in
      let e = f.next in
      let w = f.high in
      record { accepted = f.accepted; next = subst (λ (x : ℕ). T (not (acc x))) e f.refused; within = omega arith }

  pub upper_found : T (acc top) → UpperFound acc top (upper_search acc top)
  upper_found t =
      by_test (UpperFound acc top) (acc 0) 0 (last_bracket opposite top).q
      (λ z. record { accepted = z; next = inl refl; within = omega arith })
      (λ z.
      let f = found opposite 30 top some fits z (not_T (not (acc top)) (λ n. T_not (acc top) n t)) in
      let e = f.next in
      let below : (last_bracket opposite top).p ≡ (last_bracket opposite top).q - 1 = omega arith in
      record {
        accepted = not_failed (acc (last_bracket opposite top).q) (T_not (not (acc (last_bracket opposite top).q)) f.refused);
        next = inr (subst (λ (x : ℕ). T (not (acc x))) below f.accepted);
        within = f.high;
      })
    where
      opposite : ℕ → Bool
      opposite x = not (acc x)

module _ (f g : ℕ → Bool) (more : (x : ℕ) → T (f x) → T (g x)) (top : ℕ) (some : 0 < top) where
  pub lower_rises : lower_search f top ≤ lower_search g top
  lower_rises = (less_accepts f g more 30 (widest top) some).p_le

  pub upper_falls : upper_search g top ≤ upper_search f top
  upper_falls =
      by_test (λ (b : ℕ). b ≤ upper_search f top) (g 0) 0 (last_bracket (opposite g) top).q (λ z. omega arith)
      (λ z.
      by_test (λ (b : ℕ). (last_bracket (opposite g) top).q ≤ b) (f 0) 0 (last_bracket (opposite f) top).q
      (λ y. absurd (T_not (g 0) z (more 0 y)))
      (λ y. (less_accepts (opposite g) (opposite f) (λ x. opposites (f x) (g x) (more x)) 30 (widest top) some).q_le))
    where
      opposite : (ℕ → Bool) → ℕ → Bool
      opposite acc x = not (acc x)
