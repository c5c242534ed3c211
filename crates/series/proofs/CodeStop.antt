-- R61, as the code stops: by the angle, and by a walk's last term. Assumes nothing.
use mathlib.Core.Path.{◌≡◌, sym, ap, ap₂, ◌∙◌}
use mathlib.Core.Bool.{true}
use mathlib.Core.Logic.{◌⊎◌, inl, inr}
use Prim.Native.Nat.{ℕ, suc, ◌*◌, ◌≤◌}
use native.Mathlib.Omega.{arith}
use lib.Dec.{eqb, leb, leb→le, eqb→eq}
use lib.IntN.{ℤ}
use Rattle.whole.proofs.Bools.{passed, both_parts}
use Rattle.grid.specs.Grid.{depths}
use Rattle.series.specs.Terms.{Series, l, u}
use Rattle.series.specs.Bounds.{Spent}
use Rattle.series.specs.Sine.{sine, last_spent}
use Rattle.series.specs.Asked.{biased_bounds}
use Rattle.series.specs.Walk.{biased, walk, spent_at}
use Rattle.series.specs.declared.Walk.{Walk}
use Rattle.series.specs.declared.Biased.{Biased}
use Rattle.series.proofs.CodeWalk.{bounds}
use Rattle.series.proofs.Stays.{low_stays, high_stays, spent_angles}

-- the bounds that a walk has come to are those of its depth, and of every greater one where the terms are spent
module _ (s : Series) {w : Walk} {X n d : ℕ} where
  pub at_depth_lem : 1 ≤ d → d ≡ n → w ≡ walk s X n → ◌≡◌ {A = Biased} record { lo = w.greatest; hi = w.least } (biased_bounds s X d)
  at_depth_lem some f e = bounds s w X d some (e ∙ ap (walk s X) (sym f))

  pub at_spent : Spent s X n → 1 ≤ n → n ≤ d → w ≡ walk s X n
      → ◌≡◌ {A = Biased} record { lo = w.greatest; hi = w.least } (biased_bounds s X d)
  at_spent h some k e =
      bounds s w X n some e
      ∙ sym (ap₂ (λ (low high : ℤ). record { lo = biased low; hi = biased high }) (low_stays h some d k) (high_stays h some d k))

-- sine's are, up to an angle
pub spent_by : {X : ℕ} (n : ℕ) → X ≤ last_spent (suc n) → suc n ≤ depths → Spent sine X (suc n)
spent_by {X} n least few = (spent_angles X (suc n) (omega arith) few).1 least

-- so a walk through them has come to its bounds at the depth, or at such an angle
pub at_stop : {w : Walk} {X d : ℕ} (n : ℕ) → suc n ≤ depths → suc n ≤ d → w ≡ walk sine X (suc n)
    → (d ≡ suc n) ⊎ ((d ≡ suc n → ⊥) × (X ≤ last_spent (suc n)))
    → ◌≡◌ {A = Biased} record { lo = w.greatest; hi = w.least } (biased_bounds sine X d)
at_stop n few some e s =
    elim s [
      | inl f ↦ at_depth_lem sine (omega arith) f e
      | inr p ↦ at_spent sine (spent_by n p.1 few) (omega arith) some e
    ]

-- a walk's test of its last term
pub spent_walk : (s : Series) (w : Walk) (X n : ℕ) → w ≡ walk s X n → spent_at w ≡ true → Spent s X n
spent_walk s w X n e t =
    let (none, little) = both_parts (eqb (l s X (2 * n)) 0) (leb (u s X (2 * n)) 1) (passed (spent_at (walk s X n)) (sym (sym (ap spent_at e) ∙ t))) in
    record { none = eqb→eq (l s X (2 * n)) 0 none; little = leb→le (u s X (2 * n)) 1 little }
