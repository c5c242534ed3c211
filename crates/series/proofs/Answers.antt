-- How an entry that bounds a series refuses, and what it answers where its checks pass; of any series in range. Assumes nothing.
use mathlib.Core.Path.{◌≡◌, refl, ap, ap₂, sym, subst, ◌∙◌}
use mathlib.Core.List.{[]}
use Prim.Native.Nat.{ℕ, ◌*◌, ◌≤◌}
use borrow.Author.Tests.{le-ltb}
use lib.IntN.{ℤ}
use Rattle.std.specs.Prelude.{Ok}
use Rattle.grid.specs.Grid.{T_units, depths}
use Rattle.grid.specs.Refuses.{Refuses}
use Rattle.grid.proofs.Fits.{depth_fits, depth_passes}
use Rattle.grid.proofs.FirstCode.{goes, made, passes}
use Rattle.grid.proofs.Refuses.{makes}
use Rattle.series.specs.Terms.{Series}
use Rattle.series.specs.Entry.{bounds_checks, no_bounds, bounds_of, bounds_rule}
use Rattle.series.specs.Walk.{bias, InRange}
use Rattle.series.specs.Asked.{biased_bounds, unbiased, interval, interval_known, asked_for}
use Rattle.series.specs.declared.Asked.{Asked}
use Rattle.series.specs.declared.Biased.{Biased}
use Rattle.series.specs.declared.Bounds.{Bounds}
use Rattle.series.proofs.CodeRange.{greatest_in, least_in}
use Rattle.series.proofs.CodeBias.{biased_small, unbiased_is}

pub bounded : (s : Series) (x d : ℕ) → Refuses (bounds_checks x d) (λ (r : Bounds). r.code) no_bounds (bounds_rule s x d)
unfolding bounds_rule
bounded s x d = makes (bounds_checks x d) (λ (r : Bounds). r.code) no_bounds (bounds_of s x d) refl (λ k. refl) tt

-- which is what it answers within the limits
pub bounds_within : (s : Series) (x d : ℕ) → x ≤ T_units → 1 ≤ d → d ≤ depths → bounds_rule s x d ≡ bounds_of s x d
unfolding bounds_rule
bounds_within s x d h some few =
    goes (bounds_checks x d) (depth_passes d some few, (le-ltb T_units x h, tt)) no_bounds (bounds_of s x d)

-- bounds within 2^34, biased, are small, and are read back as they were
module _ (s : Series) (X d : ℕ) (r : InRange s X) (few : d ≤ depths) where
  pub small_bounds : {lo hi : ℕ} → ◌≡◌ {A = Biased} record { lo = lo; hi = hi } (biased_bounds s X d) → (lo ≤ 2 * bias) × (hi ≤ 2 * bias)
  small_bounds e =
      (rw (ap (λ (b : Biased). b.lo) e) (biased_small _ (greatest_in s X r d few)), rw (ap (λ (b : Biased). b.hi) e) (biased_small _ (least_in s X r d few)))

  pub read_back : unbiased (biased_bounds s X d) ≡ interval s X d
  read_back =
      ap₂ (λ (lo hi : ℤ). record { lo = lo; hi = hi }) (unbiased_is _ (greatest_in s X r d few)) (unbiased_is _ (least_in s X r d few))

-- what is known of the bounds, from what they are asked of
pub known_by : (s : Series) (x d : ℕ) {q : Asked} {b : Biased}
    → asked_for x d ≡ Ok q → InRange s q.angle → b ≡ biased_bounds s q.angle q.depth → Ok (unbiased b) ≡ interval_known s x d
known_by s x d {q} e r f =
    let asked : Asked = record { angle = x; depth = d } in
    let (p, g) = made asked (bounds_checks x d) e in
    let few = depth_fits d p.0 in
    let range : InRange s x = subst (λ (a : Asked). InRange s a.angle) g r in
    ap (λ (c : Biased). Ok (unbiased c)) (f ∙ ap (λ (a : Asked). biased_bounds s a.angle a.depth) g)
    ∙ ap Ok (read_back s x d range few.few)
    ∙ sym (passes (interval s x d) (bounds_checks x d) [] p)
