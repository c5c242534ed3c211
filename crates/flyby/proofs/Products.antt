-- R85: the products of an end test: B low and B high are at most 1,045,371,346,659,311,616, which is below 2^60. Assumes nothing.
use mathlib.Core.Path.{◌≡◌}
use Prim.Native.Nat.{ℕ, ◌*◌, ◌≤◌}
use native.Mathlib.Omega.{arith}
use native.Mathlib.Nat.{mul-le-mul}
use Rattle.grid.specs.Flyby.{X_top}
use Rattle.sinh.specs.Sinh.{low, high}
use Rattle.sinh.proofs.Limits.{low_small, high_small}
use Rattle.flyby.specs.Posed.{Flyby, FlybyIn}

module _ {f : Flyby} (i : FlybyIn f) {X : ℕ} (h : X ≤ X_top) where
  pub low_product : {n : ℕ} → n ≡ low X → f.shape * n ≤ 1045371346659311616
  low_product {n} e = let s : n ≤ 973577934 = omega (arith, low_small X h) in mul-le-mul i.shape s

  pub high_product : {n : ℕ} → n ≡ high X → f.shape * n ≤ 1045371346659311616
  high_product {n} e = let s : n ≤ 973577934 = omega (arith, high_small X h) in mul-le-mul i.shape s
