-- The end tests of one M, not below 0, and one A, by naturals, and their exact inequalities there: the signed numbers go here,
-- once. Assumes nothing.
use mathlib.Core.Bool.{Bool, true, false}
use mathlib.Core.Logic.{◌↔◌}
use Prim.Native.Nat.{ℕ, ◌+◌, ◌*◌}
use native.Mathlib.Omega.{arith}
use lib.Dec.{T}
use lib.IntN.{ℤ, pos, ◌-ℤ◌, ◌*ℤ◌}
use Rattle.whole.proofs.Parts.{Is, plus, minus, own, is_pos, is_minus, is_mul}
use Rattle.whole.proofs.Order.{test_parts}
use Rattle.grid.specs.Grid.{one}
use Rattle.series.specs.Sine.{sine, den9, den10}
use Rattle.series.proofs.Sums.{same, other}
use Rattle.orbit.specs.Cell.{Orbit}
use Rattle.ends.specs.Ends.{below_at, above_at}
use Rattle.ends.proofs.BothEnds.{Accepts, Spares}

-- k (x - m)
scaled : (k x m : ℕ) → Is (pos k *ℤ (pos x -ℤ pos m)) (k * (x + 0)) (k * (0 + m))
scaled k x m = is_mul k (is_minus (is_pos x) (is_pos m))

-- R19 and R20: X - M against e S_9(X) and e S_10(X), with w e units to spare
abbrev pub BelowBy : ℕ → Orbit → ℕ → Type 0
BelowBy w o X = Spares w (one * X) (one * o.m) o.a den9 (other sine X 9) (same sine X 9)

abbrev pub AboveBy : ℕ → Orbit → ℕ → Type 0
AboveBy w o X = Spares w (one * o.m) (one * X) o.a den10 (other sine X 10) (same sine X 10)

-- an upper end's with S_9, which S_10 is not below
abbrev pub OverBy : ℕ → Orbit → ℕ → Type 0
OverBy w o X = Spares w (one * o.m) (one * X) o.a den9 (same sine X 9) (other sine X 9)

-- either end's with S_9, `true` for an upper one
abbrev pub Past : Bool → ℕ → Orbit → ℕ → Type 0
Past true = OverBy
Past false = BelowBy

module _ (o : Orbit) (X : ℕ) where
  pub below_test : (b : ℤ) → T (below_at o X b) ↔ Accepts (one * X) (one * o.m) o.a (plus b) (minus b)
  unfolding below_at
  below_test b =
      let (there, back) = test_parts (scaled one X o.m) (is_mul o.a (own b)) in
      (λ t. let h = there t in omega arith, λ h. back (omega arith))

  pub above_test : (b : ℤ) → T (above_at o X b) ↔ Accepts (one * o.m) (one * X) o.a (minus b) (plus b)
  unfolding above_at
  above_test b =
      let (there, back) = test_parts (is_mul o.a (own b)) (scaled one X o.m) in
      (λ t. let h = there t in omega arith, λ h. back (omega arith))
