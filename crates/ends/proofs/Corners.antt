-- The test of a cell is the grid's test at both corners, and a better bound accepts no less. Assumes nothing.
use mathlib.Core.Path.{◌≡◌, ap}
use mathlib.Core.Bool.{Bool, true, false}
use mathlib.Core.Logic.{◌↔◌}
use Prim.Native.Nat.{ℕ, ◌≤◌, ◌*◌}
use native.Mathlib.Omega.{arith}
use native.Mathlib.Nat.{mul-le-mul_left}
use lib.Dec.{T}
use lib.IntN.{ℤ, pos, ◌-ℤ◌, ◌*ℤ◌}
use lib.Signed.{◌≤ℤ◌}
use Rattle.whole.proofs.Bools.{alike}
use Rattle.whole.proofs.Parts.{plus, minus, own}
use Rattle.whole.proofs.Order.{le_parts, le-lesser, greater-le}
use Rattle.grid.specs.Grid.{one}
use Rattle.series.specs.Bounds.{Spent}
use Rattle.series.specs.Sine.{sine}
use Rattle.series.proofs.Deeper.{Lo_rises, Hi_falls}
use Rattle.series.proofs.Stays.{low_stays, high_stays}
use Rattle.orbit.specs.Cell.{Orbit, orbit_at, grid_cell}
use Rattle.orbit.specs.Cell.{Cell}
use Rattle.ends.specs.Ends.{below_at, above_at, below_by, above_by, end_by, bound_of, end_at}
use Rattle.ends.proofs.BothEnds as ends
use Rattle.ends.proofs.InNaturals.{below_test, above_test}

module _ (c : Cell) (X : ℕ) (b : ℤ) where
  pub below_corners : T (below_by c X b)
      ↔ T (below_at (orbit_at c.m.floor c.a.floor) X b) × T (below_at (orbit_at c.m.floor c.a.ceiling) X b)
  unfolding below_by below_at
  below_corners = le-lesser (pos one *ℤ (pos X -ℤ pos c.m.floor)) (pos c.a.floor *ℤ b) (pos c.a.ceiling *ℤ b)

  pub above_corners : T (above_by c X b)
      ↔ T (above_at (orbit_at c.m.ceiling c.a.floor) X b) × T (above_at (orbit_at c.m.ceiling c.a.ceiling) X b)
  unfolding above_by above_at
  above_corners = greater-le (pos c.a.floor *ℤ b) (pos c.a.ceiling *ℤ b) (pos one *ℤ (pos X -ℤ pos c.m.ceiling))

-- on the grid both corners are one
pub below_grid : (m a X : ℕ) (b : ℤ) → below_by (grid_cell m a) X b ≡ below_at (orbit_at m a) X b
below_grid m a X b =
    let (there, back) = below_corners (grid_cell m a) X b in
    alike (below_by (grid_cell m a) X b) (below_at (orbit_at m a) X b) (λ t. (there t).0) (λ t. back (t, t))

pub above_grid : (m a X : ℕ) (b : ℤ) → above_by (grid_cell m a) X b ≡ above_at (orbit_at m a) X b
above_grid m a X b =
    let (there, back) = above_corners (grid_cell m a) X b in
    alike (above_by (grid_cell m a) X b) (above_at (orbit_at m a) X b) (λ t. (there t).0) (λ t. back (t, t))

-- z is no worse than y as the bound of an upper end's test, or of a lower end's
abbrev pub NoWorse : Bool → ℤ → ℤ → Type 0
NoWorse true y z = z ≤ℤ y
NoWorse false y z = y ≤ℤ z

module _ (o : Orbit) (X : ℕ) (y z : ℤ) where
  below_better : y ≤ℤ z → T (below_at o X y) → T (below_at o X z)
  below_better h t =
      (below_test o X z).1
      (ends.better (one * X) (one * o.m) o.a (plus y) (minus y) (plus z) (minus z) ((le_parts (own y) (own z)).0 h)
      ((below_test o X y).0 t))

  above_better : z ≤ℤ y → T (above_at o X y) → T (above_at o X z)
  above_better h t =
      let k = (le_parts (own z) (own y)).0 h in
      (above_test o X z).1
      (ends.better (one * o.m) (one * X) o.a (minus y) (plus y) (minus z) (plus z) (omega arith) ((above_test o X y).0 t))

pub better : (upper : Bool) (c : Cell) (X : ℕ) (y z : ℤ) → NoWorse upper y z → T (end_by upper c X y) → T (end_by upper c X z)
better true c X y z h t =
    let p = (above_corners c X y).0 t in
    (above_corners c X z).1 (above_better _ X y z h p.0, above_better _ X y z h p.1)
better false c X y z h t =
    let p = (below_corners c X y).0 t in
    (below_corners c X z).1 (below_better _ X y z h p.0, below_better _ X y z h p.1)

bounds_deeper : (upper : Bool) (X : ℕ) {d e : ℕ} → d ≤ e → NoWorse upper (bound_of upper X d) (bound_of upper X e)
bounds_deeper true X {d} {e} h = Hi_falls X d e h
bounds_deeper false X {d} {e} h = Lo_rises X d e h

-- R22: accepted at a depth is accepted at every greater one
pub deeper : (upper : Bool) (c : Cell) (X : ℕ) {d e : ℕ} → d ≤ e → T (end_at upper c d X) → T (end_at upper c e X)
deeper upper c X h = better upper c X _ _ (bounds_deeper upper X h)

-- R61: from spent terms on every depth says the same
pub spent_alike : (upper : Bool) (c : Cell) (X : ℕ) {n : ℕ} → Spent sine X n → 1 ≤ n → (d : ℕ) → n ≤ d → end_at upper c d X ≡ end_at upper c n X
spent_alike true c X h some d k = ap (above_by c X) (high_stays h some d k)
spent_alike false c X h some d k = ap (below_by c X) (low_stays h some d k)

-- an upper end of one M is one of every lesser M
pub lesser_mean : (m n a X : ℕ) (b : ℤ) → m ≤ n → T (above_at (orbit_at n a) X b) → T (above_at (orbit_at m a) X b)
lesser_mean m n a X b h t =
    let k = (above_test (orbit_at n a) X b).0 t in
    (above_test (orbit_at m a) X b).1 (omega (arith, mul-le-mul_left one h))
