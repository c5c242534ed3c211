-- R21: ends in order, for e up to 1: x - S_9(x) rises with x, and S_9 is below S_10. Assumes nothing.
use mathlib.Core.Path.{◌≡◌, ap}
use Prim.Native.Nat.{ℕ, ◌+◌, ◌-◌, ◌*◌, ◌≤◌, ◌<◌}
use native.Mathlib.Omega.{arith}
use native.Mathlib.Nat.{mul-le-mul_left}
use lib.Dec.{T, ltb, not_T, ltb→lt, nltb→le}
use Rattle.grid.specs.Grid.{one, T_units, depths}
use Rattle.series.specs.Sine.{sine, Lo, Hi, den9}
use Rattle.series.proofs.Sums.{same, other}
use Rattle.series.proofs.OfSine.{sine_divides}
use Rattle.series.proofs.TermsTrue.{den_pos}
use Rattle.series.proofs.Rise.{sine_rises}
use Rattle.orbit.specs.Cell.{Orbit, orbit_at, CellIn}
use Rattle.orbit.specs.Cell.{Cell}
use Rattle.ends.specs.Ends.{lower_end, upper_end}
use Rattle.ends.proofs.BothEnds.{Spares}
use Rattle.ends.proofs.InNaturals.{BelowBy, AboveBy}
use Rattle.ends.proofs.Corners.{below_corners, above_corners, lesser_mean}
use Rattle.ends.proofs.Exact.{below_true, above_true, with_S9}

-- with u = a + b: a times the rise of x - S(x) and b times that of x are all of u, and neither can be undone
gap : (u a b D X Y M sX oX sY oY : ℕ) → u ≡ a + b → 0 < u → 0 < D → Y < X
    → Y * D + sY + oX < X * D + sX + oY → Spares 0 (u * X) (u * M) a D oX sX → Spares 0 (u * M) (u * Y) a D sY oY → ⊥
gap u a b D X Y M sX oX sY oY e some den above rise lower upper =
    let x : u * (X * D) ≡ (a + b) * (X * D) = ap (λ (k : ℕ). k * (X * D)) e in
    let y : u * (Y * D) ≡ (a + b) * (Y * D) = ap (λ (k : ℕ). k * (Y * D)) e in
    omega (arith, mul-le-mul_left a rise, mul-le-mul_left (b * D) above, mul-le-mul_left b den)

exact_apart : (o : Orbit) (X Y : ℕ) → o.a ≤ one → X ≤ T_units → BelowBy 0 o X → AboveBy 0 o Y → X ≤ Y
exact_apart o X Y e w p q = nltb→le Y X (not_T (ltb Y X) (λ t. clash (ltb→lt Y X t)))
  where
    clash : Y < X → ⊥
    clash above =
        gap one o.a (one - o.a) den9 X Y o.m (same sine X 9) (other sine X 9) (same sine Y 9) (other sine Y 9)
        (omega arith) (omega arith) (den_pos sine sine_divides 9) above (sine_rises Y X above w) p (with_S9 o Y 0 q)

-- R21: of a cell, at any depths, equal or not: both tests hold at the corner of the least M and the least A
pub apart : (c : Cell) (X Y d e : ℕ) → CellIn c → X ≤ T_units → Y ≤ T_units → d ≤ depths → e ≤ depths
    → T (lower_end c d X) → T (upper_end c e Y) → X ≤ Y
apart c X Y d e i x y j k p q =
    let o = orbit_at c.m.floor c.a.floor in
    let l = i.shapes in
    let h = i.shape in
    exact_apart o X Y (omega arith) x (below_true o X x d j ((below_corners c X (Lo X d)).0 p).0)
    (above_true o Y y e k (lesser_mean c.m.floor c.m.ceiling c.a.floor Y (Hi Y e) i.means ((above_corners c Y (Hi Y e)).0 q).0))
