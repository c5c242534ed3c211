-- R63 to R65, on the grid: F(x) = x - M - e S_9(x) rises by at least 1 - e for each unit. So an end that lies farther out than an
-- accepted one, or than one that was refused to the other side, has 32 e units to spare, and depth 5 accepts it. Assumes nothing.
use mathlib.Core.Path.{◌≡◌, sym, subst}
use mathlib.Core.Bool.{Bool, true, false, not}
use Prim.Native.Nat.{ℕ, zero, suc, ◌+◌, ◌-◌, ◌*◌, ◌≤◌}
use native.Mathlib.Omega.{arith}
use native.Mathlib.Nat.{mul-le-mul_left, mul-le-mul_right, lt_of_not-le}
use lib.Dec.{T, T_not}
use Rattle.grid.specs.Grid.{one, T_units, depths}
use Rattle.series.specs.Sine.{sine, Lo, Hi, den9}
use Rattle.series.proofs.Sums.{same, other}
use Rattle.series.proofs.Rise.{sine_rises}
use Rattle.orbit.specs.Cell.{Orbit, orbit_at, grid_cell}
use Rattle.ends.specs.Ends.{end_at}
use Rattle.ends.proofs.InNaturals.{BelowBy, OverBy, Past}
use Rattle.ends.proofs.Corners.{below_corners, above_corners}
use Rattle.ends.proofs.Exact.{below_true, above_true, with_S9}
use Rattle.ends.proofs.Fractions.{spare_accepts}

-- with u = a + b: a times the rise of x - S(x), and b times that of x
rise_by : (u a b D Y k sX oX sY oY : ℕ) → u ≡ a + b → Y * D + sY + oX ≤ (Y + k) * D + sX + oY
    → u * Y * D + a * sY + a * oX + k * b * D ≤ u * (Y + k) * D + a * sX + a * oY
rise_by u a b D Y k sX oX sY oY e h = rw e (omega (arith, mul-le-mul_left a h))

-- the sizes of F at an angle, above 0 and below
abbrev plus_f : Orbit → ℕ → ℕ
plus_f o X = one * X * den9 + o.a * same sine X 9

abbrev minus_f : Orbit → ℕ → ℕ
minus_f o X = one * o.m * den9 + o.a * other sine X 9

rises : (Y k : ℕ) → Y + k ≤ T_units
    → Y * den9 + same sine Y 9 + other sine (Y + k) 9 ≤ (Y + k) * den9 + same sine (Y + k) 9 + other sine Y 9
rises Y zero w = let e : Y + 0 ≡ Y = omega arith in rw e (omega arith)
rises Y (suc k) w = let h = sine_rises Y (Y + suc k) (omega arith) w in omega arith

rise : (o : Orbit) (Y k : ℕ) → o.a ≤ one → Y + k ≤ T_units
    → plus_f o Y + minus_f o (Y + k) + k * (one - o.a) * den9 ≤ plus_f o (Y + k) + minus_f o Y
rise o Y k small w =
    let h =
    rise_by one o.a (one - o.a) den9 Y k (same sine (Y + k) 9) (other sine (Y + k) 9) (same sine Y 9) (other sine Y 9)
    (omega arith) (rises Y k w) in
    omega arith

-- ---- either end, `true` for an upper one

-- Y lies k units farther out than X
abbrev pub Out : Bool → ℕ → ℕ → ℕ → Type 0
Out true X Y k = Y ≡ X + k
Out false X Y k = X ≡ Y + k

-- at most w e units are missing
abbrev Short : Bool → ℕ → Orbit → ℕ → Type 0
Short true w o X = minus_f o X ≤ plus_f o X + w * o.a * den9
Short false w o X = plus_f o X ≤ minus_f o X + w * o.a * den9

outwards : (upper : Bool) (o : Orbit) (X Y k w v : ℕ) → o.a ≤ one → X ≤ T_units → Y ≤ T_units → Out upper X Y k
    → Short upper w o X → (w + v) * o.a ≤ k * (one - o.a) → Past upper v o Y
outwards true o X Y k w v small x y out short far =
    subst (OverBy v o) (sym out)
    (let h = rise o X k small (subst (λ (z : ℕ). z ≤ T_units) out y) in omega (arith, mul-le-mul_right den9 far))
outwards false o X Y k w v small x y out short far =
    let s = subst (Short false w o) out short in
    let h = rise o Y k small (subst (λ (z : ℕ). z ≤ T_units) out x) in
    omega (arith, mul-le-mul_right den9 far)

-- ---- the tests of a point of the grid

module _ (m a X : ℕ) (w : X ≤ T_units) where
  accepted_short : (upper : Bool) → T (end_at upper (grid_cell m a) depths X) → Short upper 0 (orbit_at m a) X
  accepted_short true t =
      let h = with_S9 (orbit_at m a) X 0 (above_true (orbit_at m a) X w depths (omega arith) ((above_corners (grid_cell m a) X (Hi X depths)).0 t).0) in
      omega arith
  accepted_short false t =
      let h = below_true (orbit_at m a) X w depths (omega arith) ((below_corners (grid_cell m a) X (Lo X depths)).0 t).0 in omega arith

  -- refused as the other end
  refused_short : (upper : Bool) → T (not (end_at (not upper) (grid_cell m a) depths X)) → Short upper 32 (orbit_at m a) X
  refused_short true n =
      let h = lt_of_not-le (λ (s : BelowBy 32 (orbit_at m a) X). T_not (end_at false (grid_cell m a) depths X) n (spare_accepts m a X w false s)) in
      omega arith
  refused_short false n =
      let h = lt_of_not-le (λ (s : OverBy 32 (orbit_at m a) X). T_not (end_at true (grid_cell m a) depths X) n (spare_accepts m a X w true s)) in
      omega arith

module _ (upper : Bool) (m a X Y k : ℕ) (small : a ≤ one) (x : X ≤ T_units) (y : Y ≤ T_units) (out : Out upper X Y k) where
  -- R65: 32 e / (1 - e) units farther out than an accepted end
  pub past_accepted : T (end_at upper (grid_cell m a) depths X) → 32 * a ≤ k * (one - a) → T (end_at upper (grid_cell m a) depths Y)
  past_accepted t far =
      spare_accepts m a Y y upper (outwards upper (orbit_at m a) X Y k 0 32 small x y out (accepted_short m a X x upper t) far)

  -- R63, R64: 64 e / (1 - e) units farther out than an angle that is refused as the other end
  pub past_refused : T (not (end_at (not upper) (grid_cell m a) depths X)) → 64 * a ≤ k * (one - a) → T (end_at upper (grid_cell m a) depths Y)
  past_refused n far =
      spare_accepts m a Y y upper (outwards upper (orbit_at m a) X Y k 32 32 small x y out (refused_short m a X x upper n) far)
