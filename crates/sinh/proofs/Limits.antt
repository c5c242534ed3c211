-- How large the bounds can be, R82: they grow with X, so that those at the top are a limit for all. Assumes nothing.
use mathlib.Core.Path.{◌≡◌, refl}
use Prim.Native.Nat.{ℕ, zero, suc, ◌+◌, ◌*◌, ◌≤◌, ◌<◌}
use native.Mathlib.Omega.{arith}
use native.Mathlib.Nat.{le_trans, add-le-add, mul-pos}
use lib.Dec.{lit<, lit≤}
use Rattle.whole.proofs.Round.{up_some}
use Rattle.grid.specs.Grid.{one}
use Rattle.grid.specs.Flyby.{X_top}
use Rattle.series.specs.Terms.{l, u, Q+}
use Rattle.series.specs.Sine.{sine}
use Rattle.series.proofs.TermLimits.{unit_pos, l_mono, u_mono, l-le-u}
use Rattle.series.proofs.OfSine.{sine_divides}
use Rattle.sinh.specs.Sinh.{last, total, low, high}

-- terms that are not above others, with term 0 at least j below, have a sum that is at least j below theirs
total_apart : (f g : ℕ → ℕ) (j : ℕ) → f zero + j ≤ g zero → ((k : ℕ) → f k ≤ g k) → (n : ℕ) → total f n + j ≤ total g n
unfolding total
total_apart f g j least h zero = least
total_apart f g j least h (suc n) = omega (arith, total_apart f g j least h n, h (suc n))

total_mono : (f g : ℕ → ℕ) → ((k : ℕ) → f k ≤ g k) → (n : ℕ) → total f n ≤ total g n
total_mono f g h n = omega (arith, total_apart f g 0 (omega (arith, h zero)) h n)

-- 973577934 is high at the top
pub high_small : (X : ℕ) → X ≤ X_top → high X ≤ 973577934
unfolding high total u
high_small X h =
    let more = u_mono sine sine_divides h h in
    le_trans (add-le-add (total_mono (u sine X) (u sine X_top) more last) (more last)) (lit≤ tt)

pub low-le-high : (X : ℕ) → low X + u sine X last ≤ high X
unfolding low high
low-le-high X = omega (arith, total_mono (l sine X) (u sine X) (l-le-u sine sine_divides X) last)

-- one unit more in X is at least one more in either bound, as term 0 is X itself
pub low_steep : (Y j : ℕ) → low Y + j ≤ low (Y + j)
unfolding low l
low_steep Y j =
    let least : Y ≤ Y + j = omega arith in
    total_apart (l sine Y) (l sine (Y + j)) j (omega arith) (l_mono sine sine_divides least least) last

pub high_steep : (Y j : ℕ) → high Y + j ≤ high (Y + j)
unfolding high u
high_steep Y j =
    let least : Y ≤ Y + j = omega arith in
    let more = u_mono sine sine_divides least least in
    omega (arith, total_apart (u sine Y) (u sine (Y + j)) j (omega arith) more last, more last)

pub low_small : (X : ℕ) → X ≤ X_top → low X ≤ 973577934
low_small X h = omega (arith, low-le-high X, high_small X h)

-- at 0 every term is 0
pub high_zero : high 0 ≡ 0
unfolding high total u
high_zero = refl

pub low-zero : low 0 ≡ 0
unfolding low total l
low-zero = refl

-- elsewhere no term that is rounded up is
u_some : (X : ℕ) → 0 < X → (k : ℕ) → 0 < u sine X k
unfolding u
u_some X h zero = h
u_some X h (suc k) =
    up_some (u sine X k * Q+ X) (one * sine.divisor (suc k)) (mul-pos (u_some X h k) (up_some (X * X) one (mul-pos h h) (lit< tt)))
    (unit_pos sine sine_divides k)

pub low-lt-high : (X : ℕ) → 0 < X → low X < high X
low-lt-high X h = omega (arith, low-le-high X, u_some X h last)
