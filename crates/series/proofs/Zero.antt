-- At X = 0 every term is 0, and so are Lo and Hi at any depth. Assumes nothing.
use mathlib.Core.Path.{◌≡◌}
use Prim.Native.Nat.{ℕ, zero, suc, ◌*◌, ◌≤◌}
use native.Mathlib.Omega.{arith}
use native.Mathlib.Nat.{le_trans}
use lib.IntN.{ℤ, pos}
use Rattle.whole.proofs.Parts.{own, shift, is_pos}
use Rattle.whole.proofs.Order.{one_number}
use Rattle.whole.proofs.Round.{up_le}
use Rattle.grid.specs.Grid.{one}
use Rattle.series.specs.Terms.{l, u, Q+}
use Rattle.series.specs.Sine.{sine, Lo, Hi}
use Rattle.series.proofs.TermLimits.{unit_pos, l-le-u}
use Rattle.series.proofs.OfSine.{sine_divides}
use Rattle.series.proofs.BoundLimits.{Bounded, greatest_within, least_within}

u-zero : (k : ℕ) → u sine 0 k ≤ 0
unfolding u
u-zero zero = omega arith
u-zero (suc k) =
    let h = u-zero k in
    up_le 0 (u sine 0 k * Q+ 0) (one * sine.divisor (suc k)) (unit_pos sine sine_divides k) (omega arith)

l-zero : (k : ℕ) → l sine 0 k ≤ 0
l-zero k = le_trans (l-le-u sine sine_divides 0 k) (u-zero k)

none : (n : ℕ) (z : ℤ) → Bounded (n * 0) z → z ≡ pos 0
none n z w = let h = w.high in let k = w.low in one_number (shift (own z) (omega arith)) (is_pos 0)

-- R57: 0 and 0 at any depth
pub Lo-zero : (d : ℕ) → Lo 0 d ≡ pos 0
Lo-zero d = none (suc d) (Lo 0 d) (greatest_within sine 0 0 l-zero u-zero d (suc d) (omega arith) (omega arith))

pub Hi-zero : (d : ℕ) → Hi 0 d ≡ pos 0
Hi-zero d = none (suc (suc d)) (Hi 0 d) (least_within sine 0 0 l-zero u-zero d (suc (suc d)) (omega arith) (omega arith))
