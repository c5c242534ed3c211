-- Cosine's terms for the angles tested: what differs from sine's are term 0 and the divisors. Assumes nothing.
use mathlib.Core.Path.{◌≡◌}
use Prim.Native.Nat.{ℕ, suc, ◌+◌, ◌-◌, ◌*◌, ◌≤◌}
use native.Mathlib.Omega.{arith}
use native.Mathlib.Nat.{le_trans, mul-le-mul}
use Rattle.grid.specs.Grid.{one, T_units}
use Rattle.series.specs.Terms.{l, u}
use Rattle.series.specs.Walk.{walk, deepened, odd_from, even_from, PairFits, Unfinished, InRange}
use Rattle.series.specs.declared.Walk.{Walk}
use Rattle.series.proofs.TermLimits.{Divides, l-le-u, at_T, terms_within}
use Rattle.series.proofs.CodePair.{odd_divisor, even_divisor}
use Rattle.series.proofs.CodeRange.{in_range}
use Rattle.series.proofs.CodeWalk.{next_fits, next_is}
use Rattle.series.proofs.Falling.{TermsFall, fall_by, square_within}
use Rattle.cosine.specs.Cosine.{cosine}

-- the divisor with no difference in it
pub divisor_is : (k : ℕ) → cosine.divisor (suc k) ≡ (2 * k + 1) * (2 * k + 2)
divisor_is k =
    let e : 2 * suc k - 1 ≡ 2 * k + 1 = omega arith in
    rw e (omega arith)

-- those of a pair, as the code has them
pub odd_divisor_is : (d : ℕ) → odd_divisor cosine d ≡ odd_from 1 d
odd_divisor_is d = rw (divisor_is (2 * d)) (omega arith)

pub even_divisor_is : (d : ℕ) → even_divisor cosine d ≡ even_from 1 d
even_divisor_is d = rw (divisor_is (suc (2 * d))) (omega arith)

pub cosine_divides : Divides cosine
cosine_divides k = rw (divisor_is k) (omega arith)

-- every divisor but the first is at least 12
pub from_12 : (k : ℕ) → 12 ≤ cosine.divisor (suc (suc k))
from_12 k = rw (divisor_is (suc k)) (omega arith)

-- no term is above 5 radians
pub u_within : (X : ℕ) → X ≤ T_units → (k : ℕ) → u cosine X k ≤ 5 * one
unfolding u
u_within = terms_within cosine cosine_divides (λ X Y h. omega arith) (5 * one) tt tt (λ k. omega (arith, from_12 k))

pub l_within : (X : ℕ) → X ≤ T_units → (k : ℕ) → l cosine X k ≤ 5 * one
l_within X h k = le_trans (l-le-u cosine cosine_divides X k) (u_within X h k)

-- the last term that depth 5 adds
pub u10_within : (X : ℕ) → X ≤ T_units → u cosine X 10 ≤ 1
unfolding u
u10_within X h = at_T cosine cosine_divides (λ X Y h. omega arith) X 10 1 h tt

pub cosine_in_range : (X : ℕ) → X ≤ T_units → InRange cosine X
cosine_in_range X h =
    in_range cosine cosine_divides
    (λ k more. let m : k ≤ 9 = omega arith in rw (divisor_is k) (omega (arith, mul-le-mul m m))) X h (λ k. omega (arith, u_within X h k))

-- R72: while x^2 <= 12
pub cosine_fall : (X : ℕ) → X * X ≤ 72057594037927936 * 12 → TermsFall cosine X
cosine_fall = fall_by cosine 12 from_12

pub T_fall : (X : ℕ) → X ≤ T_units → TermsFall cosine X
T_fall X h = cosine_fall X (square_within X 12 h tt)

-- the pair that comes next: (2k - 1) 2k is n (n + 1) for n = 1, 3, ..
pub further_fits : {w : Walk} → Unfinished cosine w → PairFits w (odd_from 1 w.pairs) (even_from 1 w.pairs)
further_fits h = next_fits cosine_in_range 1 odd_divisor_is even_divisor_is h

pub further_is : {w t : Walk} → Unfinished cosine w → t ≡ deepened w (odd_from 1 w.pairs) (even_from 1 w.pairs)
    → t ≡ walk cosine w.angle (suc w.pairs)
further_is h e = next_is cosine_in_range 1 odd_divisor_is even_divisor_is h e
