-- R8: what an exact sum of sine is multiplied out by, in closed form. Assumes nothing.
use mathlib.Core.Path.{◌≡◌, refl}
use Prim.Native.Nat.{ℕ, zero, suc, ◌+◌, ◌*◌, ◌^◌}
use native.Mathlib.Omega.{arith}
use native.Mathlib.Nat.{pow-zero, pow-suc}
use Rattle.series.specs.Exact.{num, ratio, den}
use Rattle.series.specs.Factorial.{factorial}
use Rattle.series.specs.Sine.{sine}

-- R8: 2^28 t_n is X^(2n+1) / den n, and den n is (2^56)^n (2n+1)!
pub den_is : (n : ℕ) → den sine n ≡ 72057594037927936 ^ n * factorial (2 * n + 1)
unfolding den ratio factorial
den_is zero = refl
den_is (suc n) =
    let e : 2 * suc n + 1 ≡ suc (suc (2 * n + 1)) = omega arith in
    rw (den_is n, e, pow-suc) (omega arith)

pub num_is : (X n : ℕ) → num sine X n ≡ X ^ (2 * n + 1)
unfolding num
num_is X zero = rw (pow-suc X 0, pow-zero X) (omega arith)
num_is X (suc n) =
    let e : 2 * suc n + 1 ≡ suc (suc (2 * n + 1)) = omega arith in
    rw (num_is X n, e, pow-suc X (suc (2 * n + 1)), pow-suc X (2 * n + 1)) (omega arith)
