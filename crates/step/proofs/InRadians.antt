-- R75: a whole number of units, in radians, is a double: nothing is rounded. Assumes nothing.
use mathlib.Core.Path.{◌≡◌, refl, sym, ap, subst, ◌∙◌}
use mathlib.Core.Bool.{Bool, true, false}
use Prim.Native.Nat.{ℕ, suc, ◌+◌, ◌-◌, ◌*◌, ◌^◌, ◌≤◌, ◌<◌}
use native.Mathlib.Omega.{arith}
use native.Mathlib.Nat.{lt_of_lt_of_le, mul-pos, eq_of_mul-eq-mul_right}
use lib.Dec.{lit≤}
use lib.IntN.{ℤ, pos, negsuc, nat_abs}
use lib.Pow.{pow-add, pow_pos, pow_mono, shl_lt}
use lib.Ieee.{Float, nan, inf, fin, Format, binary64, prec, emax, low, up, down, round, of_int, div, unlike}
use lib.Ieee.Digits.{back}
use lib.Ieee.Fits.{down_pos}
use lib.Ieee.Exact.{HasValue, round_exact}
use Rattle.whole.specs.Sign.{negative}
use Rattle.grid.specs.Grid.{one}
use Rattle.units.proofs.Scaled.{over_power}
use Rattle.step.specs.Step.{in_radians}

plain : (s : Bool) → unlike s false ≡ s
plain true = refl
plain false = refl

-- from one fraction to another of the same size
rescaled : (x : Float) (s : Bool) (w l n d : ℕ) → 0 < l → n * l ≡ w * d → HasValue x s w l → HasValue x s n d
rescaled nan s w l n d p h v = v
rescaled (inf t) s w l n d p h v = v
rescaled (fin t m e) s w l n d p h v = (
  v.0,
  eq_of_mul-eq-mul_right l p (m * up e * d) (n * down e)
      (let a : m * up e * l * d ≡ w * down e * d = ap (λ (k : ℕ). k * d) v.1 in
      let b : n * l * down e ≡ w * d * down e = ap (λ (k : ℕ). k * down e) h in omega arith),
)

-- n / 1 divided by 2^k, in any format that has a place for it
module _ (f : Format) (n k : ℕ) (place : k ≤ low f) (room : prec f + (low f - k) ≤ low f + suc (emax f)) (few : n < 2 ^ prec f) where
  shifted : (a d : ℕ) → a * 1 ≡ n * d → a * 1 * 2 ^ low f ≡ n * 2 ^ (low f - k) * (1 * 2 ^ k * d)
  shifted a d h =
      let e : 2 ^ (low f - k) * 2 ^ k ≡ 2 ^ low f = sym (pow-add 2 (low f - k) k) ∙ ap (λ (j : ℕ). 2 ^ j) (back (low f) k place) in
      let p : a * 1 * 2 ^ low f ≡ n * d * 2 ^ low f = ap (λ (j : ℕ). j * 2 ^ low f) h in
      let q : n * d * (2 ^ (low f - k) * 2 ^ k) ≡ n * d * 2 ^ low f = ap (λ (j : ℕ). n * d * j) e in
      omega arith

  divided : (x : Float) (s : Bool) → HasValue x s n 1 → HasValue (div f x (fin false 1 (pos k))) s n (2 ^ k)
  unfolding div
  divided nan s v = absurd v
  divided (inf t) s v = absurd v
  divided (fin t m e) s v =
      let den = 1 * 2 ^ k * down e in
      let some : 0 < den = mul-pos (mul-pos (lit≤ tt) (pow_pos k)) (down_pos e) in
      let exact = round_exact f (unlike t false) (m * up e * 1) den n (low f - k) some few
      (lt_of_lt_of_le (shl_lt (prec f) (low f - k) few) (pow_mono room)) (shifted (m * up e) (down e) v.1) in
      let same : n * den ≡ m * up e * 1 * 2 ^ k = let p : m * up e * 1 * 2 ^ k ≡ n * down e * 2 ^ k = ap (λ (j : ℕ). j * 2 ^ k) v.1 in omega arith in
      let quotient = round f (unlike t false) (m * up e * 1) den in
      subst (λ (sign : Bool). HasValue quotient sign n (2 ^ k)) (plain t ∙ v.0)
      (rescaled quotient (unlike t false) (m * up e * 1) den n (2 ^ k) some same exact)

pub radians_value : (z : ℤ) → nat_abs z < 2 ^ 53 → HasValue (in_radians z) (negative z) (nat_abs z) one
unfolding of_int
radians_value (pos n) few = divided binary64 n 28 (lit≤ tt) (lit≤ tt) few _ false (over_power binary64 false n 0 (lit≤ tt) (lit≤ tt) few)
radians_value (negsuc n) few =
    divided binary64 (suc n) 28 (lit≤ tt) (lit≤ tt) few _ true (over_power binary64 true (suc n) 0 (lit≤ tt) (lit≤ tt) few)
