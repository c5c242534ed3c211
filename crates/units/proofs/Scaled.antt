-- Multiplication of a double by a power of two is exact as long as nothing overflows, from subnormals too; and a whole number over a
-- power of two is a double, where its digits are few enough. Assumes nothing.
use Rattle.std.proofs.Common.{◌≡◌, ℕ, zero, suc, ◌+◌, ◌-◌, ◌*◌, ◌%◌, ◌^◌, ◌<◌, ◌≤◌, Bool, true, false, ◌&&◌, T, eqb, ltb, leb, ℤ, pos, negsuc, sym, ap, ◌∙◌, suc-le-suc, lt_of_lt_of_le, mul_assoc, lt_of_mul-lt-mul_right, mul-lt-mul_of_pos_right, one-mul, lt_of_not-le, mul-one, not-le_of_lt, arith, ltb→lt, leb→le, pow_pos, pow_mono, pow-add, shl_lt}
use lib.Pow.{pow-lt}
use lib.Ieee.{fin, Format, prec, emax, low, up, down, round, fits}
use lib.Ieee.Digits.{back}
use lib.Ieee.Fits.{down_pos}
use lib.Ieee.Exact.{HasValue, round_exact}

below_low : (f : Format) (k : ℕ) → 2 ^ suc k ≤ 2 ^ low f → suc k ≤ low f
below_low f k h = lt_of_not-le (λ (g : low f ≤ k). not-le_of_lt (pow-lt (suc-le-suc g)) h)

-- the exponent as a whole number of the format's smallest one
place : (f : Format) (e : ℤ) → down e ≤ 2 ^ low f → (g : ℕ) × (up e * 2 ^ low f ≡ 2 ^ g * down e)
place f (pos k) h = (k + low f, sym (pow-add 2 k (low f)) ∙ sym (mul-one (2 ^ (k + low f))))
place f (negsuc k) h =
    let l : suc k ≤ low f = below_low f k h in
    (low f - suc k, one-mul (2 ^ low f) ∙ ap (λ (n : ℕ). 2 ^ n) (sym (back (low f) (suc k) l)) ∙ pow-add 2 (low f - suc k) (suc k))

middle : (a b c d : Bool) → T (a && b && c && d) → T b × T c
middle true true true d t = (tt, tt)
middle true true false d t = absurd t
middle true false c d t = absurd t
middle false b c d t = absurd t

-- what is known of a number that the format holds, other than 0
held : (f : Format) (s : Bool) (m : ℕ) (e : ℤ) → T (fits f (fin s (suc m) e)) → (suc m < 2 ^ prec f) × (down e ≤ 2 ^ low f)
unfolding fits
held f s m e t =
    let few = ltb (suc m) (2 ^ prec f) in
    let within = leb (down e) (2 ^ low f) in
    let p = middle (eqb (suc m % 2) 1) few within (ltb (suc m * up e) (2 ^ suc (emax f) * down e)) t in
    (ltb→lt (suc m) (2 ^ prec f) p.0, leb→le (down e) (2 ^ low f) p.1)

regroup : (n u w l g d : ℕ) → u * l ≡ g * d → n * u * w * l ≡ n * (g * w) * d
regroup n u w l g d h = let k : n * w * (u * l) ≡ n * w * (g * d) = ap (λ (x : ℕ). n * w * x) h in omega arith

no_overflow : (n u w l g d top : ℕ) → 0 < l → u * l ≡ g * d → n * u * w < top * d → n * (g * w) < l * top
no_overflow n u w l g d top L h k =
    let r = regroup n u w l g d h in
    let p = mul-lt-mul_of_pos_right k L in
    lt_of_mul-lt-mul_right d (omega arith)

pub times_power : (f : Format) (s : Bool) (m : ℕ) (e : ℤ) (t : ℕ) → T (fits f (fin s m e))
    → m * up e * 2 ^ t < 2 ^ suc (emax f) * down e → HasValue (round f s (m * up e * 2 ^ t) (down e)) s (m * up e * 2 ^ t) (down e)
times_power f s zero e t fit h =
    round_exact f s (0 * up e * 2 ^ t) (down e) 0 0 (down_pos e) (pow_pos (prec f)) (pow_pos (low f + suc (emax f))) (omega arith)
times_power f s (suc m) e t fit h =
    let k = held f s m e fit in
    let g = place f e k.1 in
    round_exact f s (suc m * up e * 2 ^ t) (down e) (suc m) (g.0 + t) (down_pos e) k.0
    (rw (pow-add 2 g.0 t, pow-add 2 (low f) (suc (emax f))) (no_overflow (suc m) (up e) (2 ^ t) (2 ^ low f) (2 ^ g.0) (down e) (2 ^ suc (emax f)) (pow_pos (low f)) g.1 h))
    (rw (pow-add 2 g.0 t) (regroup (suc m) (up e) (2 ^ t) (2 ^ low f) (2 ^ g.0) (down e) g.1))

-- n / 2^k, where k is one of the format's places
pub over_power : (f : Format) (s : Bool) (n k : ℕ) → k ≤ low f → prec f + (low f - k) ≤ low f + suc (emax f) → n < 2 ^ prec f
    → HasValue (round f s n (2 ^ k)) s n (2 ^ k)
over_power f s n k h room few =
    round_exact f s n (2 ^ k) n (low f - k) (pow_pos k) few (lt_of_lt_of_le (shl_lt (prec f) (low f - k) few) (pow_mono room))
    (ap (λ (j : ℕ). n * 2 ^ j) (sym (back (low f) k h)) ∙ ap (λ (p : ℕ). n * p) (pow-add 2 (low f - k) k) ∙ sym (mul_assoc n (2 ^ (low f - k)) (2 ^ k)))
