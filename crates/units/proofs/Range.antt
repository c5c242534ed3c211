-- A number from 0 to a limit in units: what its check says of it, and that its product with 2^28 is exact. Assumes nothing.
use Rattle.std.proofs.Common.{◌≡◌, ℕ, zero, suc, ◌*◌, ◌^◌, ◌<◌, ◌≤◌, Bool, true, false, T, ℤ, refl, ◌∙◌, subst, true≢false, le_trans, lt_of_le_of_lt, lt_irrefl, mul-le-mul_right, zero-lt-suc, mul_comm, mul-lt-mul_of_pos_right, mul-pos, zero-mul, mul-one, arith, lit<, ltb-false, le-ltb, lt-ltb}
use lib.Ieee.{Float, nan, inf, fin, binary64, unlike, up, down, mul, fits}
use lib.Ieee.Positive.{num, den, den_pos}
use lib.Ieee.Fits.{down_pos, up_pos}
use lib.Ieee.Exact.{HasValue}
use Rattle.whole.proofs.Round.{up_le, down-le-up}
use Rattle.grid.specs.Grid.{one}
use Rattle.units.specs.Units.{product, floor_and_ceiling, off_range}
use Rattle.units.specs.Exact.{radian, Value}
use Rattle.units.proofs.Scaled.{times_power}

pub record InRange (limit : ℕ) (x : Float) : Type 0 where
  pub value : Value x (num x) (den x)
  pub small : product x ≤ limit * den x

pub in_range : (limit : ℕ) (x : Float) → InRange limit x → off_range limit x ≡ false
unfolding off_range
in_range limit nan r = absurd r.value
in_range limit (inf s) r = absurd r.value
in_range limit (fin false m e) r = le-ltb (limit * down e) (one * (m * up e)) r.small
in_range limit (fin true zero e) r = le-ltb (limit * down e) (one * (0 * up e)) r.small
in_range limit (fin true (suc m) e) r = absurd (let z = r.value.0 tt in let k : ⊥ = omega arith in k)

-- a number whose check passes
pub passed_in_range : (limit : ℕ) (x : Float) → off_range limit x ≡ false → InRange limit x
unfolding off_range
passed_in_range limit nan h = absurd (true≢false h)
passed_in_range limit (inf s) h = absurd (true≢false h)
passed_in_range limit (fin false m e) h =
    record { value = (λ (t : ⊥). absurd t, refl); small = ltb-false (limit * down e) (one * (m * up e)) h }
passed_in_range limit (fin true zero e) h =
    record { value = (λ t. refl, refl); small = ltb-false (limit * down e) (one * (0 * up e)) h }
passed_in_range limit (fin true (suc m) e) h = absurd (true≢false (simp (lt-ltb 0 (suc m) (zero-lt-suc m)) at h))

-- neither its floor nor its ceiling is above the limit
pub ceiling_fits : {limit : ℕ} {x : Float} → InRange limit x → (floor_and_ceiling x).ceiling ≤ limit
ceiling_fits {limit} {x} r = up_le limit (product x) (den x) (den_pos x) r.small

pub floor_fits : {limit : ℕ} {x : Float} → InRange limit x → (floor_and_ceiling x).floor ≤ limit
floor_fits {limit} {x} r = le_trans (down-le-up (product x) (den x) (den_pos x)) (ceiling_fits r)

-- ---- the product

no_factor : (n u d : ℕ) → 0 < u → 0 < d → n * u * d ≡ 0 → n ≡ 0
no_factor zero u d U D h = refl
no_factor (suc n) u d U D h = absurd (lt_irrefl 0 (rw h at (mul-pos (mul-pos (zero-lt-suc n) U) D)))

carry : (p : Float) (s : Bool) (m : ℕ) (e : ℤ) → (T s → m ≡ 0) → HasValue p s (m * up e * 268435456) (down e)
    → Value p (one * (m * up e)) (down e)
carry nan s m e h v = absurd v
carry (inf t) s m e h v = absurd v
carry (fin t n g) s m e h v = (
  λ z.
      let k : n * up g * down e ≡ 0 = v.1 ∙ simp (h (subst T v.0 z), zero-mul) in
      no_factor n (up g) (down e) (up_pos g) (down_pos e) k,
  let k = v.1 in omega arith,
)

same_sign : (s : Bool) → unlike s false ≡ s
same_sign true = refl
same_sign false = refl

-- 2^32 units, more than any limit of the code, are far below the format's end
abbrev pub top : ℕ
top = 4294967296

room : (limit a d : ℕ) → limit ≤ top → 0 < d → one * a ≤ limit * d → a * 2 ^ 28 < 2 ^ 1024 * d
room limit a d L D h =
    lt_of_le_of_lt (subst (λ (n : ℕ). n ≤ limit * d) (mul_comm one a) h)
    (lt_of_le_of_lt (mul-le-mul_right d L) (mul-lt-mul_of_pos_right (lit< {m = top} {n = 2 ^ 1024} tt) D))

-- R41: no rounding touches it
pub product_value : (limit : ℕ) (x : Float) → limit ≤ top → T (fits binary64 x) → InRange limit x
    → Value (mul binary64 x radian) (product x) (den x)
unfolding mul
product_value limit nan L t r = absurd r.value
product_value limit (inf s) L t r = absurd r.value
product_value limit (fin s m e) L t r =
    carry (mul binary64 (fin s m e) radian) s m e r.value.0
    (rw (same_sign s, mul-one (down e)) (times_power binary64 s m e 28 t (room limit (m * up e) (down e) L (down_pos e) r.small)))
