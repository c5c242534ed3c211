-- R41 of a step: either zero as an estimate is 0. Numbers that differ in the sign of a zero alone stay so along the operations,
-- and what is handed over is one. Assumes nothing.
use mathlib.Core.Path.{◌≡◌, refl, sym, ap, ap₂, subst, ◌∙◌}
use mathlib.Core.Bool.{Bool, true, false, not, cond}
use mathlib.Core.Logic.{◌⊎◌, inl, inr}
use Prim.Native.Nat.{ℕ, zero, suc, ◌*◌, ◌^◌, ◌<◌}
use native.Mathlib.Omega.{arith}
use native.Mathlib.Nat.{lt_irrefl, pow-suc, zero-mul, mul-zero, mul-pos, zero-lt-suc, zero-add, add-zero, sub-zero}
use borrow.Author.Tests.{lt-ltb, le-ltb, ne_eqb}
use lib.Dec.{T, eqb, eqb→eq, lit<}
use lib.IntN.{ℤ, pos, negsuc, nat_abs}
use lib.Pow.{pow_pos}
use lib.Ieee.{Float, nan, inf, fin, binary64, up, down, round, sum, add, sub, mul, div, neg, eq, unlike, fits}
use lib.Ieee.Fits.{up_pos, down_pos, round-fits}
use lib.Ieee.Exact.{HasValue, round_exact}
use Rattle.grid.specs.Grid.{T_units}
use Rattle.units.specs.Units.{off_range, floor_and_ceiling}
use Rattle.orbit.specs.Given.{grid, mirrored_of}
use Rattle.step.specs.Step.{◌⊖◌, ◌⊗◌, ◌⊘◌, two, plus_zero, flat, local_at, newton_new, halley_divisor, halley_new, taken, newton_step, halley_step, step_by}
use Rattle.step.specs.Entry.{posed_as, step_from, step_rule, judged_rule}
use Rattle.step.specs.declared.Local.{Local}
use Rattle.step.specs.declared.Taken.{Taken}
use Rattle.step.specs.declared.Taken.TheVariants.{Newton, Halley}

abbrev pub zero_of : Bool → Float
zero_of s = fin s 0 (pos 0)

abbrev pub Zero : Float → Type 0
Zero x = (s : Bool) × (x ≡ zero_of s)

-- the same, or a zero each
abbrev pub Alike : Float → Float → Type 0
Alike x y = (x ≡ y) ⊎ (Zero x × Zero y)

both_zero : {x y : Float} (s t : Bool) → x ≡ zero_of s → y ≡ zero_of t → Alike x y
both_zero s t e f = inr ((s, e), (t, f))

-- ---- a quotient of 0, rounded, is a zero

above_one : (k : ℕ) → 2 ^ suc k ≡ 1 → ⊥
above_one k e = omega (arith, pow-suc 2 k, pow_pos k)

canonical : (x : Float) (s : Bool) (c : ℕ) → 0 < c → HasValue x s 0 c → T (fits binary64 x) → x ≡ zero_of s
unfolding fits
canonical nan s c some v t = absurd v
canonical (inf r) s c some v t = absurd v
canonical (fin r zero (pos zero)) s c some v t = ap zero_of v.0
canonical (fin r zero (pos (suc k))) s c some v t = absurd (above_one k (let e = eqb→eq (2 ^ suc k * 1) 1 t in omega arith))
canonical (fin r zero (negsuc k)) s c some v t = absurd (above_one k (let e = eqb→eq (1 * 2 ^ suc k) 1 t in omega arith))
canonical (fin r (suc m) e) s c some v t =
    absurd (lt_irrefl 0 (subst (λ (n : ℕ). 0 < n) (v.1 ∙ zero-mul (down e)) (mul-pos (mul-pos (zero-lt-suc m) (up_pos e)) some)))

round_zero : (s : Bool) (c : ℕ) → 0 < c → round binary64 s 0 c ≡ zero_of s
round_zero s c some =
    canonical (round binary64 s 0 c) s c some
    (round_exact binary64 s 0 c 0 0 some (lit< tt) (lit< tt) (sym (zero-mul c))) (round-fits binary64 s 0 c)

rounds : (s t : Bool) (c : ℕ) → 0 < c → Alike (round binary64 s 0 c) (round binary64 t 0 c)
rounds s t c some = both_zero s t (round_zero s c some) (round_zero t c some)

-- ---- sums

-- 0 and 0, of any signs
none : (s t : Bool) (c : ℕ) → 0 < c → Zero (sum binary64 s 0 t 0 c)
unfolding sum
none true true c some = (true, round_zero true c some)
none true false c some = (false, round_zero false c some)
none false true c some = (false, round_zero false c some)
none false false c some = (false, round_zero false c some)

-- 0 and more, and more and 0
more_right : (s t : Bool) (b c : ℕ) → sum binary64 s 0 t (suc b) c ≡ round binary64 t (suc b) c
unfolding sum
more_right true true b c = rw (zero-add (suc b))
more_right true false b c = rw (lt-ltb 0 (suc b) (zero-lt-suc b), sub-zero (suc b))
more_right false true b c = rw (lt-ltb 0 (suc b) (zero-lt-suc b), sub-zero (suc b))
more_right false false b c = rw (zero-add (suc b))

more_left : (s t : Bool) (a c : ℕ) → sum binary64 s (suc a) t 0 c ≡ round binary64 s (suc a) c
unfolding sum
more_left true true a c = rw (add-zero (suc a))
more_left true false a c = rw (le-ltb (suc a) 0 (omega arith), lt-ltb 0 (suc a) (zero-lt-suc a), sub-zero (suc a))
more_left false true a c = rw (le-ltb (suc a) 0 (omega arith), sub-zero (suc a))
more_left false false a c = rw (add-zero (suc a))

sum_left : (s r t : Bool) (b c : ℕ) → 0 < c → Alike (sum binary64 s 0 t b c) (sum binary64 r 0 t b c)
sum_left s r t zero c some = inr (none s t c some, none r t c some)
sum_left s r t (suc b) c some = inl (more_right s t b c ∙ sym (more_right r t b c))

sum_right : (s t r : Bool) (a c : ℕ) → 0 < c → Alike (sum binary64 s a t 0 c) (sum binary64 s a r 0 c)
sum_right s t r zero c some = inr (none s t c some, none s r c some)
sum_right s t r (suc a) c some = inl (more_left s t a c ∙ sym (more_left s r a c))

-- ---- the operations

sub_left : (s r : Bool) (y : Float) → Alike (zero_of s ⊖ y) (zero_of r ⊖ y)
unfolding sub add neg
sub_left s r nan = inl refl
sub_left s r (inf t) = inl refl
sub_left s r (fin t n d) =
    rw (zero-mul (down d)) (sum_left s r (not t) (n * up d * 1) (1 * down d) (mul-pos (lit< tt) (down_pos d)))

sub_right : (x : Float) (s r : Bool) → Alike (x ⊖ zero_of s) (x ⊖ zero_of r)
unfolding sub add neg
sub_right nan s r = inl refl
sub_right (inf t) s r = inl refl
sub_right (fin t m e) s r =
    rw (zero-mul (down e)) (sum_right t (not s) (not r) (m * up e * 1) (down e * 1) (mul-pos (down_pos e) (lit< tt)))

mul_left : (s r : Bool) (y : Float) → Alike (zero_of s ⊗ y) (zero_of r ⊗ y)
unfolding mul
mul_left s r nan = inl refl
mul_left s r (inf t) = inl refl
mul_left s r (fin t n d) =
    rw (zero-mul (n * up d)) (rounds (unlike s t) (unlike r t) (1 * down d) (mul-pos (lit< tt) (down_pos d)))

mul_right : (x : Float) (s r : Bool) → Alike (x ⊗ zero_of s) (x ⊗ zero_of r)
unfolding mul
mul_right nan s r = inl refl
mul_right (inf t) s r = inl refl
mul_right (fin t m e) s r =
    rw (mul-zero (m * up e)) (rounds (unlike t s) (unlike t r) (down e * 1) (mul-pos (down_pos e) (lit< tt)))

div_left : (s r : Bool) (y : Float) → Alike (zero_of s ⊘ y) (zero_of r ⊘ y)
unfolding div
div_left s r nan = inl refl
div_left s r (inf t) = both_zero (unlike s t) (unlike r t) refl refl
div_left s r (fin t zero d) = inl refl
div_left s r (fin t (suc n) d) =
    rw (ne_eqb (suc n) 0 (λ e. omega arith), zero-mul (down d))
    (rounds (unlike s t) (unlike r t) (suc n * up d * 1) (mul-pos (mul-pos (zero-lt-suc n) (up_pos d)) (lit< tt)))

-- ---- so each keeps numbers alike

alike_all : {x y z : Float} → Alike x y → Alike y z → Alike x z
alike_all {x} {y} {z} p q =
    elim p [
      | inl e ↦ subst (λ (w : Float). Alike w z) (sym e) q
      | inr a ↦ elim q [ inl f ↦ subst (λ (w : Float). Alike x w) f (inr a) | inr b ↦ inr (a.0, b.1) ]
    ]

-- of an operation that keeps zeros alike on the left, and on the right
keeps_left : (op : Float → Float → Float) → ((s r : Bool) (y : Float) → Alike (op (zero_of s) y) (op (zero_of r) y))
    → (x z y : Float) → Alike x z → Alike (op x y) (op z y)
keeps_left op zeros x z y p =
    elim p [
      | inl e ↦ inl (ap (λ (w : Float). op w y) e)
      | inr a ↦ rw (a.0.1, a.1.1) (zeros a.0.0 a.1.0 y)
    ]

keeps_right : (op : Float → Float → Float) → ((x : Float) (s r : Bool) → Alike (op x (zero_of s)) (op x (zero_of r)))
    → (x y z : Float) → Alike y z → Alike (op x y) (op x z)
keeps_right op zeros x y z p =
    elim p [
      | inl e ↦ inl (ap (op x) e)
      | inr a ↦ rw (a.0.1, a.1.1) (zeros x a.0.0 a.1.0)
    ]

pub less : {x z y w : Float} → Alike x z → Alike y w → Alike (x ⊖ y) (z ⊖ w)
less {x} {z} {y} {w} p q = alike_all (keeps_left ◌⊖◌ sub_left x z y p) (keeps_right ◌⊖◌ sub_right z y w q)

pub times : {x z y w : Float} → Alike x z → Alike y w → Alike (x ⊗ y) (z ⊗ w)
times {x} {z} {y} {w} p q = alike_all (keeps_left ◌⊗◌ mul_left x z y p) (keeps_right ◌⊗◌ mul_right z y w q)

pub over : {x z : Float} (y : Float) → Alike x z → Alike (x ⊘ y) (z ⊘ y)
over {x} {z} y p = keeps_left ◌⊘◌ div_left x z y p

-- ---- a step from either zero

zero_is : (s : Bool) → eq (zero_of s) plus_zero ≡ true
unfolding eq
zero_is true = refl
zero_is false = refl

zero_within : (s : Bool) → off_range T_units (zero_of s) ≡ false
unfolding off_range
zero_within true = refl
zero_within false = refl

-- and neither sign makes a step flat
flat_alike : (divisor : Float) (s r : Bool) → flat divisor (zero_of s) ≡ flat divisor (zero_of r)
unfolding off_range
flat_alike divisor true true = refl
flat_alike divisor true false = refl
flat_alike divisor false true = refl
flat_alike divisor false false = refl

-- two steps of a method whose divisors are zeros, or whose divisors are one and new estimates alike
abbrev Matched : Float → Float → Float → Float → Type 0
Matched d f y z = (Zero d × Zero f) ⊎ ((d ≡ f) × Alike y z)

taken_alike : (method : Float → Taken) (mirrored : Bool) (d f y z : Float) → Matched d f y z → taken method mirrored d y ≡ taken method mirrored f z
taken_alike method mirrored d f y z p =
    elim p [
      | inl a ↦ rw (a.0.1, a.1.1, zero_is a.0.0, zero_is a.1.0)
      | inr a ↦ elim a.1 [
        | inl e ↦ ap₂ (taken method mirrored) a.0 e
        | inr b ↦
            rw (a.0, b.0.1, b.1.1, zero_is b.0.0, zero_is b.1.0, flat_alike f b.0.0 b.1.0)
      ]
    ]

module _ (n a k : ℕ) (s r : Bool) where
  abbrev here : Bool → Local
  here sign = local_at n a (zero_of sign) k

  starts : Alike (here s).estimate (here r).estimate
  unfolding local_at
  starts = both_zero s r refl refl

  residuals : Alike (here s).residual (here r).residual
  unfolding local_at
  residuals = less (less (both_zero s r refl refl) (inl refl)) (inl refl)

  slopes : (here s).slope ≡ (here r).slope
  unfolding local_at
  slopes = refl

  divisors : Alike (halley_divisor (here s)) (halley_divisor (here r))
  unfolding local_at
  divisors = less (inl refl) (times residuals (inl refl))

  newtons : (mirrored : Bool) → newton_step mirrored (here s) ≡ newton_step mirrored (here r)
  newtons mirrored =
      taken_alike Newton mirrored (here s).slope (here r).slope (newton_new (here s)) (newton_new (here r))
      (inr (
        slopes,
        subst (λ (d : Float). Alike (newton_new (here s)) ((here r).estimate ⊖ ((here r).residual ⊘ d))) slopes
            (less starts (over (here s).slope residuals)),
      ))

  -- where the divisors are one, the quotients are alike
  halley_news : halley_divisor (here s) ≡ halley_divisor (here r) → Alike (halley_new (here s)) (halley_new (here r))
  halley_news e =
      subst (λ (d : Float). Alike (halley_new (here s)) ((here r).estimate ⊖ (((two ⊗ (here r).residual) ⊗ (here r).slope) ⊘ d))) e
      (less starts (over (halley_divisor (here s)) (times (times (inl refl) residuals) (inl slopes))))

  halleys : (mirrored : Bool) → halley_step mirrored (here s) ≡ halley_step mirrored (here r)
  halleys mirrored =
      taken_alike Halley mirrored (halley_divisor (here s)) (halley_divisor (here r)) (halley_new (here s)) (halley_new (here r))
      (elim divisors [ inl e ↦ inr (e, halley_news e) | inr z ↦ inl z ])

  pub either_by : (method : ℕ) (mirrored : Bool) → step_by method mirrored (here s) ≡ step_by method mirrored (here r)
  either_by method mirrored = ap₂ (λ (p q : Taken). cond (eqb method 1) p q) (newtons mirrored) (halleys mirrored)

-- R41: either zero as an estimate is 0, as it is posed on either side
posed_zero : (m : ℤ) (a : ℕ) (s : Bool) → (r : Bool) × (posed_as m a (zero_of s) ≡ zero_of r)
unfolding neg
posed_zero (pos m) a s = (s, refl)
posed_zero (negsuc m) a s = (not s, refl)

floor_zero : (s : Bool) → (floor_and_ceiling (zero_of s)).floor ≡ (floor_and_ceiling plus_zero).floor
floor_zero true = refl
floor_zero false = refl

module _ (m : ℤ) (a method : ℕ) (s r : Bool) where
  pub from_either : step_from m a (zero_of s) method ≡ step_from m a (zero_of r) method
  from_either =
      let (p, e) = posed_zero m a s in
      let (q, f) = posed_zero m a r in
      rw (e, f, floor_zero p, floor_zero q) (either_by (nat_abs m) a (floor_and_ceiling plus_zero).floor p q method (mirrored_of (grid m a)))

  pub check_either : off_range T_units (posed_as m a (zero_of s)) ≡ off_range T_units (posed_as m a (zero_of r))
  check_either =
      let (p, e) = posed_zero m a s in
      let (q, f) = posed_zero m a r in
      ap (off_range T_units) e ∙ zero_within p ∙ sym (zero_within q) ∙ sym (ap (off_range T_units) f)

  pub step_either : step_rule m a (zero_of s) method ≡ step_rule m a (zero_of r) method
  unfolding step_rule
  step_either = rw (check_either, from_either)

  pub judged_either : (n d : ℕ) → judged_rule m a (zero_of s) method n d ≡ judged_rule m a (zero_of r) method n d
  unfolding judged_rule
  judged_either n d = rw (check_either, from_either)
