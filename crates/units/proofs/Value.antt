-- A double that is finite and not below zero, -0.0 included, as a fraction: `Value x a c` says that x is a / c. Such doubles
-- compare, and are cut to whole numbers, as their fractions do. Assumes nothing.
use Rattle.std.proofs.Common.{◌≡◌, ℕ, zero, suc, ◌+◌, ◌-◌, ◌*◌, ◌/◌, ◌^◌, ◌<◌, ◌≤◌, min, Bool, true, false, ◌&&◌, ◌||◌, T, eqb, ltb, leb, ℤ, pos, sym, refl, ◌∙◌, subst, zero-lt-suc, lt_of_not-le, zero-add, zero-mul, not-le_of_lt, arith, le→leb, ltb→lt, lt→ltb, leb→le, le-ltb, lt-ltb}
use native.Mathlib.Nat.{zero-div}
use lib.Dec.{leb-zero, leb-suc-zero, leb-suc-suc, eqb-suc-zero, eqb-suc-suc}
use lib.Ieee.{Float, nan, inf, fin, up, down, below, level, lt, le, to_unsigned}
use lib.Ieee.Fits.{down_pos}
use lib.Ieee.Nearest.{div_same}
use lib.Ieee.Order.{transfer}
use Rattle.whole.proofs.Bools.{alike}
use Rattle.units.specs.Exact.{Value}

-- ---- the order

-- sizes a and b, before which a minus sign stands only where they are 0
below_is : (s t : Bool) (a b : ℕ) → (T s → a ≡ 0) → (T t → b ≡ 0) → below s a t b ≡ ltb a b
below_is false false a b h k = refl
below_is false true a b h k = let z = k tt in sym (le-ltb a b (omega arith))
below_is true false a b h k = simp (h tt, zero-add)
below_is true true a b h k = simp (h tt, k tt)

lt-or-eq : (a b : ℕ) → (ltb a b || (eqb a b && true)) ≡ leb a b
lt-or-eq zero zero = refl
lt-or-eq zero (suc b) = simp (lt-ltb 0 (suc b) (zero-lt-suc b), leb-zero)
lt-or-eq (suc a) zero = simp (leb-suc-zero, eqb-suc-zero)
lt-or-eq (suc a) (suc b) = simp (leb-suc-suc, eqb-suc-suc) (lt-or-eq a b)

only_zero : (a : ℕ) → (eqb a 0 && eqb a 0) ≡ leb a 0
only_zero zero = refl
only_zero (suc a) = simp (eqb-suc-zero, leb-suc-zero)

le_is : (s t : Bool) (a b : ℕ) → (T s → a ≡ 0) → (T t → b ≡ 0) → (below s a t b || level s a t b) ≡ leb a b
le_is false false a b h k = lt-or-eq a b
le_is false true a b h k = simp (k tt) (only_zero a)
le_is true false a b h k = simp (h tt, zero-add) (lt-or-eq 0 b)
le_is true true a b h k = simp (h tt, k tt)

sign : (m : ℕ) (e : ℤ) (n : ℕ) → m ≡ 0 → m * up e * n ≡ 0
sign m e n z = simp (z, zero-mul)

-- the other way round, and strictly
not-le : (p q r s : ℕ) → leb p q ≡ leb r s → ltb q p ≡ ltb s r
not-le p q r s e =
    alike (ltb q p) (ltb s r)
    (λ t. lt→ltb s r (lt_of_not-le (λ (h : r ≤ s). not-le_of_lt (ltb→lt q p t) (leb→le p q (subst T (sym e) (le→leb r s h))))))
    (λ t. lt→ltb q p (lt_of_not-le (λ (h : p ≤ q). not-le_of_lt (ltb→lt s r t) (leb→le r s (subst T e (le→leb p q h))))))

-- the fractions' order is that of the sizes over a common denominator
across : (m : ℕ) (e : ℤ) (n : ℕ) (g : ℤ) (a c b d : ℕ) → 0 < c → 0 < d → m * up e * c ≡ a * down e → n * up g * d ≡ b * down g
    → leb (m * up e * down g) (n * up g * down e) ≡ leb (a * d) (b * c)
across m e n g a c b d C D p q =
    alike (leb (m * up e * down g) (n * up g * down e)) (leb (a * d) (b * c))
    (λ t. le→leb (a * d) (b * c) (transfer a b c d (m * up e) (n * up g) (down e) (down g) (down_pos e) (down_pos g) (sym p) (sym q) (leb→le (m * up e * down g) (n * up g * down e) t)))
    (λ t. le→leb (m * up e * down g) (n * up g * down e) (transfer (m * up e) (n * up g) (down e) (down g) a b c d C D p q (leb→le (a * d) (b * c) t)))

-- both tests at once
pub compares : (x y : Float) (a c b d : ℕ) → 0 < c → 0 < d → Value x a c → Value y b d
    → (le x y ≡ leb (a * d) (b * c)) × (lt x y ≡ ltb (a * d) (b * c))
unfolding le lt
compares nan y a c b d C D v w = absurd v
compares (inf s) y a c b d C D v w = absurd v
compares (fin s m e) nan a c b d C D v w = absurd w
compares (fin s m e) (inf t) a c b d C D v w = absurd w
compares (fin s m e) (fin t n g) a c b d C D v w =
    let p = m * up e * down g in
    let q = n * up g * down e in
    let P : T s → p ≡ 0 = λ z. sign m e (down g) (v.0 z) in
    let Q : T t → q ≡ 0 = λ z. sign n g (down e) (w.0 z) in (
      le_is s t p q P Q ∙ across m e n g a c b d C D v.1 w.1,
      below_is s t p q P Q ∙ not-le q p (b * c) (a * d) (across n g m e b d a c D C w.1 v.1),
    )

-- ---- the whole part

uncapped : (p q : ℕ) → p ≡ q → q < 2 ^ 64 → min p (2 ^ 64 - 1) ≡ q
uncapped p q e h = omega arith

-- what a cast to a u64 asks and gives
pub cut : (x : Float) (a c : ℕ) → 0 < c → Value x a c
    → T (lt (fin true 1 (pos 0)) x) × (a / c < 2 ^ 64 → to_unsigned 64 x ≡ a / c)
unfolding lt to_unsigned
cut nan a c C v = absurd v
cut (inf s) a c C v = absurd v
cut (fin false m e) a c C v = (
  let p = down_pos e in lt→ltb 0 (1 * down e + m * up e * 1) (omega arith),
  uncapped (m * up e / down e) (a / c) (div_same (m * up e) (down e) a c (down_pos e) C v.1),
)
cut (fin true m e) a c C v =
    let z = v.0 tt in (
      let p = down_pos e in let k = sign m e 1 z in lt→ltb (m * up e * 1) (1 * down e) (omega arith),
      λ h. sym (simp (z, zero-mul, zero-div)) ∙ div_same (m * up e) (down e) a c (down_pos e) C v.1,
    )
