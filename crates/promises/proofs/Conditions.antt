-- Each check fails exactly when the table says. Assumes nothing.
use mathlib.Core.Path.{◌≡◌, refl, sym, ap}
use mathlib.Core.Bool.{Bool, true, false, not, ◌&&◌, ◌||◌, true≢false}
use mathlib.Core.Logic.{◌⊎◌, inl, inr, ◌↔◌}
use Prim.Native.Nat.{ℕ, zero, suc, ◌+◌, ◌*◌, ◌<◌}
use native.Mathlib.Omega.{arith}
use borrow.Author.Tests.{ltb-true, lt-ltb, eqb-false, ne_eqb, not-true}
use lib.Dec.{T, ltb, eqb, ltb→lt, lt→ltb}
use lib.IntN.{ℤ, pos, negsuc, nat_abs}
use lib.Ieee.{Float, nan, inf, fin, neg}
use lib.Ieee.Positive.{den}
use Rattle.grid.specs.Grid.{one, H_units, T_units}
use Rattle.whole.specs.Sign.{negative}
use Rattle.whole.proofs.CodeRoom.{size_sign}
use Rattle.grid.specs.Codes.{or, signed_x_check}
use Rattle.grid.specs.Flyby.{B_top, X_top}
use Rattle.orbit.specs.Mirror.{mirror}
use Rattle.ends.specs.Ends.{upper_end}
use Rattle.flyby.specs.Ends.{end_at}
use Rattle.orbit.specs.Given.{Given, grid, doubles, is_bad_m, is_bad_a}
use Rattle.units.specs.Units.{mirror_double, is_below_zero, product, off_range}
use Rattle.little.proofs.Digits.{one_byte}
use Rattle.claims.specs.Form.{twenty}
use Rattle.promises.specs.Conditions.{Opposes, Oversize, HasSign, BeyondM, BeyondA, Exactly, Conditions}

less : (a b : ℕ) → ltb a b ≡ true ↔ a < b
less a b = (ltb-true a b, lt-ltb a b)

differ : (a b : ℕ) → not (eqb a b) ≡ true ↔ (a ≡ b → ⊥)
differ a b = (λ e. eqb-false a b (not-true (eqb a b) e), λ n. ap not (ne_eqb a b n))

fails : (t : Bool) → not t ≡ true ↔ (T t → ⊥)
fails true = (λ e. absurd (true≢false (sym e)), λ n. absurd (n tt))
fails false = (λ e t. t, λ n. refl)

-- one test or another
either : (s t : Bool) {P Q : Type 0} → (s ≡ true ↔ P) → (t ≡ true ↔ Q) → or s t ≡ true ↔ P ⊎ Q
either true t p q = (λ e. inl (p.0 refl), λ h. refl)
either false t p q = (λ e. inr (q.0 e), λ h. elim h [ inl x ↦ absurd (true≢false (sym (p.1 x))) | inr y ↦ q.1 y ])

both : (s t : Bool) {P Q : Type 0} → (s ≡ true ↔ P) → (t ≡ true ↔ Q) → s && t ≡ true ↔ P × Q
both true t p q = (λ e. (p.0 refl, q.0 e), λ h. q.1 h.1)
both false t p q = (λ e. absurd (true≢false (sym e)), λ h. p.1 h.0)

-- a sign, mirrored: minus on the one side is plus on the other
flipped : (s : Bool) → not s ≡ true ↔ s ≡ false
flipped true = (λ e. sym e, λ e. sym e)
flipped false = (λ e. refl, λ e. refl)

by_size : (limit : ℕ) (s : Bool) (m : ℕ) (e : ℤ) {P : Type 0} → (s ≡ true ↔ P)
    → or (s && ltb 0 m) (ltb (limit * den (fin s m e)) (product (fin s m e))) ≡ true
    ↔ (P × (0 < m)) ⊎ (limit * den (fin s m e) < product (fin s m e))
by_size limit s m e p =
    either (s && ltb 0 m) (ltb (limit * den (fin s m e)) (product (fin s m e))) (both s (ltb 0 m) p (less 0 m)) (less _ _)

off_range_lem : (limit : ℕ) (mirrored : Bool) (x : Float) → off_range limit (mirror_double mirrored x) ≡ true ↔ HasSign (not mirrored) x ⊎ Oversize limit x
unfolding off_range neg
off_range_lem limit false nan = (λ e. inr tt, λ h. refl)
off_range_lem limit false (inf s) = (λ e. inr tt, λ h. refl)
off_range_lem limit false (fin s m e) = by_size limit s m e (λ p. p, λ p. p)
off_range_lem limit true nan = (λ e. inr tt, λ h. refl)
off_range_lem limit true (inf s) = (λ e. inr tt, λ h. refl)
off_range_lem limit true (fin s m e) = by_size limit (not s) m e (flipped s)

-- a double without its sign
oversize : (limit : ℕ) (x : Float) → off_range limit (mirror_double (is_below_zero x) x) ≡ true ↔ Oversize limit x
unfolding off_range is_below_zero neg
oversize limit nan = (λ e. tt, λ h. refl)
oversize limit (inf true) = (λ e. tt, λ h. refl)
oversize limit (inf false) = (λ e. tt, λ h. refl)
oversize limit (fin false m e) = less _ _
oversize limit (fin true zero e) = less _ _
oversize limit (fin true (suc m) e) = rw (lt-ltb 0 (suc m) (omega arith)) (less _ _)

beyond_m : (g : Given) → is_bad_m g ≡ true ↔ BeyondM g
beyond_m (grid m a) = less _ _
beyond_m (doubles m e) = oversize H_units m

beyond_a : (g : Given) → is_bad_a g ≡ true ↔ BeyondA g
beyond_a (grid m a) = less _ _
beyond_a (doubles m e) = off_range_lem one false e

-- ---- the tested angle, mirrored with M

opposes : (mirrored : Bool) (x : ℤ) → negative (mirror mirrored x) ≡ true ↔ Opposes mirrored x
opposes false (pos n) = (λ e. absurd (true≢false (sym e)), λ h. absurd (let k : ⊥ = let l = ltb→lt n 0 h.lt in omega arith in k))
opposes false (negsuc n) = (λ e. record { lt = tt }, λ h. refl)
opposes true (pos zero) = (λ e. absurd (true≢false (sym e)), λ h. absurd (let k : ⊥ = let l = ltb→lt 0 0 h.lt in omega arith in k))
opposes true (pos (suc n)) = (λ e. record { lt = lt→ltb 0 (suc n) (omega arith) }, λ h. refl)
opposes true (negsuc n) = (λ e. absurd (true≢false (sym e)), λ h. absurd h.lt)

tested : (mirrored : Bool) (x : ℤ) → Exactly (signed_x_check (mirror mirrored x)) (Opposes mirrored x ⊎ (T_units < nat_abs x))
tested mirrored x =
    either (negative (mirror mirrored x)) (ltb T_units (nat_abs (mirror mirrored x))) (opposes mirrored x)
    (rw (size_sign (not mirrored) x) (less T_units (nat_abs x)))

-- ---- the method

neither : (s t : Bool) {P Q : Type 0} → (not s ≡ true ↔ P) → (not t ≡ true ↔ Q) → not (s || t) ≡ true ↔ P × Q
neither true t p q = (λ e. absurd (true≢false (sym e)), λ h. p.1 h.0)
neither false t p q = (λ e. (p.0 refl, q.0 e), λ h. q.1 h.1)

pub conditions : Conditions
conditions =
    record {
      m = beyond_m;
      a = beyond_a;
      eccentricity = λ a. less _ _;
      depth = λ d. either _ _ (less d 1) (less 5 d);
      estimate = off_range_lem T_units;
      n = λ n. less _ _;
      top = λ c d. fails (upper_end c d T_units);
      bad_length = λ bytes. differ _ _;
      short_answers = λ bytes room. less _ _;
      reserved = λ claims start. rw (one_byte claims (start + twenty.reserved.at)) (differ _ _);
      x = λ x. less _ _;
      tested = tested;
      flyby_m = λ m. less _ _;
      flyby_b = λ b. either _ _ (less b one) (less B_top b);
      flyby_x = λ x. less _ _;
      flyby_estimate = off_range_lem X_top false;
      flyby_top = λ m b. fails (end_at true m b X_top);
      method = λ method. neither (eqb method 1) (eqb method 2) (differ _ _) (differ _ _);
    }
