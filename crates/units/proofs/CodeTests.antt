-- The tests of the code: they pass exactly where the number is in range, its product is cut to its floor, and the last test
-- tells whether the floor is the ceiling too. Assumes nothing.
use Rattle.std.proofs.Common.{◌≡◌, ℕ, zero, suc, ◌+◌, ◌*◌, ◌/◌, ◌^◌, ◌<◌, ◌≤◌, Bool, true, false, T, eqb, ltb, leb, ℤ, pos, sym, refl, ap, ◌∙◌, subst, true≢false, lt_of_le_of_lt, le_of_lt, mul-le-mul_right, zero-lt-suc, mul-one, arith, eqb→eq, leb→le, le-ltb, lt-ltb, le-leb, leb-false, leb-true}
use lib.Ieee.{Float, nan, inf, fin, binary64, up, down, round, mul, lt, le, of_int, to_unsigned, fits}
use lib.Ieee.Positive.{num, den, den_pos, above, above_of_le, positive_of_value}
use lib.Ieee.Fits.{up_pos, down_pos, and_l}
use lib.Ieee.Exact.{HasValue}
use lib.Ieee.Back.{round_whole}
use lib.Ieee.Order.{round_mono}
use Rattle.grid.specs.Grid.{one}
use Rattle.units.specs.Units.{is_below_zero, product, off_range}
use Rattle.units.specs.Exact.{radian, Value}
use Rattle.units.proofs.Value.{compares, cut}
use Rattle.units.proofs.Range.{InRange, passed_in_range, floor_fits, product_value, top}

abbrev none : Float
none = fin false 0 (pos 0)

-- a whole number as a double
plain : (x : Float) (a c : ℕ) → HasValue x false a c → Value x a c
plain nan a c v = absurd v
plain (inf s) a c v = absurd v
plain (fin s m e) a c v = (λ z. absurd (subst T v.0 z), v.1)

whole_value : (n : ℕ) → n ≤ top → Value (of_int binary64 (pos n)) n 1
unfolding of_int
whole_value n h = plain (round binary64 false n 1) n 1 (round_whole binary64 false n (omega arith))

-- ---- the sign

pub below_zero : (x : Float) → lt x none ≡ is_below_zero x
unfolding lt is_below_zero
below_zero nan = refl
below_zero (inf s) = refl
below_zero (fin false m e) = le-ltb (m * up e * 1) (0 * 1 * down e) (omega arith)
below_zero (fin true zero e) = le-ltb 0 (0 * up e * 1 + 0 * 1 * down e) (omega arith)
below_zero (fin true (suc m) e) =
    let u = up_pos e in lt-ltb 0 (suc m * up e * 1 + 0 * 1 * down e) (omega arith) ∙ sym (lt-ltb 0 (suc m) (zero-lt-suc m))

-- ---- a number in range passes both tests, so one that fails a test is off range

other : (b : Bool) → (b ≡ false → ⊥) → b ≡ true
other true f = refl
other false f = absurd (f refl)

first_test : (x : Float) → Value x (num x) (den x) → le none x ≡ true
first_test x v = (compares none x 0 1 (num x) (den x) (zero-lt-suc 0) (den_pos x) (λ t. refl, refl) v).0 ∙ le-leb (0 * den x) (num x * 1) (omega arith)

pub off_low : (limit : ℕ) (x : Float) → le none x ≡ false → off_range limit x ≡ true
off_low limit x h =
    other (off_range limit x) (λ p. true≢false (sym (first_test x (passed_in_range limit x p).value) ∙ h))

-- a double, and a limit of the code
pub record Held (limit : ℕ) (x : Float) : Type 0 where
  pub few : limit < top
  pub double : T (fits binary64 x)

module _ {limit : ℕ} {x : Float} (h : Held limit x) where
  second_test : InRange (limit + 1) x → le (mul binary64 x radian) (of_int binary64 (pos limit)) ≡ leb (product x * 1) (limit * den x)
  second_test r =
      let few = h.few in
      (compares (mul binary64 x radian) (of_int binary64 (pos limit)) (product x) (den x) limit 1 (den_pos x) (zero-lt-suc 0)
      (product_value (limit + 1) x (omega arith) h.double r) (whole_value limit (omega arith))).0

  pub off_high : le (mul binary64 x radian) (of_int binary64 (pos limit)) ≡ false → off_range limit x ≡ true
  off_high f =
      other (off_range limit x)
      (λ p.
      let r = passed_in_range limit x p in
      let k = r.small in
      let wider : InRange (limit + 1) x = record { value = r.value; small = omega arith } in
      true≢false (sym (second_test wider ∙ le-leb (product x * 1) (limit * den x) (omega arith)) ∙ f))

-- ---- a number that passes both tests is in range

negative : (m : ℕ) (e : ℤ) → T (le none (fin true (suc m) e)) → ⊥
unfolding le
negative m e t =
    let a = 0 * up (pos 0) * down e in
    let b = suc m * up e * down (pos 0) in
    let z : a ≡ b = eqb→eq a b (and_l (eqb a b) (eqb a 0) t) in
    let u = up_pos e in
    omega arith

not_infinite : (y : Float) (a c : ℕ) → Value y a c → T (le (inf false) y) → ⊥
unfolding le
not_infinite nan a c v t = absurd v
not_infinite (inf s) a c v t = absurd v
not_infinite (fin s m e) a c v t = t

-- nothing is at least n + 1 and at most n
nothing_between : (n : ℕ) (y p z : Float) → Value y (n + 1) 1 → Value z n 1 → T (above p) → T (le y p) → T (le p z) → ⊥
nothing_between n y nan z v w a h k = absurd a
nothing_between n y (inf true) z v w a h k = absurd a
nothing_between n y (inf false) z v w a h k = not_infinite z n 1 w k
nothing_between n y (fin true m e) z v w a h k = absurd a
nothing_between n y (fin false m e) z v w a h k =
    let own : Value (fin false m e) (m * up e) (down e) = (λ (t : ⊥). absurd t, refl) in
    let one_pos = zero-lt-suc 0 in
    let low = leb→le ((n + 1) * down e) (m * up e * 1) (subst T (compares y (fin false m e) (n + 1) 1 (m * up e) (down e) one_pos (down_pos e) v own).0 h) in
    let high = leb→le (m * up e * 1) (n * down e) (subst T (compares (fin false m e) z (m * up e) (down e) n 1 (down_pos e) one_pos own w).0 k) in
    let d = down_pos e in
    omega arith

-- the product is exact, or so great that its rounding is above the limit too
not_above : {limit : ℕ} (m : ℕ) (e : ℤ) → Held limit (fin false m e)
    → T (le (mul binary64 (fin false m e) radian) (of_int binary64 (pos limit))) → one * (m * up e) ≤ limit * down e
unfolding mul of_int
not_above {limit} m e h q = by_size (leb ((limit + 1) * down e) (one * (m * up e))) refl
  where
    by_size : (b : Bool) → leb ((limit + 1) * down e) (one * (m * up e)) ≡ b → one * (m * up e) ≤ limit * down e
    by_size false p =
        let s = leb-false ((limit + 1) * down e) (one * (m * up e)) p in
        let r : InRange (limit + 1) (fin false m e) = record { value = (λ (z : ⊥). absurd z, refl); small = omega arith } in
        let k = leb→le (one * (m * up e) * 1) (limit * down e) (subst T (second_test h r) q) in
        omega arith
    by_size true p =
        let s = leb-true ((limit + 1) * down e) (one * (m * up e)) p in
        let d = down_pos e in
        let few = h.few in
        let y = round binary64 false (limit + 1) 1 in
        let v = round_whole binary64 false (limit + 1) (omega arith) in
        let k = round_mono binary64 (limit + 1) 1 (m * up e * 268435456) (down e * 1) (zero-lt-suc 0) (omega arith) (omega arith) in
        absurd
        (nothing_between limit y (mul binary64 (fin false m e) radian) (of_int binary64 (pos limit))
        (plain y (limit + 1) 1 v) (whole_value limit (omega arith))
        (above_of_le y (mul binary64 (fin false m e) radian) (positive_of_value y (limit + 1) 1 v (omega arith)) k) k q)

pub within : {limit : ℕ} (x : Float) → Held limit x → T (le none x)
    → T (le (mul binary64 x radian) (of_int binary64 (pos limit))) → InRange limit x
unfolding le mul
within nan h p q = absurd p
within (inf true) h p q = absurd p
within {limit} (inf false) h p q =
    let few = h.few in absurd (not_infinite (of_int binary64 (pos limit)) limit 1 (whole_value limit (omega arith)) q)
within (fin false m e) h p q = record { value = (λ (z : ⊥). absurd z, refl); small = not_above m e h q }
within (fin true zero e) h p q = record { value = (λ z. refl, refl); small = omega arith }
within (fin true (suc m) e) h p q = absurd (negative m e p)

-- ---- the floor, and the test that tells whether the product is whole

module _ {limit : ℕ} {x : Float} (h : Held limit x) (r : InRange limit x) where
  exact : Value (mul binary64 x radian) (product x) (den x)
  exact = product_value limit x (le_of_lt h.few) h.double r

  pub floor_few : product x / den x < top
  floor_few = lt_of_le_of_lt (floor_fits r) h.few

  pub floor_asks : T (lt (fin true 1 (pos 0)) (mul binary64 x radian)) × T (lt (mul binary64 x radian) (fin false 1 (pos 64)))
  floor_asks =
      let d = den_pos x in
      let s = r.small in
      let k = mul-le-mul_right (den x) (le_of_lt h.few) in
      let end : ℕ = 2 ^ 64 in
      let below =
      (compares (mul binary64 x radian) (fin false 1 (pos 64)) (product x) (den x) end 1 d (zero-lt-suc 0) exact (λ (z : ⊥). absurd z, refl)).1 in (
        (cut (mul binary64 x radian) (product x) (den x) d exact).0,
        subst T (sym (below ∙ lt-ltb (product x * 1) (end * den x) (omega arith))) tt,
      )

  pub floor_is : to_unsigned 64 (mul binary64 x radian) ≡ product x / den x
  floor_is = let f = floor_few in (cut (mul binary64 x radian) (product x) (den x) (den_pos x) exact).1 (omega arith)

  pub test_is : lt (of_int binary64 (pos (product x / den x))) (mul binary64 x radian) ≡ ltb (product x / den x * den x) (product x)
  test_is =
      let q = product x / den x in
      (compares (of_int binary64 (pos q)) (mul binary64 x radian) q 1 (product x) (den x) (zero-lt-suc 0) (den_pos x)
      (whole_value q (le_of_lt floor_few)) exact).1
      ∙ ap (λ (n : ℕ). ltb (q * den x) n) (mul-one (product x))
