-- `units::in_units` meets its contract: the tests are the check's, the product is exact, its whole part is the floor, and the
-- comparison of the floor with it tells whether the ceiling is the floor or the next number.
use Rattle.std.proofs.Common.{◌≡◌, ℕ, ◌+◌, ◌*◌, ◌^◌, ◌<◌, Bool, true, false, T, ltb, pos, sym, ap, ◌∙◌, subst, arith, le→leb, ltb-false, ltb-true, Fits, w32}
use lib.Ieee.{Float, binary64, of_bits, fits, in_float, mul, of_int, lt, le, to_unsigned}
use lib.Ieee.Positive.{den, den_pos}
use Rattle.std.specs.Prelude.{Ok, Err}
use Rattle.whole.specs.Round.{down, up}
use Rattle.whole.proofs.Round.{up_whole, up_next}
use Rattle.units.specs.Units.{product, off_range, coded_units}
use Rattle.units.specs.Exact.{radian}
use Rattle.units.proofs.Range.{InRange, in_range, top}
use Rattle.units.proofs.CodeTests.{Held, within, off_low, off_high, floor_few, floor_asks, floor_is, test_is}
use Rattle.units.proofs.in_units.Goals as goal
use Rattle.units.proofs.in_units.Goals.{then-floor-product, else-floor-product, then-value+else-product-limit, else-value}

-- 0.0, as the first test has it
abbrev zero : Float
zero = of_bits binary64 0

-- where both tests pass
module _ {limit : ℕ} {x : Float} (h : Held limit x) (first : le zero x ≡ true)
    (second : le (mul binary64 x (of_bits binary64 4733283208366391296)) (of_int binary64 (pos limit)) ≡ true) where
  passed : InRange limit x
  unfolding of_bits
  passed = within x h (subst T (sym first) tt) (subst T (sym second) tt)

  -- what the call gives is the floor
  floored : (n : ℕ) → n ≡ to_unsigned 64 (mul binary64 x (of_bits binary64 4733283208366391296)) → n ≡ down (product x) (den x)
  unfolding of_bits
  floored n e = e ∙ floor_is h passed

  few : (n : ℕ) → n ≡ to_unsigned 64 (mul binary64 x (of_bits binary64 4733283208366391296)) → n < top
  few n e = rw (floored n e) (floor_few h passed)

  -- the comparison of the floor, as a float, with the product is one of the floor times den with it
  compared : (n : ℕ) → n ≡ to_unsigned 64 (mul binary64 x (of_bits binary64 4733283208366391296)) → (b : Bool)
      → lt (of_int binary64 (pos n)) (mul binary64 x (of_bits binary64 4733283208366391296)) ≡ b
      → ltb (down (product x) (den x) * den x) (product x) ≡ b
  unfolding of_bits
  compared n e b t =
      sym (test_is h passed) ∙ sym (ap (λ (k : ℕ). lt (of_int binary64 (pos k)) (mul binary64 x radian)) (floored n e)) ∙ t

  made : {R : Type 0} (r : R) (n m : ℕ) → n ≡ to_unsigned 64 (mul binary64 x (of_bits binary64 4733283208366391296)) → m ≡ up (product x) (den x)
      → Ok (record { floor = n; ceiling = m }) ≡ coded_units x limit r
  made r n m e f = simp (in_range limit x passed, floored n e, f)

refused : {R : Type 0} (r : R) (limit : ℕ) (x : Float) → off_range limit x ≡ true → Err r ≡ coded_units x limit r
refused r limit x h = simp h

held : (limit : ℕ) (x : Float) → Fits w32 limit → fits binary64 x ≡ true → Held limit x
held limit x few double = record { few = few.fits; double = subst T (sym double) tt }

pub truncating_f64_to_u64-floor-requires-clause-lower_bound :
    goal.truncating_f64_to_u64-floor-requires-clause-lower_bound
unfolding of_bits
truncating_f64_to_u64-floor-requires-clause-lower_bound g c =
    let h = held c.args.limit c.args.value c.ranges.limit c.well_formed.0.1 in
    (floor_asks h (passed h c.if-value.true c.if-product-limit.true)).0

pub truncating_f64_to_u64-floor-requires-clause-upper_bound :
    goal.truncating_f64_to_u64-floor-requires-clause-upper_bound
unfolding of_bits
truncating_f64_to_u64-floor-requires-clause-upper_bound g c =
    let h = held c.args.limit c.args.value c.ranges.limit c.well_formed.0.1 in
    (floor_asks h (passed h c.if-value.true c.if-product-limit.true)).1

pub int_to_float-floor : goal.int_to_float-floor
unfolding in_float
int_to_float-floor g c =
    let h = held c.args.limit c.args.value c.ranges.limit c.well_formed.0.1 in
    let f = few h c.if-value.true c.if-product-limit.true _ c.truncating_f64_to_u64-floor.ensures in
    le→leb c.truncating_f64_to_u64-floor.result (2 ^ 53) (omega arith)

pub overflow_add-ceiling : goal.overflow_add-ceiling
overflow_add-ceiling g c =
    let h = held c.args.limit c.args.value c.ranges.limit c.well_formed.0.1 in
    let f = few h c.if-value.true c.if-product-limit.true _ c.truncating_f64_to_u64-floor.ensures in
    record { fits = omega arith }

pub returns-then-product-limit : goal.returns-then-product-limit
returns-then-product-limit g c =
    let x = c.args.value in
    let h = held c.args.limit x c.ranges.limit c.well_formed.0.1 in
    let p = c.if-value.true in
    let q = c.if-product-limit.true in
    let f = c.truncating_f64_to_u64-floor.ensures in
    made h p q c.args.refusal _ _ f (elim c.if-floor-product.branch [
      | then-floor-product w ↦
          let more = ltb-true (down (product x) (den x) * den x) (product x) (compared h p q _ f true w.if-floor-product.true) in
          w.ceiling-is ∙ ap (λ (n : ℕ). n + 1) (floored h p q _ f) ∙ sym (up_next (product x) (den x) (den_pos x) more)
      | else-floor-product w ↦
          let none = ltb-false (down (product x) (den x) * den x) (product x) (compared h p q _ f false w.if-floor-product.false) in
          w.ceiling-is ∙ floored h p q _ f ∙ sym (up_whole (product x) (den x) (den_pos x) none)
    ])

pub returns : goal.returns
unfolding of_bits
returns g c =
    let x = c.args.value in
    let h = held c.args.limit x c.ranges.limit c.well_formed.0.1 in
    refused c.args.refusal c.args.limit x (elim c.if-value.branch [
      | then-value+else-product-limit w ↦ off_high h w.if-product-limit.false
      | else-value w ↦ off_low c.args.limit x w.if-value.false
    ])
