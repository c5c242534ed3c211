-- What the verdicts by any tests mean: never both, kept by tests that accept more, and what is behind each. Assumes nothing.
use mathlib.Core.Path.{◌≡◌, refl, subst}
use mathlib.Core.Bool.{Bool, true, false, cond}
use mathlib.Core.Logic.{◌⊎◌, inl, inr, ⊎_elim, ◌↔◌}
use Prim.Native.Nat.{ℕ, ◌+◌, ◌-◌, ◌≤◌}
use native.Mathlib.Omega.{arith}
use lib.Dec.{T, leb, leb→le, le→leb}
use Rattle.whole.proofs.Bools.{both_parts, both, either_part, either}
use Rattle.units.specs.declared.Units.{Units}
use Rattle.judge.specs.Exact.{ConfirmedSays, AboveSays, BelowSays}
use Rattle.judge.specs.Verdict.{Tests, low_end, high_end_to, confirmed_by, lower_above_by, upper_below_by, refuted_by, verdict_by, verdict_number}
use Rattle.judge.specs.declared.Verdict.{Verdict}
use Rattle.judge.specs.declared.Verdict.TheVariants.{Confirmed, Refuted, Undecided}

-- ---- the ends behind a verdict

-- a refuting end: above q, or below p
abbrev pub RefutedAbove : Tests → Units → ℕ → Type 0
RefutedAbove t = AboveSays (λ X. T (t.lower X)) t.top

abbrev pub RefutedBelow : Tests → Units → ℕ → Type 0
RefutedBelow t = BelowSays (λ X. T (t.upper X))

module _ (t : Tests) (u : Units) (n : ℕ) where
  pub confirmed_by_lem : T (confirmed_by t u n) ↔ T (t.lower (low_end u n)) × T (t.upper (high_end_to t.top u n))
  unfolding confirmed_by
  confirmed_by_lem =
      let low = t.lower (low_end u n) in
      let high = t.upper (high_end_to t.top u n) in
      (λ a. both_parts low high a, λ b. both low high b.0 b.1)

  pub above_by_lem : T (lower_above_by t u n) ↔ RefutedAbove t u n
  above_by_lem =
      let X = u.floor + n + 1 in (
        λ a. let s = both_parts (leb X t.top) (t.lower X) a in record { within = leb→le X t.top s.0; lower = s.1 },
        λ r. both (leb X t.top) (t.lower X) (le→leb X t.top r.within) r.lower,
      )

  pub below_by_lem : T (upper_below_by t u n) ↔ RefutedBelow t u n
  below_by_lem =
      let X = u.ceiling - (n + 1) in (
        λ b.
            let s = both_parts (leb (n + 1) u.ceiling) (t.upper X) b in
            record { within = leb→le (n + 1) u.ceiling s.0; upper = s.1 },
        λ r. both (leb (n + 1) u.ceiling) (t.upper X) (le→leb (n + 1) u.ceiling r.within) r.upper,
      )

  pub refuted_by_lem : T (refuted_by t u n) ↔ RefutedAbove t u n ⊎ RefutedBelow t u n
  unfolding refuted_by
  refuted_by_lem = (
    λ a. ⊎_elim (λ b. inl (above_by_lem.0 b)) (λ b. inr (below_by_lem.0 b)) (either_part (lower_above_by t u n) (upper_below_by t u n) a),
    λ r.
        either (lower_above_by t u n) (upper_below_by t u n) (⊎_elim (λ b. inl (above_by_lem.1 b)) (λ b. inr (below_by_lem.1 b)) r),
  )

-- ---- R46: tests whose ends are in order

-- a lower end that t accepts lies above no upper end that s accepts
abbrev pub InOrder : Tests → Tests → Type 0
InOrder t s = (X Y : ℕ) → X ≤ t.top → Y ≤ s.top → T (t.lower X) → T (s.upper Y) → X ≤ Y

-- no claim is both, not even by two sets of tests: the ends would be out of order
pub never_both : (t s : Tests) (u : Units) (n : ℕ) → t.top ≡ s.top → InOrder t s → InOrder s t → u.ceiling ≤ t.top
    → T (confirmed_by t u n) → T (refuted_by s u n) → ⊥
never_both t s u n same order back top a b =
    let p = (confirmed_by_lem t u n).0 a in
    ⊎_elim
    (λ r.
    let w = r.within in
    let h = back (u.floor + n + 1) (high_end_to t.top u n) w (omega arith) r.lower p.1 in
    omega arith)
    (λ r.
    let w = r.within in
    let h = order (low_end u n) (u.ceiling - (n + 1)) (omega arith) (omega arith) p.0 r.upper in
    omega arith)
    ((refuted_by_lem s u n).0 b)

-- ---- what is said of the ends that a verdict tests

module _ (t : Tests) (Lower Upper : ℕ → Type 0) (low : (X : ℕ) → X ≤ t.top → T (t.lower X) → Lower X)
    (high : (X : ℕ) → X ≤ t.top → T (t.upper X) → Upper X) (u : Units) (n : ℕ) (top : u.ceiling ≤ t.top) where
  pub confirmed_says : T (confirmed_by t u n) → ConfirmedSays Lower Upper t.top u n
  confirmed_says a =
      let s = (confirmed_by_lem t u n).0 a in
      record {
        lower = low (low_end u n) (omega arith) s.0;
        upper = high (high_end_to t.top u n) (omega arith) s.1;
      }

  pub refuted_says : T (refuted_by t u n) → AboveSays Lower t.top u n ⊎ BelowSays Upper u n
  refuted_says a =
      ⊎_elim (λ r. inl (record { within = r.within; lower = low (u.floor + n + 1) r.within r.lower }))
      (λ r. inr (record { within = r.within; upper = high (u.ceiling - (n + 1)) (omega arith) r.upper }))
      ((refuted_by_lem t u n).0 a)

-- ---- the verdict

-- 0 is not 1: how `cc` says that two verdicts are apart
clash : ◌≡◌ {A = ℕ} 0 1 → ⊥
clash e = omega arith

confirmed_test : (a b : Bool) → cond a Confirmed (cond b Refuted Undecided) ≡ Confirmed → T a
confirmed_test true b e = tt
confirmed_test false true e = absurd (clash (cc))
confirmed_test false false e = absurd (clash (cc))

refuted_test : (a b : Bool) → cond a Confirmed (cond b Refuted Undecided) ≡ Refuted → T b
refuted_test true b e = absurd (clash (cc))
refuted_test false true e = tt
refuted_test false false e = absurd (clash (cc))

confirmed_chosen : (a b : Bool) → T a → cond a Confirmed (cond b Refuted Undecided) ≡ Confirmed
confirmed_chosen true b t = refl
confirmed_chosen false b t = absurd t

refuted_chosen : (a b : Bool) → (T a → ⊥) → T b → cond a Confirmed (cond b Refuted Undecided) ≡ Refuted
refuted_chosen true b f t = absurd (f tt)
refuted_chosen false true f t = refl
refuted_chosen false false f t = absurd t

none_chosen : (a b : Bool) → (T a → ⊥) → (T b → ⊥) → cond a Confirmed (cond b Refuted Undecided) ≡ Undecided
none_chosen true b f g = absurd (f tt)
none_chosen false true f g = absurd (g tt)
none_chosen false false f g = refl

module _ (t : Tests) (u : Units) (n : ℕ) where
  pub is_confirmed : verdict_by t u n ≡ Confirmed → T (confirmed_by t u n)
  unfolding verdict_by
  is_confirmed v = confirmed_test (confirmed_by t u n) (refuted_by t u n) v

  pub is_refuted : verdict_by t u n ≡ Refuted → T (refuted_by t u n)
  unfolding verdict_by
  is_refuted v = refuted_test (confirmed_by t u n) (refuted_by t u n) v

  -- the verdict by the tests behind it
  pub verdict-confirmed : T (confirmed_by t u n) → verdict_by t u n ≡ Confirmed
  unfolding verdict_by
  verdict-confirmed a = confirmed_chosen (confirmed_by t u n) (refuted_by t u n) a

  pub verdict-refuted : (T (confirmed_by t u n) → ⊥) → T (refuted_by t u n) → verdict_by t u n ≡ Refuted
  unfolding verdict_by
  verdict-refuted f a = refuted_chosen (confirmed_by t u n) (refuted_by t u n) f a

  pub verdict_undecided : (T (confirmed_by t u n) → ⊥) → (T (refuted_by t u n) → ⊥) → verdict_by t u n ≡ Undecided
  unfolding verdict_by
  verdict_undecided f g = none_chosen (confirmed_by t u n) (refuted_by t u n) f g

  -- what does not confirm: the verdict where an end refutes, and where none does
  module _ (p : confirmed_by t u n ≡ false) where
    pub refuted-verdict : T (lower_above_by t u n) ⊎ T (upper_below_by t u n) → verdict_by t u n ≡ Refuted
    unfolding refuted_by
    refuted-verdict a = verdict-refuted (subst T p) (either (lower_above_by t u n) (upper_below_by t u n) a)

    pub no_verdict : lower_above_by t u n ≡ false → upper_below_by t u n ≡ false → verdict_by t u n ≡ Undecided
    unfolding refuted_by
    no_verdict a b =
        verdict_undecided (subst T p)
        (λ r. ⊎_elim (subst T a) (subst T b) (either_part (lower_above_by t u n) (upper_below_by t u n) r))

-- ---- R47: a verdict is kept by tests that accept more

-- s accepts whatever t does, up to the same top
pub record AcceptsMore (t s : Tests) : Type 0 where
  pub top : t.top ≡ s.top
  pub lower : (X : ℕ) → T (t.lower X) → T (s.lower X)
  pub upper : (X : ℕ) → T (t.upper X) → T (s.upper X)

module _ (t s : Tests) (more : AcceptsMore t s) (u : Units) (n : ℕ) where
  pub confirmed_more : T (confirmed_by t u n) → T (confirmed_by s u n)
  confirmed_more a =
      let p = (confirmed_by_lem t u n).0 a in
      (confirmed_by_lem s u n).1 (
        more.lower (low_end u n) p.0,
        subst (λ (top : ℕ). T (s.upper (high_end_to top u n))) more.top (more.upper (high_end_to t.top u n) p.1),
      )

  pub above_more : T (lower_above_by t u n) → T (lower_above_by s u n)
  above_more a =
      let r = (above_by_lem t u n).0 a in
      let w = r.within in
      let same = more.top in
      (above_by_lem s u n).1 (record { within = omega arith; lower = more.lower (u.floor + n + 1) r.lower })

  pub below_more : T (upper_below_by t u n) → T (upper_below_by s u n)
  below_more a =
      let r = (below_by_lem t u n).0 a in
      (below_by_lem s u n).1 (record { within = r.within; upper = more.upper (u.ceiling - (n + 1)) r.upper })

  pub refuted_more : T (refuted_by t u n) → T (refuted_by s u n)
  unfolding refuted_by
  refuted_more a =
      either (lower_above_by s u n) (upper_below_by s u n)
      (⊎_elim (λ b. inl (above_more b)) (λ b. inr (below_more b)) (either_part (lower_above_by t u n) (upper_below_by t u n) a))

  pub confirmed_kept : verdict_by t u n ≡ Confirmed → verdict_by s u n ≡ Confirmed
  confirmed_kept v = verdict-confirmed s u n (confirmed_more (is_confirmed t u n v))

  pub refuted_kept : InOrder s s → u.ceiling ≤ s.top → verdict_by t u n ≡ Refuted → verdict_by s u n ≡ Refuted
  refuted_kept order top v =
      let a = refuted_more (is_refuted t u n v) in
      verdict-refuted s u n (λ c. never_both s s u n refl order order top c a) a

-- ---- R45: the number of a verdict

-- it is its own
pub one-verdict : (v w : Verdict) → verdict_number v ≡ verdict_number w → v ≡ w
one-verdict Confirmed Confirmed e = refl
one-verdict Refuted Refuted e = refl
one-verdict Undecided Undecided e = refl
one-verdict Confirmed Refuted e = absurd (let z : ⊥ = omega arith in z)
one-verdict Confirmed Undecided e = absurd (let z : ⊥ = omega arith in z)
one-verdict Refuted Confirmed e = absurd (let z : ⊥ = omega arith in z)
one-verdict Refuted Undecided e = absurd (let z : ⊥ = omega arith in z)
one-verdict Undecided Confirmed e = absurd (let z : ⊥ = omega arith in z)
one-verdict Undecided Refuted e = absurd (let z : ⊥ = omega arith in z)

-- and small
pub verdict_small : (v : Verdict) → verdict_number v ≤ 18
verdict_small Confirmed = omega arith
verdict_small Refuted = omega arith
verdict_small Undecided = omega arith
