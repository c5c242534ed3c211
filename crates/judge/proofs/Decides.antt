-- What the least depths of the tests behind a verdict decide, of whatever has ends. Assumes nothing.
use mathlib.Core.Path.{◌≡◌, refl, sym, ap, subst, ◌∙◌}
use mathlib.Core.Bool.{Bool, false}
use mathlib.Core.Logic.{◌↔◌, inl, inr}
use Prim.Native.Nat.{ℕ, zero, suc, ◌≤◌, max}
use native.Mathlib.Omega.{arith}
use native.Mathlib.Nat.{lt_of_not-le}
use native.Mathlib.Decide.{dec_le}
use lib.Dec.{T}
use Rattle.std.specs.Prelude.{Option, Some, None}
use Rattle.whole.proofs.Bools.{fails}
use Rattle.ends.specs.Least.{least_depth, depth_or_none, from_least}
use Rattle.ends.proofs.Least.{Least, found, says, none, handed_on, later}
use Rattle.units.specs.declared.Units.{Units}
use Rattle.judge.specs.Verdict.{Tests, confirmed_by, lower_above_by, upper_below_by, verdict_by}
use Rattle.judge.specs.Decision.{decided, decided_by}
use Rattle.judge.proofs.Verdicts.{verdict-confirmed, refuted-verdict, no_verdict}

-- ---- a least depth that is handed on

abbrev or_zero : Option ℕ → ℕ
or_zero (Some k) = k
or_zero None = 0

there : (n : ℕ) {k : ℕ} → Some k ≡ depth_or_none n → (k ≡ n) × (k ≡ 0 → ⊥)
there zero e = absurd (let h = ap or_zero e in cc)
there (suc n) e = let h = ap or_zero e in (h, λ z. let w : ⊥ = omega arith in w)

some_depth : (n : ℕ) → 1 ≤ n → Some n ≡ depth_or_none n
some_depth zero h = absurd (let w : ⊥ = omega arith in w)
some_depth (suc n) h = refl

module _ (test : ℕ → Bool) (d : ℕ) where
  -- a test that the last depth fails has none
  pub never : (T (test d) → ⊥) → None ≡ from_least test d
  never f = sym (ap depth_or_none (none test d (sym (fails (test d) f))))

  pub at_last : {k : ℕ} → Some k ≡ from_least test d → T (test d)
  at_last {k} e = subst T (handed_on test d (Some k) e) tt

  pub not_last : None ≡ from_least test d → test d ≡ false
  not_last e = sym (handed_on test d None e)

  pub is_least : {k : ℕ} → 1 ≤ d → Some k ≡ from_least test d → Least test d k
  is_least {k} some e = let h = there (least_depth test d) e in says test d k h.0 some h.1

  from_it : {k : ℕ} → Least test d k → Some k ≡ from_least test d
  from_it {k} h = some_depth k h.some ∙ ap depth_or_none (sym (found test d k h))

-- where a test is two others, both kept by depth, it passes from the later of their least depths on
module _ (test low high : ℕ → Bool) (means : (l : ℕ) → T (test l) ↔ T (low l) × T (high l)) (last : ℕ) where
  pub no_low : None ≡ from_least low last → None ≡ from_least test last
  no_low e = never test last (λ t. subst T (not_last low last e) ((means last).0 t).0)

  pub no_high : None ≡ from_least high last → None ≡ from_least test last
  no_high e = never test last (λ t. subst T (not_last high last e) ((means last).0 t).1)

  turned : (l : ℕ) → T (test l) ↔ T (high l) × T (low l)
  turned l = (λ t. let s = (means l).0 t in (s.1, s.0), λ s. (means l).1 (s.1, s.0))

  pub both : ((l k : ℕ) → l ≤ k → T (low l) → T (low k)) → ((l k : ℕ) → l ≤ k → T (high l) → T (high k)) → 1 ≤ last
      → {j k : ℕ} → Some j ≡ from_least low last → Some k ≡ from_least high last → Some (max j k) ≡ from_least test last
  both low_kept high_kept one {j} {k} e f =
      let p = is_least low last one e in
      let q = is_least high last one f in
      elim (dec_le j k) [
        | yes h ↦
            let w : max j k ≡ k = omega arith in
            ap Some w ∙ from_it test last (later test low high means low_kept last j k p q h)
        | no h ↦
            let l = lt_of_not-le h in
            let w : max j k ≡ j = omega arith in
            ap Some w ∙ from_it test last (later test high low turned high_kept last k j q p (omega arith))
      ]

-- ---- the verdict is that of the last depth's tests
module _ (tests : ℕ → Tests) (u : Units) (n last : ℕ) where
  abbrev confirms : ℕ → Bool
  confirms d = confirmed_by (tests d) u n

  abbrev above : ℕ → Bool
  above d = lower_above_by (tests d) u n

  abbrev below : ℕ → Bool
  below d = upper_below_by (tests d) u n

  by_last : (a b c : Option ℕ) → a ≡ from_least confirms last → b ≡ from_least above last → c ≡ from_least below last
      → (decided a b c last).verdict ≡ verdict_by (tests last) u n
  by_last (Some d) b c p q r = sym (verdict-confirmed (tests last) u n (at_last confirms last p))
  by_last None (Some d) c p q r =
      sym (refuted-verdict (tests last) u n (not_last confirms last p) (inl (at_last above last q)))
  by_last None None (Some d) p q r =
      sym (refuted-verdict (tests last) u n (not_last confirms last p) (inr (at_last below last r)))
  by_last None None None p q r =
      sym (no_verdict (tests last) u n (not_last confirms last p) (not_last above last q) (not_last below last r))

  pub decided-verdict : (decided_by tests u n last).verdict ≡ verdict_by (tests last) u n
  decided-verdict = by_last (from_least confirms last) (from_least above last) (from_least below last) refl refl refl
