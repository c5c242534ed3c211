-- R62: which depth is the first to decide, from the least depths of the tests behind a verdict; and that its verdict is the last
-- depth's. Assumes nothing.
use mathlib.Core.Path.{◌≡◌, refl, sym, ap, ap₂, subst}
use mathlib.Core.Bool.{Bool, true, false, not, cond, ◌||◌}
use mathlib.Core.Logic.{◌⊎◌, inl, inr, ⊎_elim}
use Prim.Native.Nat.{ℕ, ◌+◌, ◌-◌, ◌≤◌, ◌<◌}
use native.Mathlib.Omega.{arith}
use native.Mathlib.Nat.{eq-or-lt_of_le}
use Rattle.std.specs.Prelude.{Option, Some, None}
use lib.Dec.{T, leb, leb→le, T_not, not_T}
use Rattle.whole.specs.First.{first_from}
use Rattle.whole.proofs.Bools.{both_parts, either_part, either}
use Rattle.whole.proofs.First.{First, first, only}
use Rattle.grid.specs.Grid.{T_units, depths}
use Rattle.orbit.specs.Cell.{CellIn}
use Rattle.orbit.specs.Cell.{Cell}
use Rattle.ends.specs.Ends.{lower_end, upper_end}
use Rattle.ends.specs.Least.{from_least}
use Rattle.ends.proofs.Apart.{apart}
use Rattle.ends.proofs.Least.{Least}
use Rattle.units.specs.Limits.{UnitsIn}
use Rattle.units.specs.declared.Units.{Units}
use Rattle.judge.specs.Verdict.{refuted_by, verdict_by, tests_at, confirmed, lower_above, upper_below, refuted, verdict_of}
use Rattle.judge.specs.Settle.{decides, verdict_at, settled_depth}
use Rattle.judge.specs.Judge.{Case}
use Rattle.judge.specs.Decision.{decided, decided_by, decision}
use Rattle.judge.specs.Limits.{CaseIn}
use Rattle.judge.specs.declared.Verdict.{Verdict}
use Rattle.judge.specs.declared.Verdict.TheVariants.{Confirmed, Refuted, Undecided}
use Rattle.judge.proofs.Verdicts as verdicts
use Rattle.judge.proofs.Decides.{not_last, is_least, decided-verdict}
use Rattle.judge.proofs.Kept.{confirmed_deeper, above_deeper, below_deeper, never_both, confirmed_kept, refuted_kept}

-- what a depth decides, it confirms or refutes
decides_either : (a b : Bool) → decides (cond a Confirmed (cond b Refuted Undecided)) ≡ (a || b)
decides_either true b = refl
decides_either false true = refl
decides_either false false = refl

module _ (c : Cell) (u : Units) (n : ℕ) where
  abbrev decides_at : ℕ → Bool
  decides_at d = decides (verdict_of c d u n)

  -- no test behind a verdict passes at a depth
  record Never (d : ℕ) : Type 0 where
    confirms : T (confirmed c d u n) → ⊥
    above : T (lower_above c d u n) → ⊥
    below : T (upper_below c d u n) → ⊥

  decided_is : (d : ℕ) → decides_at d ≡ (confirmed c d u n || refuted c d u n)
  unfolding verdict_by
  decided_is d = decides_either (confirmed c d u n) (refuted c d u n)

  confirmed-decides : (d : ℕ) → T (confirmed c d u n) → T (decides_at d)
  confirmed-decides d t = subst T (sym (decided_is d)) (either (confirmed c d u n) (refuted c d u n) (inl t))

  refuted-decides : (d : ℕ) → T (refuted c d u n) → T (decides_at d)
  refuted-decides d t = subst T (sym (decided_is d)) (either (confirmed c d u n) (refuted c d u n) (inr t))

  never : {d : ℕ} → Never d → T (decides_at d) → ⊥
  unfolding refuted_by
  never {d} h t =
      ⊎_elim h.confirms
      (λ r. ⊎_elim h.above h.below (either_part (lower_above c d u n) (upper_below c d u n) r))
      (either_part (confirmed c d u n) (refuted c d u n) (subst T (decided_is d) t))

  module _ (last : ℕ) where
    -- the depth k is the first to decide
    decides_first : (k : ℕ) → 1 ≤ k → k ≤ last → ((l : ℕ) → 1 ≤ l → l < k → Never l) → (k < last → T (decides_at k))
        → first_from decides_at 1 (last - 1) ≡ k
    decides_first k some few before here =
        only decides_at 1 (last - 1) (first_from decides_at 1 (last - 1)) k (first decides_at 1 (last - 1))
        (record {
          from = some;
          to = omega arith;
          before = λ l a b. not_T (decides_at l) (never (before l a b));
          here = λ h. here (omega arith);
        })

    -- a test that the last depth fails fails before
    module _ {l : ℕ} (few : l ≤ last) where
      not-confirmed : confirmed c last u n ≡ false → T (confirmed c l u n) → ⊥
      not-confirmed e t = subst T e (confirmed_deeper c u n few t)

      not_above : lower_above c last u n ≡ false → T (lower_above c l u n) → ⊥
      not_above e t = subst T e (above_deeper c u n few t)

      not_below : upper_below c last u n ≡ false → T (upper_below c l u n) → ⊥
      not_below e t = subst T e (below_deeper c u n few t)

    pub by_none : 1 ≤ last → confirmed c last u n ≡ false → lower_above c last u n ≡ false → upper_below c last u n ≡ false
        → first_from decides_at 1 (last - 1) ≡ last
    by_none some p q r =
        decides_first last some (omega arith)
        (λ l a b. record { confirms = not-confirmed (omega arith) p; above = not_above (omega arith) q; below = not_below (omega arith) r })
        (λ h. absurd (let z : ⊥ = omega arith in z))

    pub by_below : (k : ℕ) → confirmed c last u n ≡ false → lower_above c last u n ≡ false → Least (λ d. upper_below c d u n) last k
        → first_from decides_at 1 (last - 1) ≡ k
    unfolding refuted_by
    by_below k p q h =
        let few = h.few in
        decides_first k h.some few
        (λ l a b.
        record {
          confirms = not-confirmed (omega arith) p;
          above = not_above (omega arith) q;
          below = λ t. T_not (upper_below c l u n) (h.before l a b) t;
        })
        (λ i. refuted-decides k (either (lower_above c k u n) (upper_below c k u n) (inr h.here)))

    module _ (i : CellIn c) (v : UnitsIn u) (j : last ≤ depths) where
      -- no claim has two refuting ends: they would be out of order
      one_side : (d e : ℕ) → d ≤ depths → e ≤ depths → T (lower_above c d u n) → T (upper_below c e u n) → ⊥
      one_side d e j k s t =
          let p = both_parts (leb (u.floor + n + 1) T_units) (lower_end c d (u.floor + n + 1)) s in
          let q = both_parts (leb (n + 1) u.ceiling) (upper_end c e (u.ceiling - (n + 1))) t in
          let top = v.ceiling in
          let next = v.next in
          let w = leb→le (n + 1) u.ceiling q.0 in
          let h =
          apart c (u.floor + n + 1) (u.ceiling - (n + 1)) d e i (leb→le (u.floor + n + 1) T_units p.0) (omega arith) j k p.1 q.1 in
          omega arith

      pub by_above : (k : ℕ) → confirmed c last u n ≡ false → Least (λ d. lower_above c d u n) last k
          → first_from decides_at 1 (last - 1) ≡ k
      unfolding refuted_by
      by_above k p h =
          let few = h.few in
          decides_first k h.some few
          (λ l a b.
          record {
            confirms = not-confirmed (omega arith) p;
            above = λ t. T_not (lower_above c l u n) (h.before l a b) t;
            below = λ t. one_side last l j (omega arith) h.last t;
          })
          (λ i. refuted-decides k (either (lower_above c k u n) (upper_below c k u n) (inl h.here)))

      pub by_confirmed : (k : ℕ) → Least (λ d. confirmed c d u n) last k → first_from decides_at 1 (last - 1) ≡ k
      unfolding refuted_by
      by_confirmed k h =
          let few = h.few in
          decides_first k h.some few
          (λ l a b.
          let clash = never_both c u n i v.ceiling last l j (omega arith) h.last in
          record {
            confirms = λ t. T_not (confirmed c l u n) (h.before l a b) t;
            above = λ t. clash (either (lower_above c l u n) (upper_below c l u n) (inl t));
            below = λ t. clash (either (lower_above c l u n) (upper_below c l u n) (inr t));
          })
          (λ i. confirmed-decides k h.here)

  -- ---- the verdict where an end refutes, and where nothing decides

  module _ (d : ℕ) (p : confirmed c d u n ≡ false) where
    pub refuted-verdict : T (lower_above c d u n) ⊎ T (upper_below c d u n) → verdict_of c d u n ≡ Refuted
    refuted-verdict = verdicts.refuted-verdict (tests_at c d) u n p

    pub no_verdict : lower_above c d u n ≡ false → upper_below c d u n ≡ false → verdict_of c d u n ≡ Undecided
    no_verdict = verdicts.no_verdict (tests_at c d) u n p

  -- ---- what decides is kept

  decided_kept : CellIn c → UnitsIn u → (d e : ℕ) → d ≤ e → e ≤ depths → (v : Verdict) → verdict_of c d u n ≡ v → T (decides v)
      → verdict_of c e u n ≡ v
  decided_kept i w d e h j Confirmed p t = confirmed_kept c u n d e h p
  decided_kept i w d e h j Refuted p t = refuted_kept c u n d e h j i w.ceiling p
  decided_kept i w d e h j Undecided p t = absurd t

-- ---- what is decided by the tests of a case

module _ (k : Case) (h : CaseIn k) where
  abbrev last : ℕ
  last = k.problem.depth

  abbrev confirms : ℕ → Bool
  confirms d = confirmed k.problem.cell d k.units k.tolerance

  abbrev above : ℕ → Bool
  above d = lower_above k.problem.cell d k.units k.tolerance

  abbrev below : ℕ → Bool
  below d = upper_below k.problem.cell d k.units k.tolerance

  the_depth : (a b c : Option ℕ) → a ≡ from_least confirms last → b ≡ from_least above last → c ≡ from_least below last
      → (decided a b c last).depth ≡ settled_depth k
  unfolding settled_depth
  the_depth (Some d) b c p q r =
      sym (by_confirmed k.problem.cell k.units k.tolerance last h.problem.cell h.units h.problem.depth.few d
      (is_least confirms last h.problem.depth.some p))
  the_depth None (Some d) c p q r =
      sym (by_above k.problem.cell k.units k.tolerance last h.problem.cell h.units h.problem.depth.few d (not_last confirms last p)
      (is_least above last h.problem.depth.some q))
  the_depth None None (Some d) p q r =
      sym (by_below k.problem.cell k.units k.tolerance last d (not_last confirms last p) (not_last above last q)
      (is_least below last h.problem.depth.some r))
  the_depth None None None p q r =
      sym (by_none k.problem.cell k.units k.tolerance last h.problem.depth.some (not_last confirms last p) (not_last above last q)
      (not_last below last r))

  pub decision_is : decided_by (tests_at k.problem.cell) k.units k.tolerance last ≡ decision k
  decision_is =
      ap₂ (λ (v : Verdict) (d : ℕ). record { verdict = v; depth = d })
      (decided-verdict (tests_at k.problem.cell) k.units k.tolerance last)
      (the_depth (from_least confirms last) (from_least above last) (from_least below last) refl refl refl)

-- ---- the depth for which a case settles

module _ (k : Case) (h : CaseIn k) where
  searched : First (λ d. decides (verdict_at k d)) 1 (k.problem.depth - 1) (settled_depth k)
  unfolding settled_depth
  searched = first (λ d. decides (verdict_at k d)) 1 (k.problem.depth - 1)

  pub depth_some : 1 ≤ settled_depth k
  depth_some = searched.from

  pub depth_few : settled_depth k ≤ k.problem.depth
  depth_few = let t = searched.to in omega (arith, h.problem.depth.some)

  pub before_depth : (d : ℕ) → 1 ≤ d → d < settled_depth k → T (not (decides (verdict_at k d)))
  before_depth = searched.before

  pub at_depth_lem : settled_depth k < k.problem.depth → T (decides (verdict_at k (settled_depth k)))
  at_depth_lem l = searched.here (omega arith)

  pub from_depth : (d : ℕ) → settled_depth k ≤ d → d ≤ k.problem.depth → verdict_at k d ≡ verdict_at k (settled_depth k)
  from_depth d l m =
      ⊎_elim (λ e. ap (verdict_at k) (sym e))
      (λ s.
      decided_kept k.problem.cell k.units k.tolerance h.problem.cell h.units (settled_depth k) d l
      (omega (arith, h.problem.depth.few)) (verdict_at k (settled_depth k)) refl (at_depth_lem (omega arith)))
      (eq-or-lt_of_le l)
