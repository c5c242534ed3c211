-- The code's test at a corner, on a biased bound, is the grid's; and where the other bound of a depth fails it, no depth
-- accepts. Assumes nothing.
use mathlib.Core.Path.{◌≡◌, refl, ap, ap₂, subst, sym, ◌∙◌}
use mathlib.Core.Bool.{Bool, true, false, not, cond, ◌&&◌, true≢false}
use mathlib.Core.Logic.{◌↔◌}
use Prim.Native.Nat.{ℕ, zero, suc, ◌+◌, ◌*◌, ◌≤◌}
use native.Mathlib.Omega.{arith}
use native.Mathlib.Nat.{mul-le-mul_left}
use lib.Dec.{T, T_not, not_T}
use lib.IntN.{ℤ}
use Rattle.std.specs.Prelude.{Option, Some, None}
use Rattle.whole.proofs.Bools.{alike, by_meaning, passed, passes, fails, both, both_parts}
use Rattle.grid.specs.Grid.{one, H_units, T_units, depths}
use Rattle.series.specs.Sine.{sine}
use Rattle.series.specs.Walk.{bias, biased, walk, spent_at}
use Rattle.series.specs.declared.Walk.{Walk}
use Rattle.series.specs.declared.Biased.{Biased}
use Rattle.series.proofs.CodeRange.{InBounds, Lo_within, Hi_within}
use Rattle.series.proofs.CodeBias.{biased_parts, biased_small}
use Rattle.series.proofs.Between.{Lo-le-Hi}
use Rattle.series.proofs.CodeWalk.{bounds}
use Rattle.series.proofs.CodeStop.{spent_walk}
use Rattle.orbit.specs.Cell.{Orbit, orbit_at, Cell}
use Rattle.ends.specs.Ends.{below_at, above_at, below_by, above_by, end_by, bound_of, end_at}
use Rattle.ends.specs.Corner as by
use Rattle.ends.specs.Corner.{Corner, CornerIn, corner_of, AtDepth, said, test_by, own_mean, at_depth}
use Rattle.ends.proofs.InNaturals.{below_test, above_test}
use Rattle.ends.specs.Least.{least_depth, depth_or_none, from_least}
use Rattle.ends.proofs.Least.{none, found}
use Rattle.ends.proofs.Corners.{NoWorse, below_corners, above_corners, better, deeper, spent_alike}

-- the grid's test of an upper end, or of a lower one
abbrev grid_by : Bool → Orbit → ℕ → ℤ → Bool
grid_by true = above_at
grid_by false = below_at

test_is : (upper : Bool) (o : Orbit) (X : ℕ) (z : ℤ) → InBounds z → test_by upper (corner_of o X) (biased z) ≡ grid_by upper o X z
test_is true o X z w =
    let e = ap (λ (n : ℕ). o.a * n) (biased_parts z w) in
    by_meaning (o.a * biased z + one * o.m) (one * X + o.a * bias) (above_at o X z) (above_test o X z) (λ h. omega arith) (λ h. omega arith)
test_is false o X z w =
    let e = ap (λ (n : ℕ). o.a * n) (biased_parts z w) in
    by_meaning (one * X + o.a * bias) (o.a * biased z + one * o.m) (below_at o X z) (below_test o X z) (λ h. omega arith) (λ h. omega arith)

-- a test that is two others
alike_both : (p q t : Bool) → (T t ↔ T p × T q) → (p && q) ≡ t
alike_both p q t h = alike (p && q) t (λ s. h.1 (both_parts p q s)) (λ s. let r = h.0 s in both p q r.0 r.1)

-- the corners of a cell by which the test of an end goes, and the code's of them
abbrev least_orbit : Bool → Cell → Orbit
least_orbit upper c = orbit_at (own_mean upper c.m) c.a.floor

abbrev most_orbit : Bool → Cell → Orbit
most_orbit upper c = orbit_at (own_mean upper c.m) c.a.ceiling

abbrev pub least_corner : Bool → Cell → ℕ → Corner
least_corner upper c X = corner_of (least_orbit upper c) X

abbrev pub most_corner : Bool → Cell → ℕ → Corner
most_corner upper c X = corner_of (most_orbit upper c) X

-- both corners' tests are the cell's
both_is : (upper : Bool) (c : Cell) (X : ℕ) (z : ℤ)
    → (grid_by upper (least_orbit upper c) X z && grid_by upper (most_orbit upper c) X z) ≡ end_by upper c X z
both_is true c X z =
    alike_both (above_at (least_orbit true c) X z) (above_at (most_orbit true c) X z) (above_by c X z) (above_corners c X z)
both_is false c X z =
    alike_both (below_at (least_orbit false c) X z) (below_at (most_orbit false c) X z) (below_by c X z) (below_corners c X z)

-- the bound of a walk for the test of an upper end, or of a lower one
abbrev pub own_bound : Bool → Walk → ℕ
own_bound upper w = by.own_bound upper w.greatest w.least

-- what the depth says that a walk has come to
abbrev pub at_walk : Bool → Corner → Corner → Walk → AtDepth
at_walk upper least most w = at_depth upper least most (own_bound upper w) (own_bound (not upper) w)

-- the bound that a walk has for an upper end's test, or for a lower end's
walk_bound : (upper : Bool) (w : Walk) (X n : ℕ) → w ≡ walk sine X (suc n) → own_bound upper w ≡ biased (bound_of upper X (suc n))
walk_bound true w X n e = ap (λ (r : Biased). r.hi) (bounds sine w X (suc n) (omega arith) e)
walk_bound false w X n e = ap (λ (r : Biased). r.lo) (bounds sine w X (suc n) (omega arith) e)

-- no depth has a better bound than another depth's bound of the other end
no_better : (upper : Bool) (X d k : ℕ) → X ≤ T_units → d ≤ depths → k ≤ depths → NoWorse upper (bound_of upper X d) (bound_of (not upper) X k)
no_better true X d k x i j = Lo-le-Hi X k d x j i
no_better false X d k x i j = Lo-le-Hi X d k x i j

-- what settles is the answer, where acceptance stays and the other bound's failure rules it out
settled : (least most other r : Bool) → cond least most (not other) ≡ true
    → (true ≡ (least && most) → true ≡ r) → (other ≡ false → false ≡ r) → (least && most) ≡ r
settled true true other r e stays never = stays refl
settled true false other r e stays never = absurd (passed false (sym e))
settled false most true r e stays never = absurd (passed false (sym e))
settled false most false r e stays never = never refl

unsettled : (least most other : Bool) → cond least most (not other) ≡ false → (least && most) ≡ false
unsettled true most other e = e
unsettled false most other e = refl

-- what one depth said, by what is handed on of it
abbrev settled_of : Option Bool → Bool
settled_of (Some b) = true
settled_of None = false

abbrev accepted_of : Option Bool → Bool
accepted_of (Some b) = b
accepted_of None = false

of_said : (t a : Bool) → (settled_of (cond t (Some a) None) ≡ t) × (t ≡ true → accepted_of (cond t (Some a) None) ≡ a)
of_said true a = (refl, λ e. refl)
of_said false a = (refl, λ e. absurd (true≢false (sym e)))

pub said_some : (r : AtDepth) {o : Option Bool} {b : Bool} → o ≡ said r → o ≡ Some b → (r.settles ≡ true) × (r.accepts ≡ b)
said_some r s e =
    let (p, q) = of_said r.settles r.accepts in
    let t = sym p ∙ ap settled_of (sym s ∙ e) in
    (t, sym (q t) ∙ ap accepted_of (sym s ∙ e))

pub said_none : (r : AtDepth) {o : Option Bool} → o ≡ said r → o ≡ None → r.settles ≡ false
said_none r s e = sym (of_said r.settles r.accepts).0 ∙ ap settled_of (sym s ∙ e)

-- the tests of one depth
module _ (upper : Bool) (least most : Corner) (w : Walk) where
  abbrev least_passes : Bool
  least_passes = test_by upper least (own_bound upper w)

  abbrev most_passes : Bool
  most_passes = test_by upper most (own_bound upper w)

  abbrev other_passes : Bool
  other_passes = test_by upper least (own_bound (not upper) w)

  abbrev now : AtDepth
  now = at_walk upper least most w

  with_least : Bool → AtDepth
  with_least t = record { settles = cond t most_passes (not other_passes); accepts = t && most_passes }

  -- what the depth says where the least corner passes, and where it fails
  pub least_passed : {r : Bool} → least_passes ≡ true → r ≡ most_passes → ◌≡◌ {A = AtDepth} record { settles = r; accepts = r } now
  unfolding with_least
  least_passed p q = ap (λ (t : Bool). record { settles = t; accepts = t }) q ∙ ap with_least (sym p)

  pub least_failed : {r : Bool} → least_passes ≡ false → r ≡ other_passes → ◌≡◌ {A = AtDepth} record { settles = not r; accepts = false } now
  unfolding with_least
  least_failed p q = ap (λ (t : Bool). record { settles = not t; accepts = false }) q ∙ ap with_least (sym p)

  now_settled : (r : Bool) → now.settles ≡ true → (true ≡ now.accepts → true ≡ r) → (other_passes ≡ false → false ≡ r) → now.accepts ≡ r
  now_settled r = settled least_passes most_passes other_passes r

  -- what doesn't settle doesn't accept
  pub now_unsettled : now.settles ≡ false → now.accepts ≡ false
  now_unsettled = unsettled least_passes most_passes other_passes

-- no depth up to n accepts
abbrev pub NoneTo : Bool → Cell → ℕ → ℕ → Type 0
NoneTo upper c X n = (l : ℕ) → 1 ≤ l → l ≤ n → T (not (end_at upper c l X))

-- nor is a depth reported where the last one refuses
not_found : (test : ℕ → Bool) (d : ℕ) → test d ≡ false → None ≡ from_least test d
not_found test d e = sym (ap depth_or_none (none test d e))

pub none_at : (upper : Bool) (c : Cell) (X : ℕ) {n : ℕ} → NoneTo upper c X n → {d : ℕ} → 1 ≤ d → d ≤ n → None ≡ from_least (λ l. end_at upper c l X) d
none_at upper c X all {d} some h =
    not_found (λ l. end_at upper c l X) d (sym (fails (end_at upper c d X) (T_not (end_at upper c d X) (all d some h))))

module _ (X : ℕ) (x : X ≤ T_units) (w : Walk) (n : ℕ) (at : w ≡ walk sine X (suc n)) (few : suc n ≤ depths) where
  in_bounds : (upper : Bool) → InBounds (bound_of upper X (suc n))
  in_bounds true = Hi_within X (suc n) x few
  in_bounds false = Lo_within X (suc n) x few

  -- a walk's bound is one, whichever end it is for
  pub bound_in : (upper : Bool) → own_bound upper w ≤ 2 * bias
  bound_in upper = rw (walk_bound upper w X n at) (biased_small (bound_of upper X (suc n)) (in_bounds upper))

  -- so the tests of a corner may be made
  pub walk_in : (m a : ℕ) → m ≤ H_units → a ≤ one → CornerIn (corner_of (orbit_at m a) X) × ((upper : Bool) → own_bound upper w ≤ 2 * bias)
  walk_in m a h k = (record { shape = k; mean = mul-le-mul_left one h }, bound_in)

  corner_test : (upper side : Bool) (o : Orbit) → test_by upper (corner_of o X) (own_bound side w) ≡ grid_by upper o X (bound_of side X (suc n))
  corner_test upper side o =
      ap (test_by upper (corner_of o X)) (walk_bound side w X n at) ∙ test_is upper o X (bound_of side X (suc n)) (in_bounds side)

  module _ (upper : Bool) (c : Cell) where
    abbrev pub now_at : AtDepth
    now_at = at_walk upper (least_corner upper c X) (most_corner upper c X) w

    -- both corners' tests are the cell's, at the depth that the walk has come to
    own_test : now_at.accepts ≡ end_at upper c (suc n) X
    own_test =
        ap₂ ◌&&◌ (corner_test upper upper (least_orbit upper c)) (corner_test upper upper (most_orbit upper c))
        ∙ both_is upper c X (bound_of upper X (suc n))

    -- where the other bound fails a corner's test, no depth accepts
    other_test : test_by upper (least_corner upper c X) (own_bound (not upper) w) ≡ false → (d : ℕ) → d ≤ depths → false ≡ end_at upper c d X
    other_test e d j =
        let z = bound_of (not upper) X (suc n) in
        let f = sym (corner_test upper (not upper) (least_orbit upper c)) ∙ e in
        fails (end_at upper c d X)
        (λ t.
        let h = better upper c X (bound_of upper X d) z (no_better upper X d (suc n) x j few) t in
        subst T f (both_parts (grid_by upper (least_orbit upper c) X z) (grid_by upper (most_orbit upper c) X z) (subst T (sym (both_is upper c X z)) h)).0)

    -- what settles is the answer at every greater depth
    settles_on : now_at.settles ≡ true → (d : ℕ) → suc n ≤ d → d ≤ depths → now_at.accepts ≡ end_at upper c d X
    settles_on e d k j =
        now_settled upper (least_corner upper c X) (most_corner upper c X) w (end_at upper c d X) e
        (λ t. passes (end_at upper c d X) (deeper upper c X k (passed (end_at upper c (suc n) X) (t ∙ own_test))))
        (λ f. other_test f d j)

    -- ---- what that depth said

    -- the first depth that accepts is the least, which every greater depth reports
    pub reports : now_at.accepts ≡ true → NoneTo upper c X n → (d : ℕ) → suc n ≤ d → least_depth (λ l. end_at upper c l X) d ≡ suc n
    reports t before d k =
        let here = passed (end_at upper c (suc n) X) (sym t ∙ own_test) in
        found (λ l. end_at upper c l X) d (suc n) (record {
          some = omega arith;
          few = k;
          here = here;
          last = deeper upper c X k here;
          before = λ l s f. before l s (omega arith);
        })

    -- as it is handed on
    pub least_found : NoneTo upper c X n → now_at.accepts ≡ true → (d : ℕ) → suc n ≤ d → Some (suc n) ≡ from_least (λ l. end_at upper c l X) d
    least_found before t d k = sym (ap depth_or_none (reports t before d k))

    module _ (e : now_at.accepts ≡ false) where
      -- what isn't accepted is accepted at no greater depth either, where the tests settle it
      pub ruled_out : now_at.settles ≡ true → (d : ℕ) → suc n ≤ d → d ≤ depths → end_at upper c d X ≡ false
      ruled_out t d k j = sym (settles_on t d k j) ∙ e

      -- where this is the last depth
      pub refused_last : (d : ℕ) → suc n ≡ d → end_at upper c d X ≡ false
      refused_last d h = ap (λ (l : ℕ). end_at upper c l X) (sym h) ∙ sym own_test ∙ e

      -- and where the terms are spent
      pub refused_spent : spent_at w ≡ true → (d : ℕ) → suc n ≤ d → end_at upper c d X ≡ false
      refused_spent t d k = spent_alike upper c X (spent_walk sine w X (suc n) at t) (omega arith) d k ∙ refused_last (suc n) refl

      -- nor at a lesser one
      none_so_far : NoneTo upper c X (suc n)
      none_so_far l s f = not_T (end_at upper c l X) (λ t. subst T (refused_last (suc n) refl) (deeper upper c X f t))

    -- what it rules out is reported by no depth
    pub none_later : now_at.settles ≡ true → now_at.accepts ≡ false
        → (d : ℕ) → suc n ≤ d → d ≤ depths → None ≡ from_least (λ l. end_at upper c l X) d
    none_later e f d k j = not_found (λ l. end_at upper c l X) d (ruled_out f e d k j)

    module _ (e : now_at.settles ≡ false) where
      refuses : now_at.accepts ≡ false
      refuses = now_unsettled upper (least_corner upper c X) (most_corner upper c X) w e

      -- what it doesn't settle no depth up to it accepts
      pub none_to : NoneTo upper c X (suc n)
      none_to = none_so_far refuses

      -- and where the terms are spent no greater one does
      pub none_spent : spent_at w ≡ true → (d : ℕ) → suc n ≤ d → None ≡ from_least (λ l. end_at upper c l X) d
      none_spent t d k = not_found (λ l. end_at upper c l X) d (refused_spent refuses t d k)

-- where the walk's last depth didn't accept, no depth up to it does
pub none_before : (X : ℕ) → X ≤ T_units → (n : ℕ) → n ≤ depths → (v : Walk) → v ≡ walk sine X n → (c : Cell) (upper : Bool)
    → (1 ≤ n → (at_walk upper (least_corner upper c X) (most_corner upper c X) v).accepts ≡ false) → NoneTo upper c X n
none_before X x zero few v at c upper h = λ l s f. absurd (let z : ⊥ = omega arith in z)
none_before X x (suc n) few v at c upper h = none_so_far X x v n at few upper c (h (omega arith))
