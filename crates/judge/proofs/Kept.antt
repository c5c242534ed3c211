-- What the verdicts on a cell mean: never both, kept at every greater depth, and the exact inequalities behind each.
-- Assumes nothing.
use mathlib.Core.Path.{◌≡◌, refl}
use mathlib.Core.Bool.{true, false}
use mathlib.Core.Logic.{◌⊎◌, ◌↔◌}
use Prim.Native.Nat.{ℕ, ◌≤◌}
use lib.Dec.{T}
use Rattle.grid.specs.Grid.{T_units, depths}
use Rattle.orbit.specs.Cell.{CellIn}
use Rattle.orbit.specs.Given.{Given, cell_of}
use Rattle.orbit.specs.Cell.{Cell}
use Rattle.ends.specs.Ends.{lower_end, upper_end}
use Rattle.ends.specs.Exact.{ExactAt}
use Rattle.ends.proofs.Mirror.{end_true}
use Rattle.ends.proofs.Corners.{deeper}
use Rattle.ends.proofs.Apart.{apart}
use Rattle.units.specs.declared.Units.{Units}
use Rattle.judge.specs.Exact.{ConfirmedExact, AboveExact, BelowExact}
use Rattle.judge.specs.Verdict.{low_end, tests_at, high_end, confirmed, lower_above, upper_below, refuted, verdict_of}
use Rattle.judge.specs.declared.Verdict.TheVariants.{Confirmed, Refuted}
use Rattle.judge.proofs.Verdicts as verdicts
use Rattle.judge.proofs.Verdicts.{RefutedAbove, RefutedBelow, InOrder, AcceptsMore}

-- ---- the tests of a cell: a greater depth accepts more, and the ends are in order at any two depths

accepts_more : (c : Cell) {d e : ℕ} → d ≤ e → AcceptsMore (tests_at c d) (tests_at c e)
accepts_more c h = record { top = refl; lower = λ X t. deeper false c X h t; upper = λ X t. deeper true c X h t }

in_order : (c : Cell) (d e : ℕ) → CellIn c → d ≤ depths → e ≤ depths → InOrder (tests_at c d) (tests_at c e)
in_order c d e i j k X Y x y = apart c X Y d e i x y j k

-- ---- the two tests of a cell, an estimate and a tolerance

module _ (c : Cell) (u : Units) (n : ℕ) where
  pub confirmed_by_lem : (d : ℕ) → T (confirmed c d u n) ↔ T (lower_end c d (low_end u n)) × T (upper_end c d (high_end u n))
  confirmed_by_lem d = verdicts.confirmed_by_lem (tests_at c d) u n

  pub confirmed_deeper : {d e : ℕ} → d ≤ e → T (confirmed c d u n) → T (confirmed c e u n)
  confirmed_deeper {d} {e} h = verdicts.confirmed_more (tests_at c d) (tests_at c e) (accepts_more c h) u n

  pub refuted_by_lem : (d : ℕ) → T (refuted c d u n) ↔ RefutedAbove (tests_at c d) u n ⊎ RefutedBelow (tests_at c d) u n
  refuted_by_lem d = verdicts.refuted_by_lem (tests_at c d) u n

  pub above_deeper : {d e : ℕ} → d ≤ e → T (lower_above c d u n) → T (lower_above c e u n)
  above_deeper {d} {e} h = verdicts.above_more (tests_at c d) (tests_at c e) (accepts_more c h) u n

  pub below_deeper : {d e : ℕ} → d ≤ e → T (upper_below c d u n) → T (upper_below c e u n)
  below_deeper {d} {e} h = verdicts.below_more (tests_at c d) (tests_at c e) (accepts_more c h) u n

  -- R46: no claim is both, not even at two depths
  pub never_both : CellIn c → u.ceiling ≤ T_units → (d e : ℕ) → d ≤ depths → e ≤ depths → T (confirmed c d u n) → T (refuted c e u n) → ⊥
  never_both i top d e j k =
      verdicts.never_both (tests_at c d) (tests_at c e) u n refl (in_order c d e i j k) (in_order c e d i k j) top

-- ---- R19 behind a verdict, of what is given

module _ (g : Given) (u : Units) (n : ℕ) (top : u.ceiling ≤ T_units) (d : ℕ) (few : d ≤ depths) where
  pub confirmed_exact : T (confirmed (cell_of g) d u n) → ConfirmedExact g u n
  confirmed_exact =
      verdicts.confirmed_says (tests_at (cell_of g) d) (ExactAt false g) (ExactAt true g) (λ X w. end_true false g X w d few)
      (λ X w. end_true true g X w d few) u n top

  pub refuted_exact : T (refuted (cell_of g) d u n) → AboveExact g u n ⊎ BelowExact g u n
  refuted_exact =
      verdicts.refuted_says (tests_at (cell_of g) d) (ExactAt false g) (ExactAt true g) (λ X w. end_true false g X w d few)
      (λ X w. end_true true g X w d few) u n top

-- ---- the verdict

module _ (c : Cell) (u : Units) (n d : ℕ) where
  pub is_confirmed : verdict_of c d u n ≡ Confirmed → T (confirmed c d u n)
  is_confirmed = verdicts.is_confirmed (tests_at c d) u n

  pub is_refuted : verdict_of c d u n ≡ Refuted → T (refuted c d u n)
  is_refuted = verdicts.is_refuted (tests_at c d) u n

  -- the verdict by the tests behind it
  pub verdict-confirmed : T (confirmed c d u n) → verdict_of c d u n ≡ Confirmed
  verdict-confirmed = verdicts.verdict-confirmed (tests_at c d) u n

  pub verdict-refuted : (T (confirmed c d u n) → ⊥) → T (refuted c d u n) → verdict_of c d u n ≡ Refuted
  verdict-refuted = verdicts.verdict-refuted (tests_at c d) u n

  -- R47: a verdict is kept at every greater depth
  pub confirmed_kept : (e : ℕ) → d ≤ e → verdict_of c d u n ≡ Confirmed → verdict_of c e u n ≡ Confirmed
  confirmed_kept e h = verdicts.confirmed_kept (tests_at c d) (tests_at c e) (accepts_more c h) u n

  pub refuted_kept : (e : ℕ) → d ≤ e → e ≤ depths → CellIn c → u.ceiling ≤ T_units
      → verdict_of c d u n ≡ Refuted → verdict_of c e u n ≡ Refuted
  refuted_kept e h j i top = verdicts.refuted_kept (tests_at c d) (tests_at c e) (accepts_more c h) u n (in_order c e e i j j) top
