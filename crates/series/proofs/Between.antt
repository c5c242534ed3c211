-- No lower bound lies above an upper bound, whatever the two depths: S_9 and S_10 lie between. Assumes nothing.
use mathlib.Core.Path.{refl}
use Prim.Native.Nat.{ℕ, ◌≤◌}
use native.Mathlib.Omega.{arith}
use native.Mathlib.Nat.{le_of_mul-le-mul_right}
use lib.Signed.{◌≤ℤ◌}
use Rattle.grid.specs.Grid.{T_units, depths}
use Rattle.whole.proofs.Parts.{plus, minus, own, is_mul_right}
use Rattle.whole.proofs.Order.{le_parts}
use Rattle.series.specs.Terms.{Series}
use Rattle.series.specs.Bounds.{greatest_low, least_high}
use Rattle.series.specs.Exact.{den}
use Rattle.series.specs.Sine.{sine, Lo, Hi}
use Rattle.series.proofs.TermLimits.{Divides}
use Rattle.series.proofs.OfSine.{sine_divides}
use Rattle.series.proofs.TermsTrue.{den_pos}
use Rattle.series.proofs.Sums.{S_parts}
use Rattle.series.proofs.Falling.{TermsFall, T_fall}
use Rattle.series.proofs.Next.{drop-last}
use Rattle.series.proofs.BoundsTrue.{greatest_true, least_true}

pub greatest_le_least : (s : Series) → Divides s → (X : ℕ) → TermsFall s X → (d e : ℕ) → d ≤ depths → e ≤ depths →
    greatest_low s X d ≤ℤ least_high s X e
greatest_le_least s div X fall d e k m =
    let lo = greatest_low s X d in
    let hi = least_high s X e in
    let low = (le_parts (is_mul_right (den s 9) (own lo)) (S_parts s X 9)).0 (greatest_true s div X fall d 4 9 refl k) in
    let high = (le_parts (S_parts s X 10) (is_mul_right (den s 10) (own hi))).0 (least_true s div X fall e 4 10 refl m) in
    let down = drop-last s div X 9 1 (plus hi) (minus hi) (omega arith) in
    (le_parts (own lo) (own hi)).1 (le_of_mul-le-mul_right {k = den s 9} (omega arith) (den_pos s div 9))

pub Lo-le-Hi : (X d e : ℕ) → X ≤ T_units → d ≤ depths → e ≤ depths → Lo X d ≤ℤ Hi X e
Lo-le-Hi X d e h = greatest_le_least sine sine_divides X (T_fall X h) d e
