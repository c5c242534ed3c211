-- The numbers to hold against, computed from the definitions. Assumes nothing.
use mathlib.Core.Path.{refl}
use Prim.Native.Nat.{ℕ, ◌≤◌}
use borrow.Author.Tests.{le-ltb}
use lib.Ieee.{neg, of_bits}
use Rattle.whole.specs.First.{first_from}
use Rattle.series.specs.Terms.{l, u}
use Rattle.series.specs.Bounds.{evens, odds, raw_low, raw_high, greatest_low, least_high}
use Rattle.series.specs.Entry.{bounds_rule}
use Rattle.ends.specs.Ends.{below_by, above_by}
use Rattle.enclosure.specs.Halving.{halve, turns}
use Rattle.enclosure.specs.Enclosure.{found_lower, found_upper}
use Rattle.enclosure.proofs.Encloses.{circle}
use Rattle.units.specs.Units.{is_below_zero, off_range}
use Rattle.judge.specs.Verdict.{confirmed_by, refuted_by, verdict_by}
use Rattle.judge.specs.Judge.{judge_rule}
use Rattle.judge.specs.Settle.{settled_depth, settle_rule}
use Rattle.distance.specs.Distance.{distance_rule}
use Rattle.little.specs.LittleEndian.{little_endian}
use Rattle.claims.specs.Record.{answer_at}
use Rattle.claims.specs.Batch.{batch_rule, up_to, answers_after}
use Rattle.series.proofs.Zero.{Lo-zero, Hi-zero}
use Rattle.grid.specs.Grid.{depths}
use Rattle.numbers.specs.Rows.{AllHold}
use Rattle.numbers.specs.Starred.{Bounds, Holds, starred, others, Starred}
use Rattle.numbers.proofs.Rows.{◌and◌}

-- X = 0, at any depth
at_0 : (d : ℕ) → 1 ≤ d → d ≤ depths → Bounds 0 d 0 0
unfolding bounds_rule
at_0 d some few = simp (le-ltb d 1 some, le-ltb depths d few, Lo-zero d, Hi-zero d)

list : AllHold Holds starred
unfolding starred bounds_rule l u evens odds raw_low raw_high greatest_low least_high below_by above_by halve turns found_lower found_upper off_range of_bits
list =
    at_0 and refl and refl and refl and (refl, refl) and refl and refl and refl and refl
    and refl and refl and refl and refl and refl and refl and refl and refl and refl and refl and refl and tt

beside : AllHold Holds others
unfolding others l u evens odds raw_low raw_high greatest_low least_high below_by above_by halve turns found_lower found_upper neg is_below_zero off_range of_bits verdict_by confirmed_by refuted_by judge_rule first_from settled_depth settle_rule distance_rule little_endian answer_at batch_rule up_to answers_after
beside =
    (refl, refl) and (refl, refl) and (refl, refl) and (refl, refl) and (refl, refl) and (refl, refl)
    and (refl, refl) and (refl, refl) and (refl, refl) and (refl, refl) and (refl, refl) and (refl, refl) and (refl, refl) and (refl, refl)
    and refl and refl and refl and refl and refl and refl and refl
    and refl and refl and refl and refl and refl and refl and refl and refl and refl and refl
    and (refl, refl) and (refl, refl) and (refl, refl) and (refl, refl) and (refl, refl) and (refl, refl) and (refl, refl) and (refl, refl)
    and (refl, refl) and refl and refl and refl and refl and refl and refl and refl
    and refl and refl and refl and refl and refl and refl
    and (refl, refl) and (refl, refl) and (refl, refl) and (refl, refl) and (refl, refl) and (refl, refl) and (refl, refl)
    and (refl, refl) and (refl, refl) and (refl, refl) and (refl, refl) and (refl, refl)
    and (refl, refl) and (refl, refl) and (refl, refl) and (refl, refl) and refl and refl and refl and refl and refl
    and refl and refl and refl and refl and refl and refl and refl and refl and refl and refl and refl and refl and refl and refl
    and refl and refl
    and (refl, refl) and (refl, refl) and tt

pub starred_met : Starred
unfolding bounds_rule l u evens odds raw_low raw_high greatest_low least_high
starred_met = record { list = list; beside = beside; below_zero = refl; circle = circle }
