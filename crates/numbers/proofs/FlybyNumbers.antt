-- The numbers to hold against of flybys, computed from the definitions. Assumes nothing.
use mathlib.Core.Path.{refl}
use lib.Ieee.{of_bits}
use Rattle.series.specs.Terms.{l, u}
use Rattle.sinh.specs.Sinh.{total, low, high}
use Rattle.sinh.specs.Entry.{sinh_rule}
use Rattle.flyby.specs.Ends.{end_at}
use Rattle.flyby.specs.Entry.{end_rule}
use Rattle.enclosure.specs.Halving.{halve, turns}
use Rattle.flyby_enclosure.specs.Enclosure.{found_lower, found_upper, enclosure_rule}
use Rattle.units.specs.Units.{off_range}
use Rattle.judge.specs.Verdict.{confirmed_by, refuted_by, verdict_by}
use Rattle.flyby_judge.specs.Judge.{judge_rule}
use Rattle.numbers.specs.Rows.{AllHold}
use Rattle.numbers.specs.FlybyNumbers.{Holds, sinh_rows, end_rows, enclosure_rows, judge_rows, FlybyNumbers}
use Rattle.numbers.proofs.Rows.{◌and◌}

of_sinh : AllHold Holds sinh_rows
unfolding sinh_rows l u total low high sinh_rule
of_sinh =
    refl and refl and refl and refl and refl and refl and tt

of_ends : AllHold Holds end_rows
unfolding end_rows l u total low high end_at end_rule
of_ends =
    (refl, refl) and (refl, refl) and (refl, refl) and (refl, refl) and (refl, refl) and (refl, refl) and (refl, refl) and (refl, refl)
    and (refl, refl) and (refl, refl) and (refl, refl) and tt

of_enclosures : AllHold Holds enclosure_rows
unfolding enclosure_rows l u total low high end_at halve turns found_lower found_upper enclosure_rule
of_enclosures =
    refl and refl and refl and refl and refl and refl and refl and refl and refl and refl and tt

of_judge : AllHold Holds judge_rows
unfolding judge_rows l u total low high end_at of_bits off_range confirmed_by refuted_by verdict_by judge_rule
of_judge =
    refl and refl and refl and refl and refl and refl and refl and refl and refl and refl and refl and refl and refl and refl and refl
    and refl and tt

pub flyby_numbers : FlybyNumbers
flyby_numbers = record { sinh = of_sinh; ends = of_ends; enclosure = of_enclosures; judge = of_judge }
