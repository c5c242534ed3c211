-- The numbers to hold against of cosine and the two steps, computed from the definitions. Assumes nothing.
use mathlib.Core.Path.{refl}
use lib.Ieee.{neg, eq, of_int, sub, mul, div, of_bits}
use Rattle.series.specs.Terms.{l, u}
use Rattle.series.specs.Bounds.{evens, odds, raw_low, raw_high, greatest_low, least_high}
use Rattle.series.specs.Entry.{bounds_rule}
use Rattle.units.specs.Units.{off_range}
use Rattle.ends.specs.Ends.{below_by, above_by}
use Rattle.judge.specs.Verdict.{confirmed_by, refuted_by, verdict_by}
use Rattle.judge.specs.Judge.{judge_rule}
use Rattle.step.specs.Step.{local_at}
use Rattle.step.specs.Entry.{step_rule, judged_rule}
use Rattle.numbers.specs.Rows.{AllHold}
use Rattle.numbers.specs.StepNumbers.{Holds, cosine_rows, step_rows, judged_rows, StepNumbers}
use Rattle.numbers.proofs.Rows.{◌and◌}

of_cosine : AllHold Holds cosine_rows
unfolding cosine_rows bounds_rule l u evens odds raw_low raw_high greatest_low least_high
of_cosine =
    refl and refl and refl and refl and refl and refl and refl and refl and refl and refl and refl and refl and refl and tt

of_steps : AllHold Holds step_rows
unfolding step_rows l u evens odds raw_low raw_high greatest_low least_high neg eq of_int sub mul div of_bits off_range local_at step_rule
of_steps =
    refl and refl and refl and refl and refl and refl and refl and refl and refl and refl and refl and refl and refl and refl and refl
    and refl and refl and refl and refl and refl and refl and refl and refl and tt

of_judged : AllHold Holds judged_rows
unfolding judged_rows l u evens odds raw_low raw_high greatest_low least_high below_by above_by neg eq of_int sub mul div of_bits off_range local_at verdict_by confirmed_by refuted_by judge_rule judged_rule
of_judged =
    refl and refl and refl and refl and refl and refl and refl and refl and refl and refl and refl and refl and tt

pub step_numbers : StepNumbers
step_numbers = record { cosine = of_cosine; step = of_steps; judged = of_judged }
