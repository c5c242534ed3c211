-- `step::radians` meets its contract: a double holds the number that was biased.
use Rattle.std.proofs.Common.{w64, FitsSigned, ap, ◌∙◌}
use mir.Facts.{to_z-of_z}
use lib.Ieee.{of_bits}
use Rattle.step.specs.Step.{in_radians}
use Rattle.step.proofs.radians.Goals as goal

pub returns : goal.returns
unfolding of_bits
returns c =
    let fits : FitsSigned w64 c.value.result = record { sfits = c.value.type_inv } in
    ap in_radians (to_z-of_z fits ∙ c.value.ensures)
