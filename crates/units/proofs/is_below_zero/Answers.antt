-- `units::is_below_zero` meets its contract.
use lib.Ieee.{of_bits}
use Rattle.units.proofs.CodeTests.{below_zero}
use Rattle.units.proofs.is_below_zero.Goals as goal

pub returns : goal.returns
unfolding of_bits
returns c = below_zero c.args.value
