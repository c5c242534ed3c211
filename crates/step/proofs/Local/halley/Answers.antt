-- `step::Local::halley` meets its contract: flat, or the method's own step.
use Rattle.std.proofs.Common.{rules}
use lib.Ieee.{of_bits}
use Rattle.step.proofs.Local.halley.Goals as goal

pub returns-then-divisor : goal.returns-then-divisor
unfolding of_bits
returns-then-divisor c = search rules

pub returns : goal.returns
unfolding of_bits
returns c = search rules
