-- The one depth is the least where it accepts.
use Rattle.std.proofs.Common.{◌≡◌, Bool, true, false, refl, ◌∙◌}
use Rattle.std.specs.Bool.{then_some}
use Rattle.whole.specs.First.{first_from}
use Rattle.ends.specs.Least.{least_depth, from_least}
use Rattle.flyby.proofs.FlybyTested.accepted_from.Goals as goal

-- of a test that no depth changes
one_depth : (t : Bool) → then_some t 1 ≡ from_least (λ d. t) 1
unfolding least_depth first_from
one_depth true = refl
one_depth false = refl

pub returns-clause-least : goal.returns-clause-least
returns-clause-least c = c.then_some.ensures ∙ rw c.accepted.ensures (one_depth _)
