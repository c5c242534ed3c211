-- Whether there is a least depth is the test at the last one.
use Rattle.std.proofs.Common.{◌∙◌}
use Rattle.ends.proofs.Least.{handed_on}
use Rattle.ends.proofs.Tested.accepts.Goals as goal

pub returns : goal.returns
returns g c = c.is_some.ensures ∙ handed_on _ _ _ c.accepted_from.ensures.least
