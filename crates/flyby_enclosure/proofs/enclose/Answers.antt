-- `flyby_enclosure::enclose` meets its contract: what was found is answered.
use Rattle.grid.proofs.FirstCode.{answered}
use Rattle.enclosure.specs.Enclosure.{refusal, said}
use Rattle.flyby_enclosure.specs.Enclosure.{enclosure_checks, enclosure_rule}
use Rattle.flyby_enclosure.proofs.enclose.Goals as goal

pub returns : goal.returns
unfolding enclosure_rule
returns c = answered refusal said _ (enclosure_checks c.args.given.m c.args.given.b) c.from.ensures c.posed_ends.ensures
