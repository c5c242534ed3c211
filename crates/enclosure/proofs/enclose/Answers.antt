-- `enclosure::enclose` meets its contract: what was found is answered.
use Rattle.grid.proofs.FirstCode.{answered}
use Rattle.enclosure.specs.Enclosure.{enclosure_checks, refusal, said}
use Rattle.enclosure.proofs.enclose.Goals as goal

pub returns : goal.returns
returns g c =
    answered refusal said _ (enclosure_checks (g.G.Given.given c.args.given) c.args.depth) c.from.ensures c.posed_ends.ensures
