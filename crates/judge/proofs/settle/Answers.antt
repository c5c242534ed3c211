-- `judge::settle` meets its contract: what is decided of a claim is answered, and depth 5 is never refused.
use Rattle.std.proofs.Common.{sym, ◌∙◌}
use Rattle.grid.specs.Grid.{depths}
use Rattle.judge.specs.Judge.{claim_of}
use Rattle.judge.proofs.Answered.{settled_said}
use Rattle.judge.proofs.SettleAnswers.{settle_is}
use Rattle.judge.proofs.settle.Goals as goal

pub returns : goal.returns
returns g c =
    let given = g.G.Given.given c.args.given in
    settled_said (claim_of given c.args.estimate c.args.n depths) c.from.ensures c.decide.ensures
    ∙ sym (settle_is given c.args.estimate c.args.n)
