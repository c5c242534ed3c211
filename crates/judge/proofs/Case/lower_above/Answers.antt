-- `judge::Case::lower_above` meets its contract: the limit first, then the test.
use Rattle.std.proofs.Common.{◌+◌, ap, arith}
use Rattle.std.proofs.lemmas.Bool.{lt-leb}
use Rattle.ends.specs.Least.{depth_or_none}
use Rattle.ends.proofs.Least.{else_least}
use Rattle.judge.proofs.Case.lower_above.Goals as goal

pub returns-else-next-TOP : goal.returns-else-next-TOP
returns-else-next-TOP g c =
    let k = c.args.self.now in
    let within = k.within.floor in
    ap depth_or_none
    (else_least _ _ _ (lt-leb (k.units.floor + k.tolerance + 1) g.P.Tested.TOP (omega (arith, c.n.view_is, c.if-next-TOP.false, c.TOP.ensures, within))))
