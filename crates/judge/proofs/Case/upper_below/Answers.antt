-- `judge::Case::upper_below` meets its contract: the limit first, then the test.
use Rattle.std.proofs.Common.{◌+◌, ◌∙◌, ap}
use native.Mathlib.Nat.{lt_of_not-le}
use Rattle.std.proofs.lemmas.Bool.{lt-leb}
use Rattle.ends.specs.Least.{depth_or_none}
use Rattle.ends.proofs.Least.{else_least}
use Rattle.judge.proofs.Case.upper_below.Goals as goal

pub returns-in_err-x : goal.returns-in_err-x
returns-in_err-x g c =
    let k = c.args.self.now in
    let less = rw c.n.view_is at (lt_of_not-le c.in_err-x.ensures) in
    c.from_residual.ensures ∙ ap depth_or_none (else_least _ _ _ (lt-leb (k.tolerance + 1) k.units.ceiling less))
