-- `ends::walked`: the walk has come as many pairs as were taken, and none of them accepts.
use Rattle.std.proofs.Common.{◌≡◌}
use Rattle.series.specs.Sine.{sine}
use Rattle.series.specs.Walk.{walk}
use Rattle.ends.specs.Corner.{one_mean}
use Rattle.ends.proofs.CodeTest.{NoneTo}
use Rattle.ends.proofs.settling.walked.Given as goal

abbrev pub invariant-loop-done : goal.invariant-loop-done
invariant-loop-done g l = (l.w ≡ walk sine l.fn.x l.done) × NoneTo g.S.Side.upper (one_mean l.fn.m l.fn.floor l.fn.ceiling) l.fn.x l.done
