-- `series::Series::bounds_at`: each turn begins with the walk after as many pairs as there were turns, which is unspent.
use Rattle.std.proofs.Common.{◌≡◌}
use Rattle.series.specs.Walk.{walk}
use Rattle.series.proofs.Series.bounds_at.Given as goal

abbrev pub invariant-loop : goal.invariant-loop
invariant-loop g l = l.w ≡ walk g.Self.Series.series l.fn.x l.counter
