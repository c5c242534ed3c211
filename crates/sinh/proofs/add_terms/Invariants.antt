-- `sinh::add_terms`: a turn begins with the terms before number `k` added.
use Rattle.std.proofs.Common.{◌-◌, not}
use lib.Dec.{eqb}
use Rattle.sinh.proofs.CodeAdd.{Adding}
use Rattle.sinh.proofs.add_terms.Given as goal

abbrev pub invariant-loop-k : goal.invariant-loop-k
invariant-loop-k g l = Adding (not (eqb g.row.ABOVE 0)) l.fn.x (l.k - 1) l.term l.sum
