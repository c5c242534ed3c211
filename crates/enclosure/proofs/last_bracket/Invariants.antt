-- `enclosure::last_bracket`: the turns left from p and q lead to the search's last bracket. The measure is how far apart they are.
use Rattle.std.proofs.Common.{◌-◌}
use Rattle.enclosure.specs.Moves.{moves_p}
use Rattle.enclosure.proofs.CodeLoop.{Going}
use Rattle.enclosure.proofs.last_bracket.Given as goal

abbrev pub invariant-loop-q : goal.invariant-loop-q
invariant-loop-q g l =
    Going (moves_p l.upper (g.P.Tested.test l.tested l.upper (g.P.Tested.last l.tested))) g.P.Tested.TOP l.p l.q

abbrev pub decreases-loop-q : goal.decreases-loop-q
decreases-loop-q g l = l.q - l.p
