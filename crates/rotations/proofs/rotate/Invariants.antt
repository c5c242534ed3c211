-- `rotations::rotate`, as far as its loop has come: before rotation i the state is that of i rotations.
use Rattle.std.proofs.Common.{◌≡◌}
use Rattle.rotations.specs.Rotate.{rotations, start}
use Rattle.rotations.proofs.rotate.Given as goal

abbrev pub invariant-loop-i : goal.invariant-loop-i
invariant-loop-i l = l.s ≡ rotations l.m l.i (start l.fn.a)
