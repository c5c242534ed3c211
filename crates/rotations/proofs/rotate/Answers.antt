-- `rotations::rotate` meets its contract: every state on the way has room.
use Rattle.std.proofs.Common.{◌≡◌, ℕ, ◌≤◌, arith}
use Rattle.grid.specs.Grid.{one}
use Rattle.rotations.specs.Rotate.{rotations, start, fifty}
use Rattle.rotations.specs.Room.{RoomyState}
use Rattle.rotations.specs.declared.State.{State}
use Rattle.rotations.proofs.CodeReach.{rotations_roomy}
use Rattle.rotations.proofs.rotate.Goals as goal

state_roomy : (m a i : ℕ) {s : State} → a ≤ one → i ≤ fifty → s ≡ rotations m i (start a) → RoomyState s
state_roomy m a i h k e = rw e (rotations_roomy m a i h k)

pub sign-requires : goal.sign-requires
sign-requires c = state_roomy _ _ _ c.start-s.ensures.shape (omega arith) c.loop-i.invariant

pub turn-s-requires : goal.turn-s-requires
turn-s-requires c =
    record { state = state_roomy _ _ _ c.start-s.ensures.shape (omega arith) c.loop-i.invariant; shift = omega arith }
