-- What the inner functions ask of a state, so that no sum leaves the range of an i64. No entry's contract cites this file.
-- That the rotations keep to it from the start on is a law of their definition, among the proofs.
use Rattle.whole.specs.Room.{Roomy}
use Rattle.rotations.specs.declared.State.{State}

pub record RoomyState (s : State) : Type 0 where
  pub angle : Roomy s.angle
  pub cosine : Roomy s.cosine
  pub sine : Roomy s.sine
