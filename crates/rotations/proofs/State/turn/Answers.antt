-- `State::turn` meets its contract: what is added or taken away has room and is read as it was written, so each sum is the
-- definition's.
use Rattle.std.proofs.Common.{◌≡◌, ℕ, ℤ, pos, Bool, w64, to_z, of_z}
use Rattle.whole.specs.Sign.{signed_by}
use Rattle.whole.specs.Room.{Roomy}
use Rattle.whole.proofs.CodeRoom.{roomy_sign, read, held_sum, held_less}
use Rattle.rotations.specs.Rotate.{shifted, turned}
use Rattle.rotations.specs.Table.{entry}
use Rattle.rotations.proofs.CodeSize.{roomy_shift, roomy_entry}
use Rattle.rotations.proofs.State.turn.Goals as goal

-- a callee's result r is the number z, which has room
record Moved (r z : ℤ) : Type 0 where
  is : r ≡ z
  roomy : Roomy z

angle_moved : (plus : Bool) (k : ℕ) {e r : ℤ} → Roomy (pos (entry k)) → e ≡ pos (entry k) → r ≡ signed_by plus (to_z w64 (of_z w64 e))
    → Moved r (signed_by plus (pos (entry k)))
angle_moved plus k h e i = record { is = rw (e, read h) at i; roomy = roomy_sign plus h }

-- the one step for cosine and sine
part_moved : (plus : Bool) (k : ℕ) {r z : ℤ} → Roomy z → r ≡ signed_by plus (shifted k (to_z w64 (of_z w64 z)))
    → Moved r (signed_by plus (shifted k z))
part_moved plus k h e = record { is = rw (read h) at e; roomy = roomy_sign plus (roomy_shift k h) }

pub overflow_sub-cosine : goal.overflow_sub-cosine
overflow_sub-cosine c =
    let p = c.requires.state in
    let m = part_moved c.args.plus c.args.k p.sine c.part.ensures in
    rw m.is (held_less p.cosine m.roomy).0

pub overflow_add-sine : goal.overflow_add-sine
overflow_add-sine c =
    let p = c.requires.state in
    let m = part_moved c.args.plus c.args.k p.cosine c.part-2.ensures in
    rw m.is (held_sum p.sine m.roomy).0

pub returns : goal.returns
unfolding turned
returns c =
    let p = c.requires.state in
    let angle = angle_moved c.args.plus c.args.k (roomy_entry c.args.k c.requires.shift) c.entry.ensures c.signed.ensures in
    let cosine = part_moved c.args.plus c.args.k p.sine c.part.ensures in
    let sine = part_moved c.args.plus c.args.k p.cosine c.part-2.ensures in
    rw (
      angle.is,
      cosine.is,
      sine.is,
      (held_sum p.angle angle.roomy).1,
      (held_less p.cosine cosine.roomy).1,
      (held_sum p.sine sine.roomy).1,
    )
