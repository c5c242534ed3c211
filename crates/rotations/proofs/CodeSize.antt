-- The sizes of what a rotation adds: a shift and an entry of the table. Assumes nothing.
use Prim.Native.Nat.{ℕ, ◌+◌, ◌^◌, ◌/◌, ◌≤◌, ◌<◌}
use native.Mathlib.Omega.{arith}
use native.Mathlib.Nat.{div-le_self}
use lib.Dec.{leb, leb→le}
use lib.IntN.{ℤ, pos, negsuc, nat_abs}
use lib.Pow.{pow_pos}
use Rattle.whole.specs.Room.{Roomy, room}
use Rattle.whole.proofs.Round.{down_mono}
use Rattle.whole.proofs.Table.{at}
use Rattle.grid.specs.Grid.{one}
use Rattle.rotations.specs.Rotate.{shifted}
use Rattle.rotations.specs.Table.{entries, table, entry}

-- a quotient that is rounded down
pub record Shrunk (m L : ℕ) (q : ℤ) : Type 0 where
  pub part : nat_abs q ≤ L / m + 1
  pub full : nat_abs q ≤ L

pub shrunk : (k L : ℕ) (z : ℤ) → nat_abs z ≤ L → Shrunk (2 ^ k) L (shifted k z)
unfolding shifted
shrunk k L (pos n) h =
    let d = down_mono (2 ^ k) (pow_pos k) h in record { part = omega arith; full = omega (arith, div-le_self n (2 ^ k)) }
shrunk k L (negsuc n) h =
    let d = down_mono {a = n} {c = L} (2 ^ k) (pow_pos k) (omega arith) in
    record { part = omega arith; full = omega (arith, div-le_self n (2 ^ k)) }

-- no entry is above one radian, which bounds E
pub entry_small : (k : ℕ) → k < entries → entry k ≤ one
unfolding table entry
entry_small k h = leb→le (entry k) one (at (λ i n. leb n one) table tt k h)

-- ---- numbers with room, as the code meets them

pub roomy_shift : (k : ℕ) {z : ℤ} → Roomy z → Roomy (shifted k z)
roomy_shift k {z} h = record { size = (shrunk k room z h.size).full }

pub roomy_entry : (k : ℕ) → k < entries → Roomy (pos (entry k))
roomy_entry k h = record { size = let a = entry_small k h in omega arith }
