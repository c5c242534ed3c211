-- How far the rotations go: after i of them |E| is at most i radians and the sizes of cosine and sine are at most `reach i`,
-- whatever the signs, so that no sum of the 50 leaves the range of an i64. Assumes nothing.
use mathlib.Core.Bool.{Bool, false}
use Prim.Native.Nat.{ℕ, zero, suc, ◌+◌, ◌-◌, ◌*◌, ◌^◌, ◌/◌, ◌≤◌, ◌<◌}
use native.Mathlib.Omega.{arith}
use native.Mathlib.Nat.{le_refl, add-zero, add-suc, add-sub_of_le, mul-le-mul_right, div-le_of_le-mul}
use lib.Dec.{lit≤}
use lib.IntN.{ℤ, pos, nat_abs, ◌+ℤ◌}
use Rattle.whole.specs.Sign.{signed_by}
use Rattle.whole.specs.Room.{room}
use Rattle.whole.proofs.CodeRoom.{size_add, size_sign}
use Rattle.grid.specs.Grid.{one}
use Rattle.rotations.specs.Table.{entry, G}
use Rattle.rotations.specs.Rotate.{shifted, turned, plus_at, shift_of, rotations, start, fifty, rotated}
use Rattle.rotations.specs.Room.{RoomyState}
use Rattle.rotations.specs.declared.State.{State}
use Rattle.rotations.proofs.CodeSize.{shrunk, entry_small}

-- a rotation with shift k adds at most the other number's 2^-k-th part, and 1 for rounding down
unfoldable pub reach : ℕ → ℕ
reach zero = one
reach (suc i) = reach i + (reach i / 2 ^ shift_of i + 1)

pub record Reached (i : ℕ) (s : State) : Type 0 where
  pub angle : nat_abs s.angle ≤ i * one
  pub cosine : nat_abs s.cosine ≤ reach i
  pub sine : nat_abs s.sine ≤ reach i

-- what a rotation adds or takes away, whatever the sign
part : (i : ℕ) (plus : Bool) (z : ℤ) → nat_abs z ≤ reach i → nat_abs (signed_by plus (shifted (shift_of i) z)) ≤ reach i / 2 ^ shift_of i + 1
part i plus z h =
    omega (arith, size_sign plus (shifted (shift_of i) z), (shrunk (shift_of i) (reach i) z h).part)

-- the one step for both: the cosine loses and the sine gains
gained : (i : ℕ) (y v : ℤ) → nat_abs y ≤ reach i → nat_abs v ≤ reach i / 2 ^ shift_of i + 1 → nat_abs (y +ℤ v) ≤ reach (suc i)
unfolding reach
gained i y v h k = omega (arith, size_add y v)

step : (i : ℕ) (plus : Bool) (s : State) → i < fifty → Reached i s → Reached (suc i) (turned s (shift_of i) plus)
unfolding turned
step i plus s h w =
    let v = signed_by plus (pos (entry (shift_of i))) in
    let of_cosine = signed_by plus (shifted (shift_of i) s.cosine) in
    let of-sine = signed_by plus (shifted (shift_of i) s.sine) in
    record {
      angle =
          let a = w.angle in
          omega (arith, size_add s.angle v, size_sign plus (pos (entry (shift_of i))), entry_small (shift_of i) (omega arith));
      cosine =
          gained i s.cosine (signed_by false of-sine) w.cosine
          (let a = part i plus s.sine w.sine in omega (arith, size_sign false of-sine));
      sine = gained i s.sine of_cosine w.sine (part i plus s.cosine w.cosine);
    }

start_reached : (a : ℕ) → a ≤ one → Reached 0 (start a)
unfolding start reach G
start_reached a h =
    record {
      angle = omega arith;
      cosine = let d : a * G / one ≤ G = div-le_of_le-mul one (mul-le-mul_right G h) in omega arith;
      sine = omega arith;
    }

-- so after n rotations a state is within what n of them reach
pub reached : (m a n : ℕ) → a ≤ one → n ≤ fifty → Reached n (rotations m n (start a))
unfolding rotations
reached m a zero h k = start_reached a h
reached m a (suc n) h k =
    let r = rotations m n (start a) in
    step n (plus_at m r) r k (reached m a n h (omega arith))

rises : (i n : ℕ) → reach i ≤ reach (i + n)
unfolding reach
rises i zero = rw add-zero (omega arith)
rises i (suc n) = let h = rises i n in rw add-suc (omega arith)

last : reach fifty ≤ room
unfolding reach
last = lit≤ tt

-- which has room
pub roomy : {n : ℕ} {s : State} → n ≤ fifty → Reached n s → RoomyState s
roomy {n} {s} k w =
    let b : reach n ≤ reach (n + (fifty - n)) = rises n (fifty - n) in
    let l : reach (n + (fifty - n)) ≤ room = rw add-sub_of_le last in
    record {
      angle = record { size = let a = w.angle in omega arith };
      cosine = record { size = let a = w.cosine in omega arith };
      sine = record { size = let a = w.sine in omega arith };
    }

-- so every state on the way has room
pub rotations_roomy : (m a n : ℕ) → a ≤ one → n ≤ fifty → RoomyState (rotations m n (start a))
rotations_roomy m a n h k = roomy k (reached m a n h k)

-- where they end
pub rotated_roomy : (m a : ℕ) → a ≤ one → RoomyState (rotated m a)
unfolding rotated
rotated_roomy m a h = rotations_roomy m a fifty h (le_refl fifty)
