-- R33, R34: the arctangent table keeps its rule at each entry, by one computed test, and G keeps its own. Assumes nothing.
use Prim.Native.Nat.{ℕ, zero, suc, ◌+◌, ◌*◌, ◌^◌, ◌<◌}
use native.Mathlib.Omega.{arith}
use native.Mathlib.Nat.{mul-pos, one-le-pow}
use lib.Pow.{pow_pos}
use mathlib.Core.Bool.{Bool, ◌&&◌}
use lib.Dec.{T, lit≤, lit<}
use lib.IntN.{pos, ◌*ℤ◌}
use lib.Signed.{le_z, lt_z, le_z_yes, lt_z_yes}
use Rattle.grid.specs.Grid.{one}
use Rattle.whole.proofs.Bools.{both_parts}
use Rattle.whole.proofs.Table.{at}
use Rattle.rotations.specs.Atan.{term, atan, atan_sum}
use Rattle.rotations.specs.Table.{entries, table, entry, last_below, last_above, RoundedDown, G, product, Scaled}

-- ---- the rule's fractions are fractions: no denominator is 0

term_pos : (n i : ℕ) → 0 < n → 0 < (term n i).den
term_pos n i h = mul-pos (omega arith) (one-le-pow (2 * i + 1) n h)

sum_pos : (n last : ℕ) → 0 < n → 0 < (atan_sum n last).den
unfolding atan_sum
sum_pos n zero h = term_pos n zero h
sum_pos n (suc last) h = mul-pos (sum_pos n last h) (term_pos n (suc last) h)

pub den_pos : (k last : ℕ) → 0 < (atan k last).den
unfolding atan
den_pos zero last = mul-pos (sum_pos 2 last (omega arith)) (sum_pos 3 last (omega arith))
den_pos (suc k) last = sum_pos (2 ^ suc k) last (pow_pos (suc k))

-- ---- the two parts of the rule, as tests that compute
low : ℕ → ℕ → Bool
low k n = le_z (pos n *ℤ pos (atan k last_below).den) (pos one *ℤ (atan k last_below).num)

high : ℕ → ℕ → Bool
high k n = lt_z (pos one *ℤ (atan k last_above).num) (pos (n + 1) *ℤ pos (atan k last_above).den)

right : ℕ → ℕ → Bool
right k n = low k n && high k n

-- R33: each entry is right, by one test over the whole table
whole_table : (k : ℕ) → k < entries → T (right k (entry k))
unfolding low high right atan atan_sum table entry
whole_table k h = at right table tt k h

pub entry_right : (k : ℕ) → k < entries → RoundedDown k (entry k)
unfolding low high right
entry_right k h =
    let t = both_parts (low k (entry k)) (high k (entry k)) (whole_table k h) in
    record { low = le_z_yes t.0; high = lt_z_yes t.1 }

pub G_right : Scaled G
unfolding G product
G_right = record { low = lit≤ tt; high = lit< tt }
