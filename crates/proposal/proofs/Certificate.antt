-- The certificate of an angle E up to T: one always exists, it is the smallest, there is only one, and the two ends that it
-- names satisfy the exact inequalities. Assumes nothing.
use mathlib.Core.Path.{◌≡◌}
use Prim.Native.Nat.{ℕ, ◌+◌, ◌^◌, ◌≤◌}
use native.Mathlib.Omega.{arith}
use native.Mathlib.Nat.{min-eq_right, min-le_right}
use mathlib.Core.Bool.{true, false}
use lib.Dec.{T}
use lib.IntN.{nat_abs}
use Rattle.whole.proofs.Bools.{both_parts, both}
use Rattle.grid.specs.Grid.{H_units, T_units, depths}
use Rattle.orbit.specs.Given.{Given, cell_of}
use Rattle.orbit.specs.Cell.{Cell}
use Rattle.ends.specs.Ends.{lower_end, upper_end}
use Rattle.ends.specs.Exact.{ExactAt}
use Rattle.ends.proofs.Known.{zero_lower, T_upper}
use Rattle.ends.proofs.Mirror.{end_true}
use Rattle.proposal.specs.Certify.{low_at, high_at, certifies, certificate, widths, Smallest}
use Rattle.proposal.specs.Propose.{concluded}
use Rattle.rotations.specs.Rotate.{brought}
use Rattle.rotations.specs.declared.State.{State}
use Rattle.rotations.proofs.Brought.{brought_within}
use Rattle.proposal.proofs.Smallest.{smallest, only}

module _ (c : Cell) (E : ℕ) (mean : c.m.ceiling ≤ H_units) (angle : E ≤ T_units) where
  -- the last width reaches from 0 to T
  low_30 : low_at E 30 ≡ 0
  low_30 = omega arith

  high_30 : high_at E 30 ≡ T_units
  high_30 = min-eq_right (omega arith)

  -- R39: so the last width always certifies
  pub last_width : T (certifies c E 30)
  unfolding certifies
  last_width =
      rw (low_30, high_30) (both (lower_end c depths 0) (upper_end c depths T_units) (zero_lower c depths) (T_upper c depths (omega arith) (omega arith)))

  -- R38: the certificate is the smallest j that certifies
  pub certified : Smallest (certifies c E) widths (certificate c E)
  unfolding certificate
  certified = smallest (certifies c E) widths 30 (omega arith) last_width

  -- any number that the rule allows is this one
  pub certificate_only : (j : ℕ) → Smallest (certifies c E) widths j → j ≡ certificate c E
  certificate_only j s = only (certifies c E) widths j (certificate c E) s certified

-- the ends of a width that certifies satisfy the exact inequalities, whatever the rotations did
pub ends_true : (g : Given) (E j : ℕ) → E ≤ T_units → T (certifies (cell_of g) E j)
    → ExactAt false g (low_at E j) × ExactAt true g (high_at E j)
unfolding certifies
ends_true g E j angle t =
    let p = both_parts (lower_end (cell_of g) depths (low_at E j)) (upper_end (cell_of g) depths (high_at E j)) t in (
      end_true false g (low_at E j) (omega arith) depths (omega arith) p.0,
      end_true true g (high_at E j) (min-le_right (E + 2 ^ j) T_units) depths (omega arith) p.1,
    )

-- ---- R39: what the entry's answer says, for any final state, so that no rotation can make it false

pub concluded_smallest : (c : Cell) (s : State) → c.m.ceiling ≤ H_units
    → Smallest (certifies c (nat_abs (concluded c s).angle)) widths (concluded c s).j
unfolding concluded
concluded_smallest c s mean = certified c (brought s.angle) mean (brought_within s.angle)

pub concluded-true : (g : Given) (s : State) → (cell_of g).m.ceiling ≤ H_units
    → let r = concluded (cell_of g) s in
    ExactAt false g (low_at (nat_abs r.angle) r.j) × ExactAt true g (high_at (nat_abs r.angle) r.j)
unfolding concluded
concluded-true g s mean =
    ends_true g (brought s.angle) (concluded (cell_of g) s).j (brought_within s.angle) (concluded_smallest (cell_of g) s mean).here
