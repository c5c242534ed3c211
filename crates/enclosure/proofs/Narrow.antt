-- R63: how far apart the ends found are, on the grid at depth 5: the last angle refused as an upper end would be accepted if it lay
-- 64 e / (1 - e) units or more above the first refused as a lower one. Assumes nothing.
use mathlib.Core.Path.{◌≡◌}
use mathlib.Core.Bool.{true}
use mathlib.Core.Logic.{⊎_elim}
use Prim.Native.Nat.{ℕ, suc, ◌+◌, ◌-◌, ◌*◌, ◌≤◌, ◌<◌}
use native.Mathlib.Omega.{arith}
use native.Mathlib.Nat.{lt_of_not-le}
use lib.Dec.{T_not}
use Rattle.grid.specs.Grid.{one, depths}
use Rattle.orbit.specs.Cell.{grid_cell}
use Rattle.ends.specs.Ends.{upper_end}
use Rattle.ends.proofs.Steep.{past_refused}
use Rattle.enclosure.specs.Enclosure.{found_lower, found_upper}
use Rattle.enclosure.proofs.Encloses.{Encloses}

pub narrow : (m a w : ℕ) → a ≤ one → Encloses (grid_cell m a) depths → found_upper (grid_cell m a) depths ≡ found_lower (grid_cell m a) depths + w
    → 2 < w → (w - 2) * (one - a) < 64 * a
narrow m a w small e width wide =
    let lower = found_lower (grid_cell m a) depths in
    let upper = found_upper (grid_cell m a) depths in
    let l = e.lower.within in
    let u = e.upper.within in
    lt_of_not-le
    (λ far.
    ⊎_elim (λ z. omega arith)
    (λ refused.
    T_not (upper_end (grid_cell m a) depths (upper - 1)) refused
    (past_refused true m a (suc lower) (upper - 1) (w - 2) small (omega arith) (omega arith) (omega arith) e.lower.next far))
    e.upper.next)
