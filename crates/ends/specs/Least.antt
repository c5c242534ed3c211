-- The least depth at which a test passes, as the code reports it. No entry's contract cites this file.
use Rattle.std.specs.Prelude.{ℕ, zero, suc, ◌-◌, Bool, cond, Option, Some, None}
use Rattle.whole.specs.First.{first_from}

-- the first of the depths 1 to d, where d itself passes, and 0 where it doesn't
unfoldable pub least_depth : (ℕ → Bool) → ℕ → ℕ
least_depth test d = cond (test d) (first_from test 1 (d - 1)) 0

-- a depth, or 0 for none
abbrev pub depth_or_none : ℕ → Option ℕ
depth_or_none zero = None
depth_or_none (suc d) = Some (suc d)

-- that depth, where there is one
abbrev pub from_least : (ℕ → Bool) → ℕ → Option ℕ
from_least test d = depth_or_none (least_depth test d)
