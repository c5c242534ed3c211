-- The two end tests, R17 and R18, of a cell c at a depth d: by a bound of the sine, and that bound is Lo or Hi.
use Rattle.std.specs.Prelude.{ℕ, Bool, true, false, ℤ, pos, ◌-ℤ◌, ◌*ℤ◌}
use Rattle.std.specs.Int.Signed.{le_z}
use Rattle.whole.specs.Choose.{greater, lesser}
use Rattle.grid.specs.Grid.{one}
use Rattle.series.specs.Sine.{Lo, Hi}
use Rattle.orbit.specs.Cell.{Orbit, Cell}

-- R17: of one M and one A, whether X lies below the root by a bound b
unfoldable pub below_at : Orbit → ℕ → ℤ → Bool
below_at o X b = le_z (pos one *ℤ (pos X -ℤ pos o.m)) (pos o.a *ℤ b)

-- R18: of one M and one A, whether X lies above the root by a bound b
unfoldable pub above_at : Orbit → ℕ → ℤ → Bool
above_at o X b = le_z (pos o.a *ℤ b) (pos one *ℤ (pos X -ℤ pos o.m))

-- R17: of a cell, by the least M and the lesser product; on the grid this is `below_at`
unfoldable pub below_by : Cell → ℕ → ℤ → Bool
below_by c X b = le_z (pos one *ℤ (pos X -ℤ pos c.m.floor)) (lesser (pos c.a.floor *ℤ b) (pos c.a.ceiling *ℤ b))

-- R18: of a cell, by the greatest M and the greater product; on the grid this is `above_at`
unfoldable pub above_by : Cell → ℕ → ℤ → Bool
above_by c X b = le_z (greater (pos c.a.floor *ℤ b) (pos c.a.ceiling *ℤ b)) (pos one *ℤ (pos X -ℤ pos c.m.ceiling))

-- R17, R18: either test, `true` for that of an upper end
abbrev pub end_by : Bool → Cell → ℕ → ℤ → Bool
end_by true = above_by
end_by false = below_by

-- R17, R18: the bound that it goes by
abbrev pub bound_of : Bool → ℕ → ℕ → ℤ
bound_of true = Hi
bound_of false = Lo

-- R17, R18: and so the test at a depth
abbrev pub end_at : Bool → Cell → ℕ → ℕ → Bool
end_at upper c d X = end_by upper c X (bound_of upper X d)

-- R17: whether X is an accepted lower end, by Lo
abbrev pub lower_end : Cell → ℕ → ℕ → Bool
lower_end = end_at false

-- R18: whether X is an accepted upper end, by Hi
abbrev pub upper_end : Cell → ℕ → ℕ → Bool
upper_end = end_at true
