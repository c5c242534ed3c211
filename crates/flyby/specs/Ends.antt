-- The two end tests of a flyby, R85, of M and B in units, and what they say of the exact sum, R86.
use Rattle.std.specs.Prelude.{ℕ, ◌+◌, ◌*◌, ◌≤◌, Bool, true, false, leb}
use Rattle.grid.specs.Grid.{one}
use Rattle.sinh.specs.Sinh.{low, high, S, t9, den_s}

-- R85: whether X is accepted as an upper end, `true`, by low, or as a lower one, by high
unfoldable pub end_at : Bool → ℕ → ℕ → ℕ → Bool
end_at true m b X = leb (one * (X + m)) (b * low X)
end_at false m b X = leb (b * high X) (one * (X + m))

-- R86: what an accepted upper end meets, X + M <= e S(X), and a lower one, X + M >= e (S(X) + t_9(X)): multiplied out by 2^28 denS
abbrev pub Meets : Bool → ℕ → ℕ → ℕ → Type 0
Meets true m b X = one * den_s * (X + m) ≤ b * S X
Meets false m b X = b * (S X + t9 X) ≤ one * den_s * (X + m)
