-- The grid of a flyby, R81: the greatest of each letter, and the checks by these limits, R5.
use Rattle.std.specs.Prelude.{ℕ, List, [], ◌∷◌}
use Rattle.grid.specs.Grid.{one}
use Rattle.grid.specs.Codes.{Check, limit_check, span_check}
use Rattle.grid.specs.declared.codes.Refusal.TheVariants.{BadM, BadA, BadX}

-- R81: the greatest M, 2^31 - 1
abbrev pub M_top : ℕ
M_top = 2147483647

-- R81: the greatest B, 2^30; the least is `one`, e = 1
abbrev pub B_top : ℕ
B_top = 1073741824

-- R81: the greatest X, 2^29
abbrev pub X_top : ℕ
X_top = 536870912

-- R81: code 10, an X beyond the top
abbrev pub X_check : ℕ → Check
X_check x = limit_check x X_top BadX

-- R81: codes 1 and 2, M beyond its limit, and B below `one` or beyond its limit
abbrev pub flyby_checks : ℕ → ℕ → List Check
flyby_checks m b = limit_check m M_top BadM ∷ span_check b one B_top BadA ∷ []
