-- How the code adds the terms up, of either kind. No entry's contract cites this file.
use Rattle.std.specs.Prelude.{Bool, true, false, ℕ, ◌*◌}
use Rattle.whole.specs.Round.{rounded}
use Rattle.grid.specs.Grid.{one}
use Rattle.series.specs.Terms.{l, u}
use Rattle.series.specs.Sine.{sine}
use Rattle.sinh.specs.Sinh.{total}
use Rattle.sinh.specs.declared.Added.{Added}

-- the square in units, `true` for what is rounded up
abbrev pub square : Bool → ℕ → ℕ
square above X = rounded above (X * X) one

abbrev pub terms : Bool → ℕ → ℕ → ℕ
terms true = u sine
terms false = l sine

-- the term k, and the sum of all up to it
abbrev pub added_to : Bool → ℕ → ℕ → Added
added_to above X k = record { term = terms above X k; sum = total (terms above X) k }
