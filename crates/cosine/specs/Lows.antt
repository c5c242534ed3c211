-- Lo of sine and of cosine at depth 5, as the code makes them. No entry's contract cites this file.
use Rattle.std.specs.Prelude.{◌≡◌, ℕ, ◌≤◌, suc}
use Rattle.grid.specs.Grid.{T_units, depths}
use Rattle.series.specs.Sine.{sine, Lo}
use Rattle.series.specs.Walk.{biased, walk, InRange}
use Rattle.cosine.specs.Cosine.{cosine, CosLo}
use Rattle.cosine.specs.declared.lows.Lows.{Lows}
use Rattle.cosine.specs.declared.lows.Walks.{Walks}

abbrev pub lows_at : ℕ → Lows
lows_at X = record { sine = biased (Lo X depths); cosine = biased (CosLo X depths) }

-- both walks, after n pairs
abbrev pub walks : ℕ → ℕ → Walks
walks X n = record { sine = walk sine X n; cosine = walk cosine X n }

-- before the first pair, with the limits of both
pub record Begun (X : ℕ) (w : Walks) : Type 0 where
  pub at : w ≡ walks X 0
  pub top : X ≤ T_units
  pub sine : InRange sine X
  pub cosine : InRange cosine X

-- both walks one pair further
abbrev pub further : Walks → Walks
further w =
    record { sine = walk sine w.sine.angle (suc w.sine.pairs); cosine = walk cosine w.cosine.angle (suc w.cosine.pairs) }
