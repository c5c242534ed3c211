-- What the entry answers: its codes, and with code 0 the distances. Assumes nothing.
use mathlib.Core.Path.{refl}
use lib.Ieee.{Float}
use Rattle.grid.specs.Grid.{depths}
use Rattle.grid.specs.Refuses.{Refuses}
use Rattle.grid.proofs.Refuses.{makes}
use Rattle.orbit.specs.Given.{Given, cell_of}
use Rattle.enclosure.specs.Enclosure.{found_ends}
use Rattle.distance.specs.Distance.{off_by, off_as, units_of, no_distance, distance_checks, distance_rule}
use Rattle.distance.specs.declared.Off.{Off}

pub distances : (g : Given) (x : Float) → Refuses (distance_checks g x) (λ (r : Off). r.code) no_distance (distance_rule g x)
unfolding distance_rule
distances g x =
    makes (distance_checks g x) (λ (r : Off). r.code) no_distance (off_as (off_by (found_ends (cell_of g) depths) (units_of g x))) refl
    (λ k. refl) tt
