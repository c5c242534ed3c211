-- `distance::posed_off` meets its contract: the checks of M and A, the estimate's, then the searches.
use Rattle.std.proofs.Common.{◌≡◌, [], ◌∷◌, sym, ap, ap₂, ◌∙◌}
use Rattle.std.specs.Prelude.{Ok, Float}
use Rattle.grid.specs.Grid.{T_units, depths}
use Rattle.grid.specs.declared.codes.Refusal.TheVariants.{BadEstimate}
use Rattle.grid.proofs.FirstCode.{made, passes}
use Rattle.units.specs.Units.{estimate_check, mirror_double, coded_units}
use Rattle.units.specs.declared.Units.{Units}
use Rattle.orbit.specs.Cell.{Cell}
use Rattle.orbit.specs.Given.{Given, checks_of, mirrored_of, cell_of, coded_cell}
use Rattle.orbit.specs.declared.pose.Posed.{Posed}
use Rattle.enclosure.specs.declared.Found.{Found}
use Rattle.enclosure.specs.Enclosure.{found_lower, found_upper, found_ends}
use Rattle.distance.specs.Distance.{off_by, units_of, distance_known}
use Rattle.distance.proofs.posed_off.Goals as goal

-- what was posed, the estimate, mirrored with it and rounded, and the ends that were found
answered : (g : Given) (x : Float) (posed : Posed Cell) (u : Units) (found : Found)
    → coded_cell g ≡ Ok posed
    → coded_units (mirror_double posed.mirrored x) T_units BadEstimate ≡ Ok u
    → found ≡ found_ends posed.of depths
    → Ok (off_by found u) ≡ distance_known g x
answered g x posed u found cell estimate ends =
    let (passed, is) = made _ (checks_of g) cell in
    let e = ap (λ (p : Posed Cell). coded_units (mirror_double p.mirrored x) T_units BadEstimate) (sym is) ∙ estimate in
    let check = estimate_check (mirror_double (mirrored_of g) x) in
    let (fits, rounded) = made (units_of g x) (check ∷ []) e in
    let off = off_by (found_ends (cell_of g) depths) (units_of g x) in
    ap Ok (ap₂ off_by (ends ∙ ap (λ (p : Posed Cell). found_ends p.of depths) is) rounded)
    ∙ sym (passes off (checks_of g) (check ∷ []) passed ∙ passes off (check ∷ []) [] fits)

pub returns : goal.returns
unfolding found_lower found_upper
returns g c =
    ap Ok c.off_by.ensures
    ∙ answered (g.G.Given.given c.args.given) c.args.estimate _ _ _ (sym c.pose.ensures ∙ c.in_ok-posed.was)
    (rw c.mirror-value.ensures at (sym c.in_units.ensures ∙ c.in_ok-u.was)) c.find_ends-found.ensures
