-- `pose` of doubles: what passed its checks makes a cell within its limits.
use Rattle.std.proofs.Common.{◌≡◌, [], ◌∷◌, sym, ◌∙◌}
use Rattle.grid.specs.Grid.{one, H_units}
use Rattle.grid.specs.declared.codes.Refusal.TheVariants.{BadM, BadA}
use Rattle.grid.proofs.FirstCode.{made}
use Rattle.units.specs.Units.{floor_and_ceiling, range_check}
use Rattle.orbit.specs.Given.{doubles, size_of}
use Rattle.orbit.proofs.Posed.{cell_in}
use Rattle.orbit.proofs.pose.DoublesGiven.pose.Goals as goal

pub invariant_of-result : goal.invariant_of-result
invariant_of-result c =
    let m = c.args.self.m in
    let e = c.args.self.e in
    let size : c.mirror-size.result ≡ size_of m = rw c.is_below_zero-mirrored.ensures at c.mirror-size.ensures in
    let (p, f) = made (floor_and_ceiling c.mirror-size.result) (range_check c.mirror-size.result H_units BadM ∷ []) (sym c.in_units.ensures ∙ c.in_ok-m.was) in
    let (q, g) = made (floor_and_ceiling e) (range_check e one BadA ∷ []) (sym c.in_units-2.ensures ∙ c.in_ok-a.was) in
    rw (f, g, size) (cell_in (doubles m e) (rw size at p.0, q))
