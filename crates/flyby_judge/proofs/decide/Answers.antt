-- `flyby_judge::decide` meets its contract: every check passed, so that what is decided is the claim's own.
use Rattle.std.proofs.Common.{[], ◌∷◌, sym, ap, ◌∙◌, Ok}
use Rattle.grid.specs.Codes.{n_check}
use Rattle.grid.specs.Flyby.{X_top, flyby_checks}
use Rattle.grid.specs.declared.codes.Refusal.TheVariants.{BadEstimate}
use Rattle.grid.proofs.FirstCode.{made, passes, join}
use Rattle.units.specs.Units.{range_check, floor_and_ceiling}
use Rattle.units.proofs.Rounding.{range_fits}
use Rattle.flyby_judge.specs.Judge.{claim_of, claim_checks}
use Rattle.flyby_judge.specs.Decision.{decision}
use Rattle.flyby_judge.proofs.Answered.{decision_is}
use Rattle.flyby_judge.proofs.decide.Goals as goal

pub invariant_of-case-clause-within : goal.invariant_of-case-clause-within
invariant_of-case-clause-within c =
    let x = c.args.estimate in
    let u = made (floor_and_ceiling x) (range_check x X_top BadEstimate ∷ []) (sym c.in_units.ensures ∙ c.in_ok-units.was) in
    rw u.1 (range_fits x X_top BadEstimate u.0.0)

pub returns : goal.returns
returns c =
    let k = claim_of c.args.given.m c.args.given.b c.args.estimate c.args.n in
    let rest = range_check k.estimate X_top BadEstimate ∷ n_check k.n ∷ [] in
    let f = made (record { mean = k.m; shape = k.b }) (flyby_checks k.m k.b) (sym c.try_from.ensures ∙ c.in_ok-tested.was) in
    let u = made (floor_and_ceiling k.estimate) (range_check k.estimate X_top BadEstimate ∷ []) (sym c.in_units.ensures ∙ c.in_ok-units.was) in
    let n = made k.n (n_check k.n ∷ []) (sym c.try_from-2.ensures ∙ c.in_ok-tolerance.was) in
    ap Ok (rw (f.1, u.1, n.1) at c.decide.ensures ∙ decision_is k)
    ∙ sym (passes (decision k) (claim_checks k) [] (join (flyby_checks k.m k.b) rest f.0 (u.0.0, (n.0.0, tt))))
