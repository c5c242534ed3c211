-- What is known of a flyby whose checks pass. Assumes nothing.
use Prim.Native.Nat.{ℕ}
use Rattle.grid.specs.Grid.{one}
use Rattle.grid.specs.Codes.{Passed}
use Rattle.grid.specs.Flyby.{M_top, B_top, flyby_checks}
use Rattle.grid.specs.declared.codes.Refusal.TheVariants.{BadM, BadA}
use Rattle.grid.proofs.Fits.{limit_fits, span_fits}
use Rattle.flyby.specs.Posed.{FlybyIn}

pub flyby_in : (m b : ℕ) → Passed (flyby_checks m b) → FlybyIn (record { mean = m; shape = b })
flyby_in m b p =
    let w = span_fits b one B_top BadA p.1.0 in
    record { mean = limit_fits m M_top BadM p.0; least = w.0; shape = w.1 }
