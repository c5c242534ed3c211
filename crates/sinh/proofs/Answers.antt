-- How the entry refuses, and what it answers where its check passes. Assumes nothing.
use mathlib.Core.Path.{◌≡◌, refl}
use Prim.Native.Nat.{ℕ, ◌≤◌}
use borrow.Author.Tests.{le-ltb}
use Rattle.grid.specs.Codes.{Passed}
use Rattle.grid.specs.Flyby.{X_top}
use Rattle.grid.specs.Refuses.{Refuses}
use Rattle.grid.specs.declared.codes.Refusal.TheVariants.{BadX}
use Rattle.grid.proofs.FirstCode.{goes}
use Rattle.grid.proofs.Fits.{limit_fits}
use Rattle.grid.proofs.Refuses.{makes}
use Rattle.series.specs.Entry.{no_bounds}
use Rattle.series.specs.declared.Bounds.{Bounds}
use Rattle.sinh.specs.Entry.{sinh_checks, sinh_of, sinh_rule}

pub sinhs : (x : ℕ) → Refuses (sinh_checks x) (λ (r : Bounds). r.code) no_bounds (sinh_rule x)
unfolding sinh_rule
sinhs x = makes (sinh_checks x) (λ (r : Bounds). r.code) no_bounds (sinh_of x) refl (λ k. refl) tt

-- an X whose check passed is within its limit
pub sinh_in : (x : ℕ) → Passed (sinh_checks x) → x ≤ X_top
sinh_in x p = limit_fits x X_top BadX p.0

pub sinh_within : (x : ℕ) → x ≤ X_top → sinh_rule x ≡ sinh_of x
unfolding sinh_rule
sinh_within x h = goes (sinh_checks x) (le-ltb X_top x h, tt) no_bounds (sinh_of x)
