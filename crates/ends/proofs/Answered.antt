-- What an end test entry answers: its code, and with code 0 whether the end is accepted. Assumes nothing.
use mathlib.Core.Path.{◌≡◌, refl, sym, ap, ◌∙◌}
use mathlib.Core.Bool.{Bool, true, false}
use mathlib.Core.List.{List}
use Prim.Native.Nat.{ℕ}
use native.Mathlib.Omega.{arith}
use lib.IntN.{ℤ}
use Rattle.grid.specs.Codes.{Check, Passed, checked}
use Rattle.grid.specs.Refuses.{Refuses}
use Rattle.grid.proofs.FirstCode.{goes}
use Rattle.grid.proofs.Refuses.{makes}
use Rattle.orbit.specs.Given.{Given}
use Rattle.ends.specs.Entry.{end_checks, end_refused, flagged, end_of, end_rule}
use Rattle.ends.specs.declared.End.{End}

pub flag_done : (t : Bool) → (flagged t).code ≡ 0
flag_done true = refl
flag_done false = refl

one_flag : (s t : Bool) → flagged s ≡ flagged t → s ≡ t
one_flag true true e = refl
one_flag true false e = let f = ap (λ (r : End). r.accepted) e in absurd (let z : ⊥ = omega arith in z)
one_flag false true e = let f = ap (λ (r : End). r.accepted) e in absurd (let z : ⊥ = omega arith in z)
one_flag false false e = refl

-- of any checks and any test
module _ (cs : List Check) (t : Bool) (m : Refuses cs (λ (r : End). r.code) end_refused (checked cs end_refused (flagged t))) where
  pub flag_given : Passed cs → checked cs end_refused (flagged t) ≡ flagged t
  flag_given p = goes cs p end_refused (flagged t)

  -- an answer says that the checks passed, and what the test was
  pub flag_known : (s : Bool) → checked cs end_refused (flagged t) ≡ flagged s → Passed cs × (t ≡ s)
  flag_known s e =
      let p = m.passed.0 (ap (λ (r : End). r.code) e ∙ flag_done s) in
      (p, one_flag t s (sym (flag_given p) ∙ e))

pub ends : (upper : Bool) (x : ℤ) (g : Given) (d : ℕ) → Refuses (end_checks x g d) (λ (r : End). r.code) end_refused (end_rule upper x g d)
ends upper x g d =
    let t = end_of upper g d x in
    makes (end_checks x g d) (λ (r : End). r.code) end_refused (flagged t) (flag_done t) (λ k. refl) tt
