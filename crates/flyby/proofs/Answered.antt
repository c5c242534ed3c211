-- How the entries refuse, and what they answer where their checks pass. Assumes nothing.
use mathlib.Core.Path.{◌≡◌, refl, sym, ap, subst, ◌∙◌}
use mathlib.Core.Bool.{Bool, true, false}
use mathlib.Core.List.{[], ◌∷◌}
use Prim.Native.Nat.{ℕ}
use borrow.Author.Tests.{le-ltb}
use lib.Dec.{T}
use Rattle.whole.proofs.Bools.{passes, fails}
use Rattle.grid.specs.Grid.{one}
use Rattle.grid.specs.Codes.{Passed}
use Rattle.grid.specs.Flyby.{M_top, B_top, X_top, X_check, flyby_checks}
use Rattle.grid.specs.Refuses.{Refuses}
use Rattle.grid.specs.declared.codes.Refusal.TheVariants.{BadA, BadX}
use Rattle.grid.proofs.FirstCode.{split}
use Rattle.grid.proofs.Fits.{limit_fits, span_passes}
use Rattle.grid.proofs.Refuses.{makes}
use Rattle.ends.specs.Entry.{end_refused, flagged}
use Rattle.ends.specs.declared.End.{End}
use Rattle.ends.proofs.Answered.{flag_done, flag_given, flag_known}
use Rattle.flyby.specs.Ends.{end_at}
use Rattle.flyby.specs.Entry.{end_checks, end_rule}
use Rattle.flyby.specs.Posed.{Asked}
use Rattle.flyby.proofs.Posed.{flyby_in}

pub tests : (upper : Bool) (x m b : ℕ) → Refuses (end_checks x m b) (λ (r : End). r.code) end_refused (end_rule upper x m b)
unfolding end_rule
tests upper x m b =
    let t = end_at upper m b x in
    makes (end_checks x m b) (λ (r : End). r.code) end_refused (flagged t) (flag_done t) (λ k. refl) tt

pub asked_in : (x m b : ℕ) → Passed (end_checks x m b) → Asked (record { mean = m; shape = b }) x
asked_in x m b p =
    let (posed, rest) = split (flyby_checks m b) (X_check x ∷ []) p in
    record { flyby = flyby_in m b posed; top = limit_fits x X_top BadX rest.0 }

-- and the other way round
asked_passed : (x m b : ℕ) → Asked (record { mean = m; shape = b }) x → Passed (end_checks x m b)
asked_passed x m b a =
    let f = a.flyby in
    (le-ltb M_top m f.mean, (span_passes b one B_top BadA f.least f.shape, (le-ltb X_top x a.top, tt)))

-- what an answer says: what was asked, and what the test was; and the answer from these
module _ (upper : Bool) (x m b : ℕ) where
  known : (t : Bool) → end_rule upper x m b ≡ flagged t → Asked (record { mean = m; shape = b }) x × (end_at upper m b x ≡ t)
  unfolding end_rule
  known t e =
      let (p, q) = flag_known (end_checks x m b) (end_at upper m b x) (tests upper x m b) t e in
      (asked_in x m b p, q)

  pub accepted_says : end_rule upper x m b ≡ flagged true → Asked (record { mean = m; shape = b }) x × T (end_at upper m b x)
  accepted_says e = let (a, t) = known true e in (a, subst T (sym t) tt)

  pub declined_says : end_rule upper x m b ≡ flagged false → Asked (record { mean = m; shape = b }) x × (T (end_at upper m b x) → ⊥)
  declined_says e = let (a, t) = known false e in (a, λ y. subst T t y)

  answered : Asked (record { mean = m; shape = b }) x → end_rule upper x m b ≡ flagged (end_at upper m b x)
  unfolding end_rule
  answered a = flag_given (end_checks x m b) (end_at upper m b x) (tests upper x m b) (asked_passed x m b a)

  pub accepts : Asked (record { mean = m; shape = b }) x → T (end_at upper m b x) → end_rule upper x m b ≡ flagged true
  accepts a t = answered a ∙ ap flagged (sym (passes (end_at upper m b x) t))

  pub declines : Asked (record { mean = m; shape = b }) x → (T (end_at upper m b x) → ⊥) → end_rule upper x m b ≡ flagged false
  declines a n = answered a ∙ ap flagged (sym (fails (end_at upper m b x) n))
