-- What an end test entry's answer says of the test, for either end and either sign of M. Assumes nothing.
use mathlib.Core.Path.{◌≡◌, sym, ap, subst, ◌∙◌}
use mathlib.Core.Bool.{Bool, true, false, not}
use mathlib.Core.List.{[], ◌∷◌}
use Prim.Native.Nat.{ℕ, ◌≤◌}
use lib.Dec.{T, T_not}
use lib.IntN.{ℤ, pos, nat_abs}
use Rattle.whole.proofs.Bools as test
use Rattle.whole.proofs.CodeRoom.{size_sign}
use Rattle.grid.specs.Grid.{T_units, depths}
use Rattle.grid.specs.Codes.{Passed, signed_x_check}
use Rattle.grid.proofs.FirstCode.{split, join}
use Rattle.orbit.specs.Mirror.{mirror, mirror_end}
use Rattle.orbit.specs.Given.{Given, grid, mirrored_of, cell_of, problem_checks, problem_at, ProblemIn}
use Rattle.orbit.proofs.Posed.{problem_in}
use Rattle.ends.specs.Ends.{end_at}
use Rattle.ends.specs.Entry.{flagged, end_checks, end_of, end_rule}
use Rattle.ends.specs.Exact.{EndExact, EndSpare}
use Rattle.ends.proofs.Answered.{flag_given, flag_known, ends}
use Rattle.ends.proofs.Mirror.{twice, end_true, spare_accepted}
use Rattle.promises.proofs.Mirror.{Side, side_of, check_side, side_checks}

-- an answer of code 0: the problem's checks passed, and X is the mirror of an angle in range
pub record Posed (X : ℤ) (g : Given) (d : ℕ) : Type 0 where
  pub checks : Passed (problem_checks g d)
  pub problem : ProblemIn (problem_at (cell_of g) d)
  pub side : Side (mirrored_of g) X

posed : (X : ℤ) (g : Given) (d : ℕ) → Passed (end_checks X g d) → Posed X g d
posed X g d checks =
    let (p, q) = split (problem_checks g d) (signed_x_check (mirror (mirrored_of g) X) ∷ []) checks in
    record { checks = p; problem = problem_in g d p; side = check_side (mirrored_of g) X q.0 }

module _ (upper : Bool) (X : ℤ) (g : Given) (d : ℕ) where
  answered : Passed (problem_checks g d) → Side (mirrored_of g) X → end_rule upper X g d ≡ flagged (end_of upper g d X)
  answered p s =
      flag_given (end_checks X g d) (end_of upper g d X) (ends upper X g d)
      (join (problem_checks g d) (signed_x_check (mirror (mirrored_of g) X) ∷ []) p (side_checks (mirrored_of g) X s, tt))

  known : (t : Bool) → end_rule upper X g d ≡ flagged t → Posed X g d × (end_of upper g d X ≡ t)
  known t e = let k = flag_known (end_checks X g d) (end_of upper g d X) (ends upper X g d) t e in (posed X g d k.0, k.1)

  -- what an answer says: what was asked, and what the test was
  pub accepted_says : end_rule upper X g d ≡ flagged true → Posed X g d × T (end_of upper g d X)
  accepted_says e = let k = known true e in (k.0, subst T (sym k.1) tt)

  pub declined_says : end_rule upper X g d ≡ flagged false → Posed X g d × (T (end_of upper g d X) → ⊥)
  declined_says e = let k = known false e in (k.0, λ t. subst T k.1 t)

  -- and the answer from these
  pub accepts : Passed (problem_checks g d) → Side (mirrored_of g) X → T (end_of upper g d X) → end_rule upper X g d ≡ flagged true
  accepts p s t = answered p s ∙ ap flagged (sym (test.passes (end_of upper g d X) t))

  -- R19
  pub exact_says : end_rule upper X g d ≡ flagged true → EndExact upper g X
  exact_says e =
      let (f, t) = accepted_says e in
      let s = f.side in
      subst (EndExact upper g) (sym s.sign)
      (subst (λ (u : Bool). EndExact u g (mirror (mirrored_of g) (pos (nat_abs X)))) (twice (mirrored_of g) upper)
      (end_true (mirror_end (mirrored_of g) upper) g (nat_abs X) s.angle d f.problem.depth.few t))

-- R20, on the grid
pub spare_says : (upper : Bool) (X m : ℤ) (a : ℕ) → end_rule upper X (grid m a) depths ≡ flagged false
    → EndSpare upper (grid m a) X → ⊥
spare_says upper X m a e h =
    let g = grid m a in
    let (f, n) = declined_says upper X g depths e in
    let s = f.side in
    n
    (spare_accepted (mirror_end (mirrored_of g) upper) m a (nat_abs X) s.angle
    (subst (λ (u : Bool). EndSpare u g (mirror (mirrored_of g) (pos (nat_abs X)))) (sym (twice (mirrored_of g) upper))
    (subst (EndSpare upper g) s.sign h)))

-- ---- an end of the problem that was posed, mirrored back

module _ (upper : Bool) (X : ℕ) (g : Given) (d : ℕ) (p : Passed (problem_checks g d)) (h : X ≤ T_units) where
  mirrored_answer : end_rule (mirror_end (mirrored_of g) upper) (mirror (mirrored_of g) (pos X)) g d ≡ flagged (end_at upper (cell_of g) d X)
  mirrored_answer =
      answered (mirror_end (mirrored_of g) upper) (mirror (mirrored_of g) (pos X)) g d p (side_of (mirrored_of g) X h)
      ∙ rw (twice (mirrored_of g) upper, size_sign (not (mirrored_of g)) (pos X))

  pub accepts_at : T (end_at upper (cell_of g) d X) → end_rule (mirror_end (mirrored_of g) upper) (mirror (mirrored_of g) (pos X)) g d ≡ flagged true
  accepts_at t = mirrored_answer ∙ ap flagged (sym (test.passes (end_at upper (cell_of g) d X) t))

  pub declines_at : T (not (end_at upper (cell_of g) d X))
      → end_rule (mirror_end (mirrored_of g) upper) (mirror (mirrored_of g) (pos X)) g d ≡ flagged false
  declines_at t =
      mirrored_answer ∙ ap flagged (sym (test.fails (end_at upper (cell_of g) d X) (T_not (end_at upper (cell_of g) d X) t)))
