-- R64 and R65 for either sign of M: an estimate inside the enclosure is confirmed, one far outside of it refuted. Assumes nothing.
use mathlib.Core.Path.{◌≡◌, ap, subst, ◌∙◌}
use mathlib.Core.Bool.{Bool, true, false}
use mathlib.Core.List.{[], ◌∷◌}
use Prim.Native.Nat.{ℕ, ◌+◌, ◌-◌, ◌*◌, ◌≤◌, ◌<◌}
use native.Mathlib.Omega.{arith}
use native.Mathlib.Nat.{le_of_mul-le-mul_right}
use lib.Dec.{T}
use lib.IntN.{ℤ, pos, nat_abs, ◌+ℤ◌, ◌-ℤ◌, ◌*ℤ◌}
use lib.Signed.{◌≤ℤ◌}
use lib.Ieee.{Float}
use lib.Ieee.Positive.{den}
use Rattle.whole.specs.Sign.{negative}
use Rattle.whole.proofs.Parts.{Is, shift, is_pos, is_neg, is_add, is_minus, is_mul_right}
use Rattle.whole.proofs.Order.{le_parts}
use Rattle.grid.specs.Grid.{one, depths}
use Rattle.grid.specs.Codes.{Passed, n_check}
use Rattle.grid.proofs.FirstCode.{split}
use Rattle.orbit.specs.Cell.{grid_cell}
use Rattle.orbit.specs.Given.{grid, problem_checks}
use Rattle.orbit.specs.Cell.{Cell}
use Rattle.enclosure.specs.Enclosure.{found_lower, found_upper, mirror_ends}
use Rattle.enclosure.specs.declared.Enclosure.{Enclosure}
use Rattle.enclosure.proofs.Encloses.{Encloses, always}
use Rattle.units.specs.Units.{estimate_check}
use Rattle.units.specs.declared.Units.{Units}
use Rattle.judge.specs.Verdict.{refuted}
use Rattle.judge.specs.Judge.{estimate_of, claim_checks, case_at, verdict, judge_rule}
use Rattle.judge.specs.Limits.{CaseIn}
use Rattle.judge.specs.declared.Verdict.TheVariants.{Confirmed, Refuted}
use Rattle.judge.proofs.Kept.{never_both, verdict-confirmed, verdict-refuted}
use Rattle.judge.proofs.Answered.{claims, case_in, answered}
use Rattle.judge.proofs.Figures.{inside_confirmed, far_below, far_above}
use Rattle.distance.specs.Distance.{units_of}
use Rattle.promises.specs.SignedUnits.{enclosure_of, signed_floor, signed_ceiling, floor_of, ceiling_of, value_of, SignedRounded}
use Rattle.promises.specs.Figures.{claim_for}
use Rattle.promises.proofs.SignedUnits.{signed-rounded}
use Rattle.promises.proofs.Widths.{ends, found}

-- ---- the signed numbers, by those of the problem that was posed

module _ (A B : ℕ) (u : Units) where
  inside_parts : (mirrored : Bool) → (mirror_ends mirrored A B).lower ≤ℤ signed_floor mirrored u
      → signed_ceiling mirrored u ≤ℤ (mirror_ends mirrored A B).upper → (A ≤ u.floor) × (u.ceiling ≤ B)
  inside_parts false h k =
      let f = (le_parts (is_pos A) (is_pos u.floor)).0 h in
      let c = (le_parts (is_pos u.ceiling) (is_pos B)).0 k in
      (omega arith, omega arith)
  inside_parts true h k =
      let c = (le_parts (is_neg (is_pos B)) (is_neg (is_pos u.ceiling))).0 h in
      let f = (le_parts (is_neg (is_pos u.floor)) (is_neg (is_pos A))).0 k in
      (omega arith, omega arith)

-- z is P - Q, and 32 e / (1 - e) or more
distance : (a P Q : ℕ) {z : ℤ} → a < one → Is z P Q → pos (32 * a) ≤ℤ (z *ℤ pos (one - a))
    → (P ≡ Q + (P - Q)) × (32 * a ≤ (P - Q) * (one - a))
distance a P Q under i far =
    let h = (le_parts (is_pos (32 * a)) (is_mul_right (one - a) i)).0 far in
    let k : Q ≤ P = le_of_mul-le-mul_right {k = one - a} (omega arith) (omega arith) in
    let e : P ≡ Q + (P - Q) = omega arith in
    let p : (one - a) * P ≡ (one - a) * (Q + (P - Q)) = ap (λ (n : ℕ). (one - a) * n) e in
    (e, omega arith)

-- ---- a claim of code 0

module _ (m : ℤ) (a : ℕ) (x : Float) (n : ℕ) (z : (judge_rule (claim_for m a x n)).code ≡ 0) where
  abbrev cell : Cell
  cell = grid_cell (nat_abs m) a

  abbrev units : Units
  units = units_of (grid m a) x

  checks : Passed (claim_checks (claim_for m a x n))
  unfolding judge_rule
  checks = (claims (claim_for m a x n)).passed.0 z

  pub limits : CaseIn (case_at (claim_for m a x n))
  limits = case_in (claim_for m a x n) checks

  pub enclosed : (enclosure_of (grid m a)).code ≡ 0
  enclosed = always (grid m a) (split (problem_checks (grid m a) depths) (estimate_check (estimate_of (claim_for m a x n)) ∷ n_check n ∷ []) checks).0

  abbrev lower : ℕ
  lower = found_lower cell depths

  abbrev upper : ℕ
  upper = found_upper cell depths

  tight : Encloses cell depths
  tight = found m a enclosed

  pub confirmed : a < one → (enclosure_of (grid m a)).lower ≤ℤ floor_of (grid m a) x → ceiling_of (grid m a) x ≤ℤ (enclosure_of (grid m a)).upper
      → 1 ≤ n → 64 * a ≤ (n - 1) * (one - a) → judge_rule (claim_for m a x n) ≡ verdict Confirmed
  confirmed under low high some far =
      let (f, c) =
      inside_parts lower upper units (negative m)
      (subst (λ (r : Enclosure). r.lower ≤ℤ floor_of (grid m a) x) (ends m a enclosed) low) (subst (λ (r : Enclosure). ceiling_of (grid m a) x ≤ℤ r.upper) (ends m a enclosed) high) in
      answered (claim_for m a x n) checks
      ∙ ap verdict
      (verdict-confirmed cell units n depths
      (inside_confirmed (nat_abs m) a units n limits.problem.cell.mean (omega arith) lower upper
      tight.upper.within some far f c tight.lower.next tight.upper.next))

  refutes : T (refuted cell depths units n) → judge_rule (claim_for m a x n) ≡ verdict Refuted
  refutes t =
      answered (claim_for m a x n) checks
      ∙ ap verdict
      (verdict-refuted cell units n depths
      (λ s. never_both cell units n limits.problem.cell limits.units.ceiling depths depths (omega arith) (omega arith) s t) t)

  -- the distance from f + N + 1 up to the lower end of the problem that was posed, and from its upper end up to c - N - 1
  module _ (under : a < one) {y : ℤ} (far : pos (32 * a) ≤ℤ (y *ℤ pos (one - a))) where
    low_far : Is y lower (units.floor + (n + 1)) → judge_rule (claim_for m a x n) ≡ verdict Refuted
    low_far i =
        let (e, k) = distance a lower (units.floor + (n + 1)) under i far in
        let w = tight.lower.within in
        refutes
        (far_below (nat_abs m) a units n limits.problem.cell.mean (omega arith) lower
        (lower - (units.floor + (n + 1))) (omega arith) tight.lower.accepted (omega arith) k)

    high_far : Is y units.ceiling (upper + (n + 1)) → judge_rule (claim_for m a x n) ≡ verdict Refuted
    high_far i =
        let (e, k) = distance a units.ceiling (upper + (n + 1)) under i far in
        refutes
        (far_above (nat_abs m) a units n limits.problem.cell.mean (omega arith) upper
        (units.ceiling - (upper + (n + 1))) limits.units.ceiling tight.upper.accepted (omega arith) k)

  below_parts : (mirrored : Bool) → a < one
      → pos (32 * a)
      ≤ℤ (((mirror_ends mirrored lower upper).lower -ℤ (signed_floor mirrored units +ℤ pos (n + 1))) *ℤ pos (one - a))
      → judge_rule (claim_for m a x n) ≡ verdict Refuted
  below_parts false under far =
      low_far under far (shift (is_minus (is_pos lower) (is_add (is_pos units.floor) (is_pos (n + 1)))) (omega arith))
  below_parts true under far =
      high_far under far
      (shift (is_minus (is_neg (is_pos upper)) (is_add (is_neg (is_pos units.ceiling)) (is_pos (n + 1)))) (omega arith))

  above_parts : (mirrored : Bool) → a < one
      → pos (32 * a)
      ≤ℤ (((signed_ceiling mirrored units -ℤ pos (n + 1)) -ℤ (mirror_ends mirrored lower upper).upper) *ℤ pos (one - a))
      → judge_rule (claim_for m a x n) ≡ verdict Refuted
  above_parts false under far =
      high_far under far
      (shift (is_minus (is_minus (is_pos units.ceiling) (is_pos (n + 1))) (is_pos upper)) (omega arith))
  above_parts true under far =
      low_far under far
      (shift (is_minus (is_minus (is_neg (is_pos units.floor)) (is_pos (n + 1))) (is_neg (is_pos lower))) (omega arith))

  pub refuted_below : a < one → pos (32 * a) ≤ℤ (((enclosure_of (grid m a)).lower -ℤ (floor_of (grid m a) x +ℤ pos (n + 1))) *ℤ pos (one - a))
      → judge_rule (claim_for m a x n) ≡ verdict Refuted
  refuted_below under far =
      below_parts (negative m) under
      (subst (λ (r : Enclosure). pos (32 * a) ≤ℤ ((r.lower -ℤ (floor_of (grid m a) x +ℤ pos (n + 1))) *ℤ pos (one - a))) (ends m a enclosed) far)

  pub refuted_above : a < one → pos (32 * a) ≤ℤ (((ceiling_of (grid m a) x -ℤ pos (n + 1)) -ℤ (enclosure_of (grid m a)).upper) *ℤ pos (one - a))
      → judge_rule (claim_for m a x n) ≡ verdict Refuted
  refuted_above under far =
      above_parts (negative m) under
      (subst (λ (r : Enclosure). pos (32 * a) ≤ℤ (((ceiling_of (grid m a) x -ℤ pos (n + 1)) -ℤ r.upper) *ℤ pos (one - a))) (ends m a enclosed) far)

  pub rounded : SignedRounded x (value_of (grid m a) x) (den x) (floor_of (grid m a) x) (ceiling_of (grid m a) x)
  rounded = signed-rounded (grid m a) x checks.1.1.1.0
