-- What a distance says, R68 and R69, for either sign of M, and that it contradicts no verdict, R70. Assumes nothing.
use mathlib.Core.Path.{◌≡◌, refl, ap, subst, ◌∙◌}
use mathlib.Core.Bool.{Bool, true, false}
use mathlib.Core.List.{[], ◌∷◌}
use mathlib.Core.Logic.{◌⊎◌, inl, inr, ⊎_elim}
use Prim.Native.Nat.{ℕ, ◌+◌, ◌-◌, ◌*◌, ◌≤◌, ◌<◌}
use native.Mathlib.Omega.{arith}
use native.Mathlib.Nat.{mul-le-mul_left, add_comm}
use lib.Dec.{T}
use lib.IntN.{ℤ, pos}
use lib.Signed.{◌<ℤ◌}
use lib.Ieee.{Float}
use lib.Ieee.Positive.{den}
use Rattle.whole.proofs.Parts.{plus, minus, own, shift, is_pos, is_neg, is_minus, is_mul_right, is_size}
use Rattle.whole.proofs.Order.{le_parts, lt_parts, one_number, greater_is}
use Rattle.grid.specs.Grid.{T_units, depths}
use Rattle.grid.specs.Codes.{Passed, depth_check}
use Rattle.grid.proofs.FirstCode.{goes, join}
use Rattle.grid.proofs.Outcomes.{of_checked}
use Rattle.units.specs.Units.{product}
use Rattle.units.specs.Exact.{Rounded}
use Rattle.units.specs.declared.Units.{Units}
use Rattle.orbit.specs.Mirror.{mirror}
use Rattle.orbit.specs.Given.{Given, mirrored_of, cell_of, checks_of}
use Rattle.orbit.specs.Cell.{Cell}
use Rattle.ends.specs.Ends.{lower_end, upper_end}
use Rattle.ends.proofs.Apart.{apart}
use Rattle.enclosure.specs.Enclosure.{found_lower, found_upper, found_ends, mirror_ends}
use Rattle.enclosure.specs.declared.Enclosure.{Enclosure}
use Rattle.enclosure.specs.declared.Found.{Found}
use Rattle.enclosure.proofs.Encloses.{Encloses, always, code_zero, encloses}
use Rattle.judge.specs.Verdict.{low_end, high_end}
use Rattle.judge.specs.Judge.{Claim, claim_of, case_at, verdict, judge_rule}
use Rattle.judge.specs.Limits.{CaseIn}
use Rattle.judge.specs.declared.Verdict.{Verdict}
use Rattle.judge.specs.declared.Verdict.TheVariants.{Confirmed, Refuted}
use Rattle.judge.specs.Settle.{settled_as, settle_rule}
use Rattle.judge.proofs.Kept.{is_confirmed, is_refuted, confirmed_by_lem, refuted_by_lem}
use Rattle.judge.proofs.Answered.{to_judged, case_in, judged_passed, answer_case}
use Rattle.judge.proofs.SettleAnswers.{at_last}
use Rattle.distance.specs.Distance.{least_off, most_off, off_by, off_as, units_of, no_distance, distance_checks, distance_rule}
use Rattle.distance.specs.declared.Off.{Off}
use Rattle.distance.proofs.Answered.{distances}
use Rattle.distance.proofs.Apart as off
use Rattle.claims.specs.Form.{twenty}
use Rattle.claims.specs.Record.{claim_at}
use Rattle.promises.specs.SignedUnits.{enclosure_of, signed_floor, signed_ceiling, value_of}
use Rattle.promises.specs.Distance.{OffBy, Between, gap, OffTrue, Distance}
use Rattle.promises.proofs.SignedUnits.{size_rounded, signed-rounded}
use Rattle.promises.proofs.Demand2.{demand_2}
use Rattle.promises.proofs.Bytes.{byte_judged}

-- ---- the signed numbers, by those of the problem that was posed

-- a number from least to most times w
abbrev Apart : Found → Units → ℕ → ℕ → Type 0
Apart r u w n = (least_off r u * w ≤ n) × (n ≤ most_off r u * w)

module _ (r : Found) (u : Units) where
  -- R68
  module _ (order : r.a ≤ r.b) (rounded : u.floor ≤ u.ceiling) where
    off_parts : (mirrored : Bool) → OffBy (mirror_ends mirrored r.a r.b) (signed_floor mirrored u) (signed_ceiling mirrored u) (off_as (off_by r u))
    off_parts false =
        let below = is_minus (is_pos r.a) (is_pos u.ceiling) in
        let above = is_minus (is_pos u.floor) (is_pos r.b) in
        let from-a = is_minus (is_pos u.ceiling) (is_pos r.a) in
        let from-b = is_minus (is_pos r.b) (is_pos u.floor) in
        record {
          least = one_number (is_pos (least_off r u)) (shift (greater_is (greater_is below above) (is_pos 0)) (omega arith));
          most = one_number (is_pos (most_off r u)) (shift (greater_is from-a from-b) (omega arith));
        }
    off_parts true =
        let below = is_minus (is_neg (is_pos r.b)) (is_neg (is_pos u.floor)) in
        let above = is_minus (is_neg (is_pos u.ceiling)) (is_neg (is_pos r.a)) in
        let from-b = is_minus (is_neg (is_pos u.floor)) (is_neg (is_pos r.b)) in
        let from-a = is_minus (is_neg (is_pos r.a)) (is_neg (is_pos u.ceiling)) in
        record {
          least = one_number (is_pos (least_off r u)) (shift (greater_is (greater_is below above) (is_pos 0)) (omega arith));
          most = one_number (is_pos (most_off r u)) (shift (greater_is from-b from-a) (omega arith));
        }

  -- R69: beyond an end
  beyond_parts : (mirrored : Bool) → (u.ceiling < r.a) ⊎ (r.b < u.floor)
      → let ends = mirror_ends mirrored r.a r.b in (signed_ceiling mirrored u <ℤ ends.lower) ⊎ (ends.upper <ℤ signed_floor mirrored u)
  beyond_parts false s =
      ⊎_elim (λ h. inl ((lt_parts (is_pos u.ceiling) (is_pos r.a)).1 (omega arith)))
      (λ h. inr ((lt_parts (is_pos r.b) (is_pos u.floor)).1 (omega arith))) s
  beyond_parts true s =
      ⊎_elim (λ h. inr ((lt_parts (is_neg (is_pos r.a)) (is_neg (is_pos u.ceiling))).1 (omega arith)))
      (λ h. inl ((lt_parts (is_neg (is_pos u.floor)) (is_neg (is_pos r.b))).1 (omega arith))) s

  -- R69: p / q between the ends, and the estimate, which is e / t
  module _ (e t : ℕ) (low : u.floor * t ≤ e) (high : e ≤ u.ceiling * t) (p : ℤ) (q : ℕ) where
    gap_parts : (mirrored : Bool) → Between (mirror_ends mirrored r.a r.b) p q → Apart r u (q * t) (gap (mirror mirrored (pos e)) t p q)
    gap_parts false b =
        let X = t * plus p + q * 0 in
        let Y = t * minus p + q * e in
        let above : X + u.floor * (q * t) ≤ Y + r.b * (q * t) =
        omega (arith, mul-le-mul_left t ((le_parts (own p) (is_mul_right q (is_pos r.b))).0 b.upper), mul-le-mul_left q low) in
        let below : Y + r.a * (q * t) ≤ X + u.ceiling * (q * t) =
        omega (arith, mul-le-mul_left t ((le_parts (is_mul_right q (is_pos r.a)) (own p)).0 b.lower), mul-le-mul_left q high) in
        rw (is_size _ (is_minus (is_mul_right t (own p)) (is_mul_right q (is_pos e))))
        (off.at_least r u (q * t) X Y above below, off.at_most r u (q * t) X Y above below)
    gap_parts true b =
        let X = t * plus p + q * e in
        let Y = t * minus p + q * 0 in
        let above : Y + u.floor * (q * t) ≤ X + r.b * (q * t) =
        omega (arith, mul-le-mul_left t ((le_parts (is_mul_right q (is_neg (is_pos r.b))) (own p)).0 b.lower), mul-le-mul_left q low) in
        let below : X + r.a * (q * t) ≤ Y + u.ceiling * (q * t) =
        omega (arith, mul-le-mul_left t ((le_parts (own p) (is_mul_right q (is_neg (is_pos r.a)))).0 b.upper), mul-le-mul_left q high) in
        rw (is_size _ (is_minus (is_mul_right t (own p)) (is_mul_right q (is_neg (is_pos e)))), add_comm (X - Y) (Y - X))
        (off.at_least r u (q * t) Y X above below, off.at_most r u (q * t) Y X above below)

-- ---- what the answer says

module _ (g : Given) (x : Float) (checks : Passed (distance_checks g x)) where
  abbrev found : Found
  found = found_ends (cell_of g) depths

  -- a distance is given
  answer : distance_rule g x ≡ off_as (off_by found (units_of g x))
  unfolding distance_rule
  answer = goes (distance_checks g x) checks no_distance (off_as (off_by found (units_of g x)))

  enclosed : (enclosure_of g).code ≡ 0
  enclosed = always g (join (checks_of g) (depth_check depths ∷ []) (checks.0, (checks.1.0, tt)) (refl, tt))

  tight : Encloses (cell_of g) depths
  tight = encloses g depths enclosed

  ends_are : enclosure_of g ≡ mirror_ends (mirrored_of g) found.a found.b
  ends_are = (code_zero g depths enclosed).ends

  size : Rounded (product x) (den x) (units_of g x).floor (units_of g x).ceiling
  size = size_rounded g x checks.1.1.0

  between : (p : ℤ) (q : ℕ) → Between (enclosure_of g) p q → Apart found (units_of g x) (q * den x) (gap (value_of g x) (den x) p q)
  between p q b =
      gap_parts found (units_of g x) (product x) (den x) size.floor_least size.ceiling_least p q (mirrored_of g)
      (subst (λ (r : Enclosure). Between r p q) ends_are b)

  off_true : OffTrue g x (distance_rule g x)
  off_true =
      let t = mirrored_of g in
      let u = units_of g x in
      let true-ends = demand_2.enclose g depths enclosed in
      record {
        enclosed = enclosed;
        rounded = signed-rounded g x checks.1.1.0;
        off_by = rw (answer, ends_are) (off_parts found u tight.order size.ordered t);
        ends = true-ends;
        at_least = λ p q b. rw answer (between p q b).0;
        at_most = λ p q b. rw answer (between p q b).1;
        beyond = λ some.
            ⊎_elim (λ h. inl (h, true-ends.lower.exact)) (λ h. inr (h, true-ends.upper.exact))
            (rw ends_are (beyond_parts found u t (off.beyond found u (rw answer at some))));
      }

-- ---- no verdict is contradicted

-- the ends that are found, beside those of the claim
module _ (c : Claim) (v : Verdict) (h : judge_rule c ≡ verdict v) where
  passed : Passed (distance_checks c.given c.estimate)
  passed = let p = judged_passed c v h in (p.0, (p.1.0, (p.1.1.1.0, tt)))

  limits : CaseIn (case_at c)
  limits = case_in c (judged_passed c v h)

  abbrev cell : Cell
  cell = cell_of c.given

  -- a lower end of the claim is not above b, and an upper one not below a
  not_above : (X : ℕ) → X ≤ T_units → T (lower_end cell c.depth X) → X ≤ found_upper cell depths
  not_above X top accepted =
      let u = (tight c.given c.estimate passed).upper in
      let p = limits.problem in
      apart cell X (found_upper cell depths) c.depth depths p.cell top u.within p.depth.few (omega arith) accepted u.accepted

  not_below : (Y : ℕ) → Y ≤ T_units → T (upper_end cell c.depth Y) → found_lower cell depths ≤ Y
  not_below Y top accepted =
      let l = (tight c.given c.estimate passed).lower in
      let w = l.within in
      let p = limits.problem in
      apart cell (found_lower cell depths) Y depths c.depth p.cell (omega arith) top (omega arith) p.depth.few l.accepted accepted

confirmed : (c : Claim) → judge_rule c ≡ verdict Confirmed → (distance_rule c.given c.estimate).least ≤ c.n
confirmed c h =
    let u = (case_at c).units in
    let top = (limits c Confirmed h).units.ceiling in
    let checks = passed c Confirmed h in
    let s = (confirmed_by_lem (cell_of c.given) u c.n c.depth).0 (is_confirmed (cell_of c.given) u c.n c.depth (answer_case c Confirmed h)) in
    let above = not_above c Confirmed h (low_end u c.n) (omega arith) s.0 in
    let below = not_below c Confirmed h (high_end u c.n) (omega arith) s.1 in
    let rounded = (size c.given c.estimate checks).ordered in
    rw (answer c.given c.estimate checks) (omega arith)

refuted : (c : Claim) → judge_rule c ≡ verdict Refuted → c.n < (distance_rule c.given c.estimate).most
refuted c h =
    let u = (case_at c).units in
    let top = (limits c Refuted h).units.ceiling in
    rw (answer c.given c.estimate (passed c Refuted h))
    (⊎_elim (λ r. let w = r.within in let k = not_above c Refuted h (u.floor + c.n + 1) w r.lower in omega arith)
    (λ r. let w = r.within in let k = not_below c Refuted h (u.ceiling - (c.n + 1)) (omega arith) r.upper in omega arith)
    ((refuted_by_lem (cell_of c.given) u c.n c.depth).0 (is_refuted (cell_of c.given) u c.n c.depth (answer_case c Refuted h))))

-- ---- all of it

in_order : (g : Given) (x : Float) → (distance_rule g x).least ≤ (distance_rule g x).most
unfolding distance_rule
in_order g x =
    of_checked (λ (r : Off). r.least ≤ r.most) no_distance (off_as (off_by (found_ends (cell_of g) depths) (units_of g x))) (distance_checks g x)
    (λ e. omega arith, (λ e. omega arith, (λ e. omega arith, tt)))
    (λ p. off.in_order (found_ends (cell_of g) depths) (units_of g x) (tight g x p).order (size g x p).ordered)

-- a settled verdict is the judge's at depth 5
settled : (g : Given) (x : Float) (n d : ℕ) (v : Verdict) → settle_rule g x n ≡ settled_as v d → judge_rule (claim_of g x n depths) ≡ verdict v
settled g x n d v e = at_last g x n ∙ ap to_judged e

pub distance : Distance
unfolding distance_rule
distance =
    record {
      off = λ g x z. off_true g x ((distances g x).passed.0 z);
      in_order = in_order;
      confirmed = confirmed;
      refuted = refuted;
      settled_confirmed = λ g x n d e. confirmed (claim_of g x n depths) (settled g x n d Confirmed e);
      settled_refuted = λ g x n d e. refuted (claim_of g x n depths) (settled g x n d Refuted e);
      byte_confirmed = λ claims i e. confirmed (claim_at twenty claims i) (byte_judged claims i Confirmed e);
      byte_refuted = λ claims i e. refuted (claim_at twenty claims i) (byte_judged claims i Refuted e);
    }
