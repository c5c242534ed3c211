-- What the entry's answer says: its code, and with code 0 that both ends are accepted, one unit further in neither is, and a
-- is not above b. Acceptance is not one unbroken run of X, and nothing here needs it. Assumes nothing.
use mathlib.Core.Path.{◌≡◌, refl, sym, ap, subst}
use mathlib.Core.Bool.{Bool, true, false, not}
use mathlib.Core.Logic.{⊎_elim}
use mathlib.Core.List.{[], ◌∷◌}
use Prim.Native.Nat.{ℕ, suc, ◌-◌, ◌≤◌}
use native.Mathlib.Omega.{arith}
use native.Mathlib.Nat.{lt_of_not-le}
use borrow.Author.Tests.{le-ltb}
use lib.Dec.{T, T_not, lit≤, lit<}
use lib.IntN.{ℤ, pos, negsuc, nat_abs}
use Rattle.whole.proofs.Bools.{passes, not_failed}
use Rattle.grid.specs.Grid.{H_units, T_units, depths}
use Rattle.grid.specs.Codes.{Passed, checked, limit_check, a_check, depth_check}
use Rattle.grid.specs.Refuses.{Refuses}
use Rattle.grid.specs.declared.codes.Refusal.TheVariants.{BadM}
use Rattle.grid.proofs.FirstCode.{goes, split, only_last, join}
use Rattle.grid.proofs.Refuses.{makes}
use Rattle.orbit.specs.Cell.{Cell, grid_cell, CellIn}
use Rattle.orbit.specs.Given.{Given, grid, mirrored_of, cell_of, problem_checks, problem_at, ProblemIn}
use Rattle.orbit.proofs.Posed.{problem_in}
use Rattle.ends.specs.Ends.{lower_end, upper_end}
use Rattle.ends.proofs.Apart.{apart}
use Rattle.ends.proofs.Corners.{deeper}
use Rattle.ends.proofs.Known.{zero_lower, T_never, T_upper, circle_lower, circle_upper}
use Rattle.enclosure.specs.declared.Enclosure.{Enclosure}
use Rattle.enclosure.specs.Enclosure.{T_check, enclosure_checks, refusal, found_lower, found_upper, mirror_ends, enclosed, enclosure_rule}
use Rattle.enclosure.proofs.Searches.{LowerFound, UpperFound, lower_found, upper_found, lower_rises, upper_falls}

-- ---- which code is given

mirrored_done : (mirrored : Bool) (a b : ℕ) → (mirror_ends mirrored a b).code ≡ 0
mirrored_done true a b = refl
mirrored_done false a b = refl

pub enclosures : (g : Given) (d : ℕ) → Refuses (enclosure_checks g d) (λ (e : Enclosure). e.code) refusal (enclosure_rule g d)
enclosures g d =
    makes (enclosure_checks g d) (λ (e : Enclosure). e.code) refusal (enclosed (mirrored_of g) (cell_of g) d)
    (mirrored_done (mirrored_of g) _ _) (λ k. refl) tt

-- what code 0 says: the problem is within its limits, T is an upper end, and both ends are the searches'
pub record CodeZero (g : Given) (d : ℕ) : Type 0 where
  pub problem : ProblemIn (problem_at (cell_of g) d)
  pub top : T (upper_end (cell_of g) d T_units)
  pub ends : enclosure_rule g d ≡ enclosed (mirrored_of g) (cell_of g) d

pub code_zero : (g : Given) (d : ℕ) → (enclosure_rule g d).code ≡ 0 → CodeZero g d
code_zero g d z =
    let all = (enclosures g d).passed.0 z in
    let (p, q) = split (problem_checks g d) (T_check (cell_of g) d ∷ []) all in
    record {
      problem = problem_in g d p;
      top = not_failed (upper_end (cell_of g) d T_units) (λ n. subst T q.0 n);
      ends = goes (enclosure_checks g d) all refusal (enclosed (mirrored_of g) (cell_of g) d);
    }

-- R28: no code 6 from depth 4 on
pub never_six : (g : Given) (d : ℕ) → 4 ≤ d → (enclosure_rule g d).code ≡ 6 → ⊥
never_six g d h six =
    let (p, q) =
    only_last 6 (problem_checks g d) (T_check (cell_of g) d) tt (((enclosures g d).coded 6 (λ e. omega arith)).0 six) in
    let i = (problem_in g d p).cell.mean in
    T_not (upper_end (cell_of g) d T_units) (subst T (sym q) tt) (T_upper (cell_of g) d (omega arith) h)

-- R28: so depth 5 encloses every problem
pub always : (g : Given) → Passed (problem_checks g depths) → (enclosure_rule g depths).code ≡ 0
always g p =
    let i = (problem_in g depths p).cell.mean in
    let t = T_upper (cell_of g) depths (omega arith) (omega arith) in
    (enclosures g depths).passed.1
    (join (problem_checks g depths) (T_check (cell_of g) depths ∷ []) p (sym (ap not (passes (upper_end (cell_of g) depths T_units) t)), tt))

-- ---- R29

pub record Encloses (c : Cell) (d : ℕ) : Type 0 where
  pub lower : LowerFound (lower_end c d) T_units (found_lower c d)
  pub upper : UpperFound (upper_end c d) T_units (found_upper c d)
  pub order : found_lower c d ≤ found_upper c d

module _ (c : Cell) (d : ℕ) where
  pub lower_end_lem : CellIn c → d ≤ depths → LowerFound (lower_end c d) T_units (found_lower c d)
  unfolding found_lower
  lower_end_lem i few = lower_found (lower_end c d) T_units (lit< tt) (lit≤ tt) (zero_lower c d) (T_never c d i few)

  pub upper_end_lem : T (upper_end c d T_units) → UpperFound (upper_end c d) T_units (found_upper c d)
  unfolding found_upper
  upper_end_lem t = upper_found (upper_end c d) T_units (lit< tt) (lit≤ tt) t

pub encloses : (g : Given) (d : ℕ) → (enclosure_rule g d).code ≡ 0 → Encloses (cell_of g) d
encloses g d z =
    let s = code_zero g d z in
    let i = s.problem.cell in
    let few = s.problem.depth.few in
    let l = lower_end_lem (cell_of g) d i few in
    let u = upper_end_lem (cell_of g) d s.top in
    let w = l.within in
    record { lower = l; upper = u; order = apart (cell_of g) _ _ d d i (omega arith) u.within few few l.accepted u.accepted }

-- R30: a does not fall and b does not rise as the depth grows
pub deeper_within : (c : Cell) (d e : ℕ) → d ≤ e → (found_lower c d ≤ found_lower c e) × (found_upper c e ≤ found_upper c d)
unfolding found_lower found_upper
deeper_within c d e h = (
  lower_rises (lower_end c d) (lower_end c e) (λ x. deeper false c x h) T_units (lit< tt),
  upper_falls (upper_end c d) (upper_end c e) (λ x. deeper true c x h) T_units (lit< tt),
)

-- ---- R32: a circle, A = 0

module _ (m d : ℕ) (h : m ≤ H_units) where
  circle_in : CellIn (grid_cell m 0)
  circle_in = record { means = omega arith; mean = h; shapes = omega arith; shape = omega arith }

  circle_a : d ≤ depths → found_lower (grid_cell m 0) d ≡ m
  circle_a r =
      let x = found_lower (grid_cell m 0) d in
      let f = lower_end_lem (grid_cell m 0) d circle_in r in
      let k = (circle_lower m d x).0 f.accepted in
      let n : suc x ≤ m → ⊥ = λ w. T_not (lower_end (grid_cell m 0) d (suc x)) f.next ((circle_lower m d (suc x)).1 w) in
      let w = lt_of_not-le n in
      omega arith

  is_yes : (t : Bool) → T t → t ≡ true
  is_yes true y = refl
  is_yes false y = absurd y

  circle_top : T (upper_end (grid_cell m 0) d T_units)
  circle_top = (circle_upper m d T_units).1 (omega arith)

  circle_b : found_upper (grid_cell m 0) d ≡ m
  circle_b =
      let x = found_upper (grid_cell m 0) d in
      let f = upper_end_lem (grid_cell m 0) d circle_top in
      let k = (circle_upper m d x).0 f.accepted in
      ⊎_elim (λ z. omega arith)
      (λ z.
      let n : m ≤ x - 1 → ⊥ = λ w. T_not (upper_end (grid_cell m 0) d (x - 1)) z ((circle_upper m d (x - 1)).1 w) in
      let w = lt_of_not-le n in
      omega arith)
      f.next

  -- with the sign of M
  circle_checked : (mirrored : Bool) → 1 ≤ d → d ≤ depths
      → checked (limit_check m H_units BadM ∷ a_check 0 ∷ depth_check d ∷ T_check (grid_cell m 0) d ∷ []) refusal (enclosed mirrored (grid_cell m 0) d)
      ≡ mirror_ends mirrored m m
  circle_checked mirrored l r =
      simp (le-ltb H_units m h, le-ltb d 1 l, le-ltb depths d r, is_yes (upper_end (grid_cell m 0) d T_units) circle_top, circle_a r, circle_b)

-- R32: of a circle both ends are M
pub circle : (m : ℤ) (d : ℕ) → nat_abs m ≤ H_units → 1 ≤ d → d ≤ depths → enclosure_rule (grid m 0) d ≡ record { code = 0; lower = m; upper = m }
circle (pos m) d h = circle_checked m d h false
circle (negsuc m) d h = circle_checked (suc m) d h true
