-- Flybys, R81 to R89, over what their entries answer: what the second demand says of them, and what holds of flybys alone.
use Rattle.std.specs.Prelude.{◌≡◌, Bool, true, false, ◌⊎◌, ◌↔◌, ℕ, ◌+◌, ◌-◌, ◌*◌, ◌^◌, ◌≤◌, ◌<◌, pos, nat_abs, ◌*ℤ◌, ◌≤ℤ◌}
use Rattle.std.specs.Float.Ieee.{neg}
use Rattle.grid.specs.Grid.{one, N_units}
use Rattle.grid.specs.Codes.{number, done, failed, Passed}
use Rattle.grid.specs.declared.codes.Refusal.TheVariants.{NoFlybyEnd}
use Rattle.grid.specs.Flyby.{M_top, B_top, X_top}
use Rattle.series.specs.Factorial.{factorial}
use Rattle.series.specs.declared.Bounds.{Bounds}
use Rattle.units.specs.Units.{floor_and_ceiling}
use Rattle.ends.specs.Entry.{flagged}
use Rattle.enclosure.specs.declared.Enclosure.{Enclosure}
use Rattle.judge.specs.Judge.{verdict}
use Rattle.judge.specs.Exact.{ConfirmedSays, AboveSays, BelowSays}
use Rattle.judge.specs.declared.Verdict.TheVariants.{Confirmed, Refuted}
use Rattle.sinh.specs.Sinh.{low, high, S, t9, den_s}
use Rattle.sinh.specs.Entry.{sinh_rule}
use Rattle.flyby.specs.Ends.{Meets}
use Rattle.flyby.specs.Entry.{end_rule}
use Rattle.flyby_enclosure.specs.Enclosure.{enclosure_rule}
use Rattle.flyby_judge.specs.Judge.{Claim, claim_of, claim_checks, judge_rule}
use Rattle.step.specs.Step.{plus_zero}

-- R83: of what `flyby_sinh` returns with code 0, by the exact sum of all-positive terms 0 to 9, and with its last term once more
pub record SinhTrue (x : ℕ) (r : Bounds) : Type 0 where
  pub low : (r.lo *ℤ pos den_s) ≤ℤ pos (S x)
  pub high : pos (S x + t9 x) ≤ℤ (r.hi *ℤ pos den_s)

-- one unit further in than an end, `true` for an upper one
abbrev pub further : Bool → ℕ → ℕ
further true X = X - 1
further false X = X + 1

-- R88: an end that was returned
pub record FlybyEnd (upper : Bool) (m b X : ℕ) : Type 0 where
  -- R86: the exact inequality
  pub exact : Meets upper m b X
  -- R56: it is accepted
  pub accepted : end_rule upper X m b ≡ flagged true
  -- one unit further in is not; an upper end 0 has no such unit
  pub next : ((upper ≡ true) × (X ≡ 0)) ⊎ (end_rule upper (further upper X) m b ≡ flagged false)

-- R88: of what `flyby_enclose` returns with code 0; neither end is below 0
pub record FlybyEnds (m b : ℕ) (r : Enclosure) : Type 0 where
  pub lower_sign : r.lower ≡ pos (nat_abs r.lower)
  pub upper_sign : r.upper ≡ pos (nat_abs r.upper)
  pub lower : FlybyEnd false m b (nat_abs r.lower)
  pub upper : FlybyEnd true m b (nat_abs r.upper)
  pub order : nat_abs r.lower ≤ nat_abs r.upper

-- R89: of a confirmed claim the exact inequalities at p and at q
abbrev pub FlybyConfirmed : Claim → Type 0
FlybyConfirmed k = ConfirmedSays (Meets false k.m k.b) (Meets true k.m k.b) X_top (floor_and_ceiling k.estimate) k.n

-- R89: of a refuted one the exact inequality at f + N + 1 or at c - N - 1
abbrev pub FlybyRefuted : Claim → Type 0
FlybyRefuted k =
    AboveSays (Meets false k.m k.b) X_top (floor_and_ceiling k.estimate) k.n
    ⊎ BelowSays (Meets true k.m k.b) (floor_and_ceiling k.estimate) k.n

-- R81: M and B within their limits
pub record Within (m b : ℕ) : Type 0 where
  pub mean : m ≤ M_top
  pub least : one ≤ b
  pub shape : b ≤ B_top

pub record Flybys : Type 0 where
  -- R83: 2^28 t_9 is X^19 over (2^56)^9 19!
  pub denominator : den_s ≡ (one * one) ^ 9 * factorial 19
  pub numerator : (X : ℕ) → t9 X ≡ X ^ 19
  -- R82: both bounds are 0 at 0, elsewhere low is below high, and neither is above what high is at the top
  pub nothing : sinh_rule 0 ≡ record { code = number done; lo = pos 0; hi = pos 0 }
  pub below : (X : ℕ) → 0 < X → low X < high X
  pub most : (X : ℕ) → X ≤ X_top → high X ≤ 973577934
  -- R85: so no product of an end test reaches 2^60, which is 1152921504606846976
  pub level : (m X : ℕ) → m ≤ M_top → X ≤ X_top → one * (X + m) ≤ 720575940110843904
  pub product : (b X : ℕ) → b ≤ B_top → X ≤ X_top → b * high X ≤ 1045371346659311616
  -- R86: e S(x) - x rises with x, for e from 1 up
  pub rises : (b Y X : ℕ) → one ≤ b → Y < X → one * den_s * X + b * S Y < one * den_s * Y + b * S X
  -- R86: accepted ends are unbroken runs
  pub lower_run : (x y m b : ℕ) → y ≤ x → end_rule false x m b ≡ flagged true → end_rule false y m b ≡ flagged true
  pub upper_run : (x y m b : ℕ) → y ≤ x → x ≤ X_top → end_rule true y m b ≡ flagged true → end_rule true x m b ≡ flagged true
  -- R88: the searches start fairly: 0 is always a lower end, and the top is none where it is an upper one
  pub zero_lower : (m b : ℕ) → Within m b → end_rule false 0 m b ≡ flagged true
  pub top_never : (m b : ℕ) → end_rule true X_top m b ≡ flagged true → end_rule false X_top m b ≡ flagged false
  -- R87: 0 is an upper end where M is 0, and only there
  pub zero_upper : (m b : ℕ) → Within m b → end_rule true 0 m b ≡ flagged true ↔ m ≡ 0
  -- R87: and at no other X are both ends accepted
  pub one_side : (x m b : ℕ) → 0 < x → end_rule true x m b ≡ flagged true → end_rule false x m b ≡ flagged false
  -- R88: code 15 is given exactly where the top is no upper end
  pub fifteen : (m b : ℕ) → (enclosure_rule m b).code ≡ number (failed NoFlybyEnd) ↔ end_rule true X_top m b ≡ flagged false
  -- R88: an enclosure has every accepted end: the lower ones are those up to its lower end, the upper ones those from its upper end
  pub all_lower : (m b x : ℕ) → (enclosure_rule m b).code ≡ number done → end_rule false x m b ≡ flagged true
      → x ≤ nat_abs (enclosure_rule m b).lower
  pub all_upper : (m b x : ℕ) → (enclosure_rule m b).code ≡ number done → end_rule true x m b ≡ flagged true
      → nat_abs (enclosure_rule m b).upper ≤ x
  -- R89: a greater tolerance keeps Confirmed, and a lesser one Refuted
  pub wider : (k : Claim) (n : ℕ) → k.n ≤ n → n ≤ N_units → judge_rule k ≡ verdict Confirmed
      → judge_rule (claim_of k.m k.b k.estimate n) ≡ verdict Confirmed
  pub narrower : (k : Claim) (n : ℕ) → n ≤ k.n → judge_rule k ≡ verdict Refuted
      → judge_rule (claim_of k.m k.b k.estimate n) ≡ verdict Refuted
  -- R89: an estimate between the ends of the enclosure is Confirmed with every tolerance from their distance up
  pub inside : (k : Claim) → (enclosure_rule k.m k.b).code ≡ number done → Passed (claim_checks k)
      → nat_abs (enclosure_rule k.m k.b).lower ≤ (floor_and_ceiling k.estimate).floor
      → (floor_and_ceiling k.estimate).ceiling ≤ nat_abs (enclosure_rule k.m k.b).upper
      → nat_abs (enclosure_rule k.m k.b).upper ≤ nat_abs (enclosure_rule k.m k.b).lower + k.n
      → judge_rule k ≡ verdict Confirmed
  -- R41: either zero as an estimate is 0
  pub either_zero : (m b n : ℕ) → judge_rule (claim_of m b (neg plus_zero) n) ≡ judge_rule (claim_of m b plus_zero n)
