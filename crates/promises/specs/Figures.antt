-- How narrow an enclosure is, and what it takes to be confirmed or refuted: R63 to R66, over what the entries answer to an M of
-- either sign and an A of the grid, at depth 5.
use Rattle.std.specs.Prelude.{◌≡◌, cond, ◌↔◌, ℕ, ◌+◌, ◌-◌, ◌*◌, ◌≤◌, ◌<◌, ltb, leb, ℤ, pos, ◌+ℤ◌, ◌-ℤ◌, ◌*ℤ◌, ◌≤ℤ◌, ◌<ℤ◌, Float}
use Rattle.std.specs.Float.Ieee.Positive.{den}
use Rattle.whole.specs.Round.{down, up}
use Rattle.grid.specs.Grid.{one, depths, N_units}
use Rattle.grid.specs.Codes.{number, done}
use Rattle.orbit.specs.Given.{grid}
use Rattle.enclosure.specs.declared.Enclosure.{Enclosure}
use Rattle.judge.specs.Judge.{Claim, claim_of, verdict, judge_rule}
use Rattle.judge.specs.declared.Verdict.TheVariants.{Confirmed, Refuted}
use Rattle.promises.specs.SignedUnits.{enclosure_of, floor_of, ceiling_of, value_of, SignedRounded}

-- R63: how far apart the ends of an enclosure are
abbrev pub width_of : Enclosure → ℤ
width_of r = r.upper -ℤ r.lower

-- R64: an estimate and a tolerance at depth 5
abbrev pub claim_for : ℤ → ℕ → Float → ℕ → Claim
claim_for m a x n = claim_of (grid m a) x n depths

-- R66: the greatest width that R63 allows, and 0 where there is none; at A = 0 the difference of naturals is 0
abbrev pub greatest_width : ℕ → ℕ
greatest_width a = cond (ltb a one) (2 + down (64 * a - 1) (one - a)) 0

-- R66: a tolerance within its limit, or 0
abbrev pub tolerable : ℕ → ℕ
tolerable n = cond (leb n N_units) n 0

-- R66: the least N of R64, and 0 where there is none
abbrev pub least_n : ℕ → ℕ
least_n a = cond (ltb a one) (tolerable (1 + up (64 * a) (one - a))) 0

pub record Figures : Type 0 where
  -- R63
  pub width : (m : ℤ) (a : ℕ) → a < one → (enclosure_of (grid m a)).code ≡ number done → pos 2 <ℤ width_of (enclosure_of (grid m a))
      → ((width_of (enclosure_of (grid m a)) -ℤ pos 2) *ℤ pos (one - a)) <ℤ pos (64 * a)
  -- R63: for e up to one half
  pub half : (m : ℤ) (a : ℕ) → 2 * a ≤ one → (enclosure_of (grid m a)).code ≡ number done → width_of (enclosure_of (grid m a)) ≤ℤ pos 65
  -- R64
  pub confirmed : (m : ℤ) (a : ℕ) (x : Float) (n : ℕ) → a < one → (judge_rule (claim_for m a x n)).code ≡ number done
      → (enclosure_of (grid m a)).lower ≤ℤ floor_of (grid m a) x → ceiling_of (grid m a) x ≤ℤ (enclosure_of (grid m a)).upper
      → 1 ≤ n → 64 * a ≤ (n - 1) * (one - a) → judge_rule (claim_for m a x n) ≡ verdict Confirmed
  -- R65: below the lower end, and above the upper one
  pub refuted_below : (m : ℤ) (a : ℕ) (x : Float) (n : ℕ) → a < one → (judge_rule (claim_for m a x n)).code ≡ number done
      → pos (32 * a) ≤ℤ (((enclosure_of (grid m a)).lower -ℤ (floor_of (grid m a) x +ℤ pos (n + 1))) *ℤ pos (one - a))
      → judge_rule (claim_for m a x n) ≡ verdict Refuted
  pub refuted_above : (m : ℤ) (a : ℕ) (x : Float) (n : ℕ) → a < one → (judge_rule (claim_for m a x n)).code ≡ number done
      → pos (32 * a) ≤ℤ (((ceiling_of (grid m a) x -ℤ pos (n + 1)) -ℤ (enclosure_of (grid m a)).upper) *ℤ pos (one - a))
      → judge_rule (claim_for m a x n) ≡ verdict Refuted
  -- R64, R65: with code 0 the enclosure is one too, and f and c are the estimate's own
  pub enclosed : (m : ℤ) (a : ℕ) (x : Float) (n : ℕ) → (judge_rule (claim_for m a x n)).code ≡ number done → (enclosure_of (grid m a)).code ≡ number done
  pub rounded : (m : ℤ) (a : ℕ) (x : Float) (n : ℕ) → (judge_rule (claim_for m a x n)).code ≡ number done
      → SignedRounded x (value_of (grid m a) x) (den x) (floor_of (grid m a) x) (ceiling_of (grid m a) x)
  -- R66: the figures are what R63 and R64 allow, no more and no less
  pub greatest : (a w : ℕ) → a < one → 2 < w → (w - 2) * (one - a) < 64 * a ↔ w ≤ greatest_width a
  pub least : (a n : ℕ) → a < one → 1 ≤ n → n ≤ N_units → 64 * a ≤ (n - 1) * (one - a) ↔ (0 < least_n a) × (least_n a ≤ n)
  pub none : (a : ℕ) → one ≤ a → (greatest_width a ≡ 0) × (least_n a ≡ 0)
  -- R63, R66: so no width is above its figure, and an N from the least on confirms
  pub narrow : (m : ℤ) (a : ℕ) → a < one → (enclosure_of (grid m a)).code ≡ number done → width_of (enclosure_of (grid m a)) ≤ℤ pos (greatest_width a)
  pub enough : (m : ℤ) (a : ℕ) (x : Float) (n : ℕ) → a < one → (judge_rule (claim_for m a x n)).code ≡ number done
      → (enclosure_of (grid m a)).lower ≤ℤ floor_of (grid m a) x → ceiling_of (grid m a) x ≤ℤ (enclosure_of (grid m a)).upper
      → 0 < least_n a → least_n a ≤ n → judge_rule (claim_for m a x n) ≡ verdict Confirmed
