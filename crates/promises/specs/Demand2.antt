-- The second demand, over what the entries return: R14, R15, R19, R20, R29, R38 and what verdicts say, for either sign of M and
-- whatever was given. `EndExact` has R19's inequalities in exact fractions, of every M and A that what was given leaves possible.
use Rattle.std.specs.Prelude.{◌≡◌, Bool, true, false, List, ◌⊎◌, ℕ, ◌≤◌, ◌<◌, ℤ, pos, nat_abs, ◌+ℤ◌, ◌-ℤ◌, ◌*ℤ◌, ◌≤ℤ◌, Float}
use Rattle.grid.specs.Grid.{T_units, depths}
use Rattle.grid.specs.Codes.{number, done}
use Rattle.series.specs.Terms.{Series}
use Rattle.series.specs.Exact.{S, den}
use Rattle.series.specs.Sine.{sine}
use Rattle.series.specs.Entry.{sine_rule}
use Rattle.series.specs.declared.Bounds.{Bounds}
use Rattle.cosine.specs.Cosine.{cosine, cosine_rule}
use Rattle.orbit.specs.Mirror.{mirror, mirror_end}
use Rattle.orbit.specs.Given.{Given, grid, mirrored_of, cell_of}
use Rattle.ends.specs.Exact.{EndExact, ExactAt, EndSpare}
use Rattle.ends.specs.Entry.{flagged, end_rule, lower_rule, upper_rule}
use Rattle.enclosure.specs.Enclosure.{enclosure_rule}
use Rattle.enclosure.specs.declared.Enclosure.{Enclosure}
use Rattle.proposal.specs.Certify.{low_at, high_at, certifies, widths, Smallest}
use Rattle.proposal.specs.Propose.{proposal_rule}
use Rattle.proposal.specs.declared.Proposal.{Proposal}
use Rattle.judge.specs.Verdict.{verdict_number}
use Rattle.judge.specs.Judge.{Claim, claim_of, case_at, verdict, judge_rule}
use Rattle.judge.specs.Settle.{settled_as, settle_rule}
use Rattle.judge.specs.declared.Verdict.TheVariants.{Confirmed, Refuted}
use Rattle.judge.specs.Exact.{ConfirmedExact, AboveExact, BelowExact}
use Rattle.step.specs.Entry.{judged_rule}
use Rattle.sinh.specs.Entry.{sinh_rule}
use Rattle.flyby.specs.Ends.{Meets}
use Rattle.flyby.specs.Entry as flyby
use Rattle.flyby_enclosure.specs.Enclosure as flyby_enclosure
use Rattle.flyby_judge.specs.Judge as flyby_claims
use Rattle.claims.specs.Form.{twenty}
use Rattle.claims.specs.Record.{claim_at}
use Rattle.promises.specs.Demand1.{batch_of}
use Rattle.promises.specs.Rules.{Rules, byte_after}
use Rattle.promises.specs.Flybys.{SinhTrue, FlybyEnds, FlybyConfirmed, FlybyRefuted}

-- R14, R72: of what `sine` and `cosine` return with code 0, by the exact sums of terms 0 to 9 and 0 to 10
pub record BoundsTrue (s : Series) (x : ℕ) (r : Bounds) : Type 0 where
  pub low : (r.lo *ℤ pos (den s 9)) ≤ℤ S s x 9
  pub high : S s x 10 ≤ℤ (r.hi *ℤ pos (den s 10))

-- one unit further in than an end, `true` for an upper one
abbrev pub inward : Bool → ℤ → ℤ
inward true X = X -ℤ pos 1
inward false X = X +ℤ pos 1

-- R29: an end that was returned
pub record EndTrue (upper : Bool) (g : Given) (d : ℕ) (X : ℤ) : Type 0 where
  -- R19: the exact inequality
  pub exact : EndExact upper g X
  -- R56: it is accepted
  pub accepted : end_rule upper X g d ≡ flagged true
  -- one unit further in is not; an upper end 0 has no such unit, or for a negative M a lower end 0, as it would oppose M
  pub next : ((mirror_end (mirrored_of g) upper ≡ true) × (X ≡ pos 0)) ⊎ (end_rule upper (inward upper X) g d ≡ flagged false)

-- of what `enclose` returns with code 0
pub record EndsTrue (g : Given) (d : ℕ) (r : Enclosure) : Type 0 where
  pub lower : EndTrue false g d r.lower
  pub upper : EndTrue true g d r.upper
  -- R29: the lower end does not lie above the upper
  pub order : r.lower ≤ℤ r.upper

-- R59: an end of the problem that was posed, mirrored back, is accepted at depth 5
abbrev pub AcceptedAt : Bool → Given → ℕ → Type 0
AcceptedAt upper g X = end_rule (mirror_end (mirrored_of g) upper) (mirror (mirrored_of g) (pos X)) g depths ≡ flagged true

-- of what `propose` returns with code 0, by the size E of the angle
pub record Certified (g : Given) (r : Proposal) : Type 0 where
  -- R37: E is brought into 0 to T; R59: and the angle has M's sign
  pub within : nat_abs r.angle ≤ T_units
  pub sign : r.angle ≡ mirror (mirrored_of g) (pos (nat_abs r.angle))
  -- R19: the exact inequalities at the two ends that j names
  pub lower : ExactAt false g (low_at (nat_abs r.angle) r.j)
  pub upper : ExactAt true g (high_at (nat_abs r.angle) r.j)
  -- R38, R56: both accepted at depth 5
  pub low_accepted : AcceptedAt false g (low_at (nat_abs r.angle) r.j)
  pub high_accepted : AcceptedAt true g (high_at (nat_abs r.angle) r.j)
  -- R38: the smallest j from 0 to 30, and the only one
  pub smallest : Smallest (certifies (cell_of g) (nat_abs r.angle)) widths r.j
  pub only : (j : ℕ) → Smallest (certifies (cell_of g) (nat_abs r.angle)) widths j → j ≡ r.j

-- R43: of a confirmed claim the exact inequalities at p and at q
abbrev pub ConfirmedTrue : Claim → Type 0
ConfirmedTrue c = ConfirmedExact c.given (case_at c).units c.n

-- R44: of a refuted one the exact inequality at f + N + 1 or at c - N - 1
abbrev pub RefutedTrue : Claim → Type 0
RefutedTrue c = AboveExact c.given (case_at c).units c.n ⊎ BelowExact c.given (case_at c).units c.n

pub record Demand2 : Type 0 where
  -- R14
  pub sine : (x d : ℕ) → (sine_rule x d).code ≡ number done → BoundsTrue sine x (sine_rule x d)
  -- R15
  pub width : (x : ℕ) → (sine_rule x depths).code ≡ number done
      → (sine_rule x depths).hi ≤ℤ ((sine_rule x depths).lo +ℤ pos 32)
  -- R72
  pub cosine : (x d : ℕ) → (cosine_rule x d).code ≡ number done → BoundsTrue cosine x (cosine_rule x d)
  -- R73
  pub cosine_width : (x : ℕ) → (cosine_rule x depths).code ≡ number done
      → (cosine_rule x depths).hi ≤ℤ ((cosine_rule x depths).lo +ℤ pos 26)
  -- R19
  pub lower : (x : ℤ) (g : Given) (d : ℕ) → lower_rule x g d ≡ flagged true → EndExact false g x
  pub upper : (x : ℤ) (g : Given) (d : ℕ) → upper_rule x g d ≡ flagged true → EndExact true g x
  -- R20, on the grid: not accepted at depth 5, so it has not 32 e units to spare
  pub lower_spare : (x m : ℤ) (a : ℕ) → lower_rule x (grid m a) depths ≡ flagged false → EndSpare false (grid m a) x → ⊥
  pub upper_spare : (x m : ℤ) (a : ℕ) → upper_rule x (grid m a) depths ≡ flagged false → EndSpare true (grid m a) x → ⊥
  -- R29: the returned ends
  pub enclose : (g : Given) (d : ℕ) → (enclosure_rule g d).code ≡ number done → EndsTrue g d (enclosure_rule g d)
  -- R38
  pub propose : (g : Given) → (proposal_rule g).code ≡ number done → Certified g (proposal_rule g)
  -- R43, R44: the ends of a verdict, from the judge, from `settle` and from a batch
  pub confirmed : (c : Claim) → judge_rule c ≡ verdict Confirmed → ConfirmedTrue c
  pub refuted : (c : Claim) → judge_rule c ≡ verdict Refuted → RefutedTrue c
  pub settled_confirmed : (g : Given) (x : Float) (n d : ℕ) → settle_rule g x n ≡ settled_as Confirmed d → ConfirmedTrue (claim_of g x n d)
  pub settled_refuted : (g : Given) (x : Float) (n d : ℕ) → settle_rule g x n ≡ settled_as Refuted d → RefutedTrue (claim_of g x n d)
  -- and of the new estimate of a judged step
  pub step_confirmed : (m : ℤ) (a : ℕ) (x : Float) (method n d : ℕ) → (judged_rule m a x method n d).verdict ≡ verdict_number Confirmed
      → ConfirmedTrue (claim_of (grid m a) (judged_rule m a x method n d).estimate n d)
  pub step_refuted : (m : ℤ) (a : ℕ) (x : Float) (method n d : ℕ) → (judged_rule m a x method n d).verdict ≡ verdict_number Refuted
      → RefutedTrue (claim_of (grid m a) (judged_rule m a x method n d).estimate n d)
  pub byte_confirmed : (claims answers : List ℕ) (i : ℕ) → i < (batch_of claims answers).count
      → byte_after claims answers i ≡ verdict_number Confirmed → ConfirmedTrue (claim_at twenty claims i)
  pub byte_refuted : (claims answers : List ℕ) (i : ℕ) → i < (batch_of claims answers).count
      → byte_after claims answers i ≡ verdict_number Refuted → RefutedTrue (claim_at twenty claims i)
  -- R83, R86, R88 and R89: of a flyby
  pub flyby_sinh : (x : ℕ) → (sinh_rule x).code ≡ number done → SinhTrue x (sinh_rule x)
  pub flyby_lower : (x m b : ℕ) → flyby.lower_rule x m b ≡ flagged true → Meets false m b x
  pub flyby_upper : (x m b : ℕ) → flyby.upper_rule x m b ≡ flagged true → Meets true m b x
  pub flyby_enclose : (m b : ℕ) → (flyby_enclosure.enclosure_rule m b).code ≡ number done → FlybyEnds m b (flyby_enclosure.enclosure_rule m b)
  pub flyby_confirmed : (k : flyby_claims.Claim) → flyby_claims.judge_rule k ≡ verdict Confirmed → FlybyConfirmed k
  pub flyby_refuted : (k : flyby_claims.Claim) → flyby_claims.judge_rule k ≡ verdict Refuted → FlybyRefuted k
  -- every number is the one its rule gives
  pub rules : Rules
