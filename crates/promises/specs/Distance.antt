-- How far off an estimate certainly is, R68 to R70: over what the entry answers with code 0 to whatever is given, M of either sign.
use Rattle.std.specs.Prelude.{◌≡◌, true, false, List, ◌⊎◌, ℕ, ◌*◌, ◌≤◌, ◌<◌, ℤ, pos, nat_abs, ◌-ℤ◌, ◌*ℤ◌, ◌≤ℤ◌, ◌<ℤ◌, Float}
use Rattle.std.specs.Float.Ieee.Positive.{den}
use Rattle.whole.specs.Choose.{greater}
use Rattle.grid.specs.Grid.{depths}
use Rattle.grid.specs.Codes.{number, done}
use Rattle.orbit.specs.Given.{Given}
use Rattle.ends.specs.Exact.{EndExact}
use Rattle.enclosure.specs.declared.Enclosure.{Enclosure}
use Rattle.judge.specs.Verdict.{verdict_number}
use Rattle.judge.specs.Judge.{Claim, verdict, judge_rule}
use Rattle.judge.specs.Settle.{settled_as, settle_rule}
use Rattle.judge.specs.declared.Verdict.TheVariants.{Confirmed, Refuted}
use Rattle.distance.specs.Distance.{distance_rule}
use Rattle.distance.specs.declared.Off.{Off}
use Rattle.claims.specs.Form.{twenty}
use Rattle.claims.specs.Record.{claim_at, answer_at}
use Rattle.promises.specs.Demand2.{EndsTrue}
use Rattle.promises.specs.SignedUnits.{enclosure_of, floor_of, ceiling_of, value_of, SignedRounded}

-- R68: least and most by the enclosure, f and c
pub record OffBy (ends : Enclosure) (f c : ℤ) (r : Off) : Type 0 where
  pub least : pos r.least ≡ greater (greater (ends.lower -ℤ c) (f -ℤ ends.upper)) (pos 0)
  pub most : pos r.most ≡ greater (c -ℤ ends.lower) (ends.upper -ℤ f)

-- R69: p / q units, from the lower to the upper end
pub record Between (ends : Enclosure) (p : ℤ) (q : ℕ) : Type 0 where
  pub over_0 : 0 < q
  pub lower : (ends.lower *ℤ pos q) ≤ℤ p
  pub upper : p ≤ℤ (ends.upper *ℤ pos q)

-- R69: how far p / q units are from v / t units, multiplied out by q t
abbrev pub gap : ℤ → ℕ → ℤ → ℕ → ℕ
gap v t p q = nat_abs ((p *ℤ pos t) -ℤ (v *ℤ pos q))

-- R69: what an answer r with code 0 says of the estimate
pub record OffTrue (g : Given) (x : Float) (r : Off) : Type 0 where
  -- R68: the problem has an enclosure, f and c are the estimate's, and r is by them
  pub enclosed : (enclosure_of g).code ≡ number done
  pub rounded : SignedRounded x (value_of g x) (den x) (floor_of g x) (ceiling_of g x)
  pub off_by : OffBy (enclosure_of g) (floor_of g x) (ceiling_of g x) r
  -- R19, R29: both ends are true
  pub ends : EndsTrue g depths (enclosure_of g)
  -- what lies between them is as far from the estimate as r says
  pub at_least : (p : ℤ) (q : ℕ) → Between (enclosure_of g) p q → r.least * (q * den x) ≤ gap (value_of g x) (den x) p q
  pub at_most : (p : ℤ) (q : ℕ) → Between (enclosure_of g) p q → gap (value_of g x) (den x) p q ≤ r.most * (q * den x)
  -- the estimate lies beyond an end that meets its own inequality
  pub beyond : 0 < r.least
      → ((ceiling_of g x <ℤ (enclosure_of g).lower) × EndExact false g (enclosure_of g).lower)
      ⊎ (((enclosure_of g).upper <ℤ floor_of g x) × EndExact true g (enclosure_of g).upper)

pub record Distance : Type 0 where
  -- R68, R69
  pub off : (g : Given) (x : Float) → (distance_rule g x).code ≡ number done → OffTrue g x (distance_rule g x)
  pub in_order : (g : Given) (x : Float) → (distance_rule g x).least ≤ (distance_rule g x).most
  -- R70: of the judge's verdicts, of the settled ones and of a batch's bytes
  pub confirmed : (c : Claim) → judge_rule c ≡ verdict Confirmed → (distance_rule c.given c.estimate).least ≤ c.n
  pub refuted : (c : Claim) → judge_rule c ≡ verdict Refuted → c.n < (distance_rule c.given c.estimate).most
  pub settled_confirmed : (g : Given) (x : Float) (n d : ℕ) → settle_rule g x n ≡ settled_as Confirmed d → (distance_rule g x).least ≤ n
  pub settled_refuted : (g : Given) (x : Float) (n d : ℕ) → settle_rule g x n ≡ settled_as Refuted d → n < (distance_rule g x).most
  pub byte_confirmed : (claims : List ℕ) (i : ℕ) → answer_at twenty claims i ≡ verdict_number Confirmed
      → let c = claim_at twenty claims i in (distance_rule c.given c.estimate).least ≤ c.n
  pub byte_refuted : (claims : List ℕ) (i : ℕ) → answer_at twenty claims i ≡ verdict_number Refuted
      → let c = claim_at twenty claims i in c.n < (distance_rule c.given c.estimate).most
