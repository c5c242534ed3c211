-- The third demand, over what the entries return and over the tests behind a verdict: R21, R30, R46, R47.
use Rattle.std.specs.Prelude.{◌≡◌, true, false, List, ◌⊎◌, ℕ, ◌*◌, ◌≤◌, T, ℤ, Float, ◌≤ℤ◌}
use Rattle.grid.specs.Grid.{one, T_units, depths}
use Rattle.grid.specs.Flyby.{X_top}
use Rattle.grid.specs.Codes.{number, done}
use Rattle.orbit.specs.Cell.{CellIn}
use Rattle.orbit.specs.Given.{Given}
use Rattle.orbit.specs.Cell.{Cell}
use Rattle.ends.specs.Entry.{flagged, lower_rule, upper_rule}
use Rattle.enclosure.specs.Enclosure.{enclosure_rule}
use Rattle.enclosure.specs.declared.Enclosure.{Enclosure}
use Rattle.units.specs.declared.Units.{Units}
use Rattle.judge.specs.Verdict.{confirmed, refuted, confirmed_by, refuted_by, verdict_number}
use Rattle.judge.specs.Judge.{Claim, verdict, judge_rule}
use Rattle.judge.specs.declared.Verdict.{Verdict}
use Rattle.judge.specs.declared.Verdict.TheVariants.{Confirmed, Refuted}
use Rattle.judge.specs.Exact.{at_depth}
use Rattle.step.specs.Entry.{judged_rule}
use Rattle.flyby.specs.Entry as flyby
use Rattle.flyby_judge.specs.Judge as flyby_claims
use Rattle.claims.specs.Form.{twenty}
use Rattle.claims.specs.Record.{reserved_check, claim_at, answer_at}

-- an enclosure lies within another
pub record Within (inner outer : Enclosure) : Type 0 where
  pub lower : outer.lower ≤ℤ inner.lower
  pub upper : inner.upper ≤ℤ outer.upper

-- Confirmed or Refuted
abbrev pub Decided : Verdict → Type 0
Decided v = (v ≡ Confirmed) ⊎ (v ≡ Refuted)

-- record k of the others is record i of the claims at another depth
pub record Again (claims : List ℕ) (i : ℕ) (others : List ℕ) (k other : ℕ) : Type 0 where
  pub claim : claim_at twenty others k ≡ at_depth (claim_at twenty claims i) other
  pub reserved : (reserved_check twenty others (k * twenty.width)).fails ≡ false

pub record Demand3 : Type 0 where
  -- R47
  pub kept : (c : Claim) (v : Verdict) (other : ℕ) → Decided v → c.depth ≤ other → other ≤ depths
      → judge_rule c ≡ verdict v → judge_rule (at_depth c other) ≡ verdict v
  -- R46, of the tests of a problem that was posed: where the confirming ones hold at one depth, the refuting ones hold at none
  pub tests_never_both : (c : Cell) (u : Units) (n d other : ℕ) → CellIn c → u.ceiling ≤ T_units → d ≤ depths → other ≤ depths
      → T (confirmed c d u n) → T (refuted c other u n) → ⊥
  -- R46, of the answers, whatever the two depths
  pub never_both : (c : Claim) (d other : ℕ)
      → judge_rule (at_depth c d) ≡ verdict Confirmed → judge_rule (at_depth c other) ≡ verdict Refuted → ⊥
  -- R46, R47 of a judged step
  pub step_kept : (m : ℤ) (a : ℕ) (x : Float) (method n d : ℕ) (v : Verdict) (other : ℕ) → Decided v → d ≤ other → other ≤ depths
      → (judged_rule m a x method n d).verdict ≡ verdict_number v → judged_rule m a x method n other ≡ judged_rule m a x method n d
  pub step_never_both : (m : ℤ) (a : ℕ) (x : Float) (method n d other : ℕ) → (judged_rule m a x method n d).verdict ≡ verdict_number Confirmed
      → (judged_rule m a x method n other).verdict ≡ verdict_number Refuted → ⊥
  -- R46, R47 of the bytes that a batch writes
  pub byte_kept : (claims others : List ℕ) (i k : ℕ) (v : Verdict) (other : ℕ) → Again claims i others k other → Decided v
      → (claim_at twenty claims i).depth ≤ other → other ≤ depths
      → answer_at twenty claims i ≡ verdict_number v → answer_at twenty others k ≡ verdict_number v
  pub bytes_never_both : (claims others : List ℕ) (i k other : ℕ) → Again claims i others k other
      → answer_at twenty claims i ≡ verdict_number Confirmed → answer_at twenty others k ≡ verdict_number Refuted → ⊥
  -- R21
  pub apart : (x y : ℤ) (g : Given) (d other : ℕ) → lower_rule x g d ≡ flagged true → upper_rule y g other ≡ flagged true → x ≤ℤ y
  -- R30
  pub within : (g : Given) (d other : ℕ) → d ≤ other → (enclosure_rule g d).code ≡ number done → (enclosure_rule g other).code ≡ number done
      → Within (enclosure_rule g other) (enclosure_rule g d)
  -- R86
  pub flyby_apart : (x y m b : ℕ) → flyby.lower_rule x m b ≡ flagged true → flyby.upper_rule y m b ≡ flagged true → x ≤ y
  -- R46, R89, of the tests of a flyby; one depth has one answer
  pub flyby_never_both : (m b : ℕ) (u : Units) (n : ℕ) → one ≤ b → u.ceiling ≤ X_top
      → T (confirmed_by (flyby_claims.tests_of m b) u n) → T (refuted_by (flyby_claims.tests_of m b) u n) → ⊥
