-- With code 0 an entry's answer is the one its rule gives, number for number, and so is each byte of a batch.
use Rattle.std.specs.Prelude.{◌≡◌, true, false, List, ℕ, ◌/◌, ◌≤◌, ◌<◌, ℤ, pos, nat_abs, Float, length, get_or, Ok}
use Rattle.grid.specs.Grid.{depths}
use Rattle.grid.specs.Codes.{number, done, code_in}
use Rattle.grid.specs.Make.{coded_angle, coded_signed, coded_flyby_angle, coded_eccentricity, coded_depth}
use Rattle.series.specs.Sine.{Lo, Hi}
use Rattle.series.specs.Entry.{sine_rule}
use Rattle.cosine.specs.Cosine.{CosLo, CosHi, cosine_rule}
use Rattle.units.specs.Units.{floor_and_ceiling, coded_estimate}
use Rattle.orbit.specs.Given.{Given, mirrored_of, cell_of, coded_cell, problem_at, coded_problem}
use Rattle.ends.specs.Entry.{flagged, end_of, lower_rule, upper_rule}
use Rattle.enclosure.specs.Enclosure.{found_ends, enclosed, enclosure_rule}
use Rattle.proposal.specs.Propose.{candidate_of, proposal_as, proposal_rule}
use Rattle.judge.specs.Verdict.{verdict_number}
use Rattle.judge.specs.Judge.{Claim, claim_of, case_at, case_verdict, verdict, judge_rule}
use Rattle.judge.specs.Settle.{settled_by, settle_rule}
use Rattle.judge.specs.Limits.{coded_tolerance}
use Rattle.distance.specs.Distance.{off_as, off_by, units_of, distance_rule}
use Rattle.step.specs.Entry.{step_from, stepped_as, step_rule, judged_as, judged_rule}
use Rattle.step.specs.Known.{method_of, coded_method}
use Rattle.sinh.specs.Sinh.{low, high}
use Rattle.sinh.specs.Entry.{sinh_rule}
use Rattle.flyby.specs.Ends as flyby_ends
use Rattle.flyby.specs.Entry as flyby
use Rattle.flyby.specs.Posed.{coded_flyby}
use Rattle.flyby_enclosure.specs.Enclosure as flyby_enclosure
use Rattle.flyby_judge.specs.Judge as flyby_claims
use Rattle.claims.specs.Form.{twenty}
use Rattle.claims.specs.Record.{claim_at, answer_at}
use Rattle.claims.specs.AnswerByte.{AnswerByte}
use Rattle.claims.specs.Batch.{batch_with, answers_after}
use Rattle.promises.specs.Demand1.{code_of_byte, batch_of}

-- the answer byte of record i, in the buffer as the batch leaves it
abbrev pub byte_after : List ℕ → List ℕ → ℕ → ℕ
byte_after claims answers i = get_or (answers_after twenty claims answers) i 0

-- an answer with code 0 is the one given
abbrev pub Gives : {A : Type 0} → (A → ℕ) → A → A → Type 0
Gives code answer given = code answer ≡ number done → answer ≡ given

pub record Rules : Type 0 where
  -- R16
  pub sine : (x d : ℕ) → Gives (λ r. r.code) (sine_rule x d) (record { code = number done; lo = Lo x d; hi = Hi x d })
  -- R74
  pub cosine : (x d : ℕ) → Gives (λ r. r.code) (cosine_rule x d) (record { code = number done; lo = CosLo x d; hi = CosHi x d })
  -- R24
  pub lower_end : (x : ℤ) (g : Given) (d : ℕ) → Gives (λ r. r.code) (lower_rule x g d) (flagged (end_of false g d x))
  pub upper_end : (x : ℤ) (g : Given) (d : ℕ) → Gives (λ r. r.code) (upper_rule x g d) (flagged (end_of true g d x))
  -- R31
  pub enclose : (g : Given) (d : ℕ) → Gives (λ r. r.code) (enclosure_rule g d) (enclosed (mirrored_of g) (cell_of g) d)
  -- R40: the 50 rotations, E brought into 0 to T, and its certificate
  pub propose : (g : Given) → Gives (λ r. r.code) (proposal_rule g) (proposal_as (candidate_of g))
  -- R48
  pub judge : (c : Claim) → Gives (λ r. r.code) (judge_rule c) (verdict (case_verdict (case_at c)))
  -- R62
  pub settle : (g : Given) (x : Float) (n : ℕ)
      → Gives (λ r. r.code) (settle_rule g x n) (settled_by (case_at (claim_of g x n depths)))
  -- R68
  pub distance : (g : Given) (x : Float) → Gives (λ r. r.code) (distance_rule g x) (off_as (off_by (found_ends (cell_of g) depths) (units_of g x)))
  -- R78: the operations in their order, and what is handed over
  pub step : (m : ℤ) (a : ℕ) (x : Float) (method : ℕ) → Gives (λ r. r.code) (step_rule m a x method) (stepped_as (step_from m a x method))
  -- R79: the same step, judged
  pub step_judged : (m : ℤ) (a : ℕ) (x : Float) (method n d : ℕ)
      → Gives (λ r. r.code) (judged_rule m a x method n d) (judged_as m a n d (step_from m a x method))
  -- R84
  pub flyby_sinh : (x : ℕ) → Gives (λ r. r.code) (sinh_rule x) (record { code = number done; lo = pos (low x); hi = pos (high x) })
  -- R87
  pub flyby_lower_end : (x m b : ℕ) → Gives (λ r. r.code) (flyby.lower_rule x m b) (flagged (flyby_ends.end_at false m b x))
  pub flyby_upper_end : (x m b : ℕ) → Gives (λ r. r.code) (flyby.upper_rule x m b) (flagged (flyby_ends.end_at true m b x))
  -- R88
  pub flyby_enclose : (m b : ℕ) → Gives (λ r. r.code) (flyby_enclosure.enclosure_rule m b) (flyby_enclosure.enclosed m b)
  -- R89
  pub flyby_judge : (k : flyby_claims.Claim) → Gives (λ r. r.code) (flyby_claims.judge_rule k) (verdict (flyby_claims.claim_verdict k))
  -- R51
  pub count : (claims answers : List ℕ)
      → Gives (λ r. r.code) (batch_of claims answers) (batch_with (number done) (length claims / twenty.width))
  -- R52
  pub written : (claims answers : List ℕ) (i : ℕ) → i < (batch_of claims answers).count
      → byte_after claims answers i ≡ answer_at twenty claims i
  pub beyond : (claims answers : List ℕ) (i : ℕ) → (batch_of claims answers).count ≤ i
      → byte_after claims answers i ≡ get_or answers i 0
  pub room : (claims answers : List ℕ) → length (answers_after twenty claims answers) ≡ length answers
  -- R50: a byte that is no code is the verdict on the record's claim
  pub byte : (claims : List ℕ) (i : ℕ)
      → Gives code_of_byte (answer_at twenty claims i) (verdict_number (case_verdict (case_at (claim_at twenty claims i))))
  -- R50: and there are eight bytes that can answer, of claims that are bytes
  pub one_of_eight : (claims : List ℕ) → ((k : ℕ) → get_or claims k 0 < 256) → (i : ℕ) → AnswerByte (answer_at twenty claims i)
  -- R4: what the checked constructors make; R41: f and c
  pub angle : (x : ℕ) → Gives code_in (coded_angle x) (Ok x)
  pub signed_angle : (x : ℤ) → Gives code_in (coded_signed x) (Ok (nat_abs x))
  pub flyby_angle : (x : ℕ) → Gives code_in (coded_flyby_angle x) (Ok x)
  pub tolerance : (n : ℕ) → Gives code_in (coded_tolerance n) (Ok n)
  pub method : (n : ℕ) → Gives code_in (coded_method n) (Ok (method_of n))
  pub eccentricity : (a : ℕ) → Gives code_in (coded_eccentricity a) (Ok a)
  pub depth : (d : ℕ) → Gives code_in (coded_depth d) (Ok d)
  pub cell : (g : Given) → Gives code_in (coded_cell g) (Ok (record { mirrored = mirrored_of g; of = cell_of g }))
  pub problem : (g : Given) (d : ℕ)
      → Gives code_in (coded_problem g d) (Ok (record { mirrored = mirrored_of g; of = problem_at (cell_of g) d }))
  pub posed_flyby : (m b : ℕ) → Gives code_in (coded_flyby m b) (Ok (record { mean = m; shape = b }))
  pub estimate : (x : Float) → Gives code_in (coded_estimate x) (Ok (floor_and_ceiling x))
