-- Any two results that a contract allows for one input are equal, R55. What a contract allows is written here as the contract
-- has it; of the batch, its records and the program's function, what is returned and the answers buffer that is left, together.
use Rattle.std.specs.Prelude.{◌≡◌, Bool, cond, List, ℕ, ◌+◌, ◌-◌, min, ℤ, pos, nat_abs, Float, ltb, length, Result, Ok, Err}
use Rattle.std.proofs.Math.IntN.{sub_ℕ}
use Rattle.whole.specs.Sign as sign
use Rattle.whole.specs.Sign.{signed_by}
use Rattle.little.specs.LittleEndian.{twos_complement}
use Rattle.grid.specs.Codes as codes
use Rattle.grid.specs.Messages.{refusal_text}
use Rattle.grid.specs.Make.{angle_up_to, coded_angle, coded_signed, coded_flyby_angle, coded_eccentricity, coded_depth}
use Rattle.grid.specs.declared.codes.Refusal.{Refusal}
use Rattle.series.specs.Terms.{Series}
use Rattle.series.specs.Walk.{bias, walk, spent_at}
use Rattle.series.specs.Entry.{bounds_rule, sine_rule}
use Rattle.series.specs.declared.Walk.{Walk}
use Rattle.series.specs.declared.Bounds.{Bounds}
use Rattle.series.specs.Asked.{asked_for, biased_bounds, unbiased, bounds_answer}
use Rattle.series.specs.declared.Asked.{Asked}
use Rattle.series.specs.declared.Best.{Best}
use Rattle.series.specs.declared.Biased.{Biased}
use Rattle.series.specs.declared.Interval.{Interval}
use Rattle.cosine.specs.Cosine.{cosine_rule}
use Rattle.cosine.specs.Lows.{lows_at}
use Rattle.cosine.specs.declared.lows.Lows.{Lows}
use Rattle.orbit.specs.Mirror as mirrors
use Rattle.orbit.specs.Mirror.{mirror_end}
use Rattle.orbit.specs.Cell.{Cell, grid_cell}
use Rattle.orbit.specs.Given.{Given, coded_cell, coded_problem}
use Rattle.orbit.specs.declared.pose.Problem.{Problem}
use Rattle.orbit.specs.declared.pose.Posed.{Posed}
use Rattle.ends.specs.Entry.{flagged, end_answer, lower_rule, upper_rule}
use Rattle.ends.specs.declared.End.{End}
use Rattle.enclosure.specs.declared.Found.{Found}
use Rattle.enclosure.specs.Halving.{searched}
use Rattle.enclosure.specs.Moves.{enclosed_by}
use Rattle.enclosure.specs.Enclosure.{refusal, enclosure_answer, enclosure_rule}
use Rattle.enclosure.specs.declared.Enclosure.{Enclosure}
use Rattle.rotations.specs.Rotate.{rotated, brought}
use Rattle.rotations.specs.declared.State.{State}
use Rattle.proposal.specs.Propose.{proposal_answer, proposal_rule}
use Rattle.proposal.specs.declared.Candidate.{Candidate}
use Rattle.proposal.specs.declared.Proposal.{Proposal}
use Rattle.units.specs.Units.{exactly, mirror_double, is_below_zero, coded_units}
use Rattle.units.specs.declared.Units.{Units}
use Rattle.judge.specs.Verdict.{verdict_number}
use Rattle.judge.specs.Judge.{Claim, judge_rule}
use Rattle.judge.specs.Settle.{settle_rule}
use Rattle.judge.specs.Limits.{coded_tolerance}
use Rattle.judge.specs.Decision.{tests_by, decided_by, settled_known, judged_answer, settled_answer}
use Rattle.judge.specs.declared.Decision.{Decision}
use Rattle.judge.specs.declared.Judged.{Judged}
use Rattle.judge.specs.declared.Settled.{Settled}
use Rattle.judge.specs.declared.Verdict.{Verdict}
use Rattle.distance.specs.Distance.{distance_answer, distance_rule}
use Rattle.distance.specs.declared.Away.{Away}
use Rattle.distance.specs.declared.Off.{Off}
use Rattle.step.specs.Entry.{step_rule, judged_rule}
use Rattle.step.specs.Known as steps
use Rattle.step.specs.Known.{coded_method, step_answer}
use Rattle.step.specs.declared.Method.{Method}
use Rattle.step.specs.declared.Taken.{Taken}
use Rattle.step.specs.declared.Stepped.{Stepped}
use Rattle.step.specs.declared.Outcome.{Outcome}
use Rattle.step.specs.declared.JudgedStep.{JudgedStep}
use Rattle.sinh.specs.Sinh as sinh
use Rattle.sinh.specs.Entry.{sinh_rule}
use Rattle.flyby.specs.Ends as flybys
use Rattle.flyby.specs.Entry as flyby
use Rattle.flyby.specs.Posed.{Flyby, coded_flyby}
use Rattle.flyby_enclosure.specs.Enclosure as flyby_enclosure
use Rattle.flyby_judge.specs.Judge as flyby_claims
use Rattle.claims.specs.Form.{Form, twenty}
use Rattle.claims.specs.Batch.{coded_count, batch_answer, batch_rule, answers_after}
use Rattle.claims.specs.declared.Batch.{Batch}
use Rattle.claim_file.specs.File.{output, output_in}

-- any two results that a contract allows are equal
abbrev pub OneResult : {A : Type 0} → (A → Type 0) → Type 0
OneResult {A} Allowed = (r s : A) → Allowed r → Allowed s → r ≡ s

-- a result, and the answers buffer after it
pub record Left (A : Type 0) : Type 0 where
  pub result : A
  pub answers : List ℕ

pub record BatchAllows (claims before : List ℕ) (l : Left Batch) : Type 0 where
  pub result : l.result ≡ batch_rule twenty (length claims) (length before)
  pub answers : l.answers ≡ answers_after twenty claims before

pub record RecordsAllow (form : Form) (claims before : List ℕ) (l : Left (Result ℕ Refusal)) : Type 0 where
  pub result : l.result ≡ coded_count form (length claims) (length before)
  pub answers : l.answers ≡ answers_after form claims before

pub record FileAllows (input before : List ℕ) (l : Left ℕ) : Type 0 where
  pub result : l.result ≡ length (output input)
  pub answers : l.answers ≡ output_in input before

pub record Unique : Type 1 where
  pub sine : (x depth : ℕ) → OneResult (λ (r : Bounds). r ≡ sine_rule x depth)
  pub cosine : (x depth : ℕ) → OneResult (λ (r : Bounds). r ≡ cosine_rule x depth)
  pub lower_end : (x : ℤ) (g : Given) (depth : ℕ) → OneResult (λ (r : End). r ≡ lower_rule x g depth)
  pub upper_end : (x : ℤ) (g : Given) (depth : ℕ) → OneResult (λ (r : End). r ≡ upper_rule x g depth)
  pub enclose : (g : Given) (depth : ℕ) → OneResult (λ (r : Enclosure). r ≡ enclosure_rule g depth)
  pub propose : (g : Given) → OneResult (λ (r : Proposal). r ≡ proposal_rule g)
  pub judge : (claim : Claim) → OneResult (λ (r : Judged). r ≡ judge_rule claim)
  pub settle : (g : Given) (estimate : Float) (n : ℕ) → OneResult (λ (r : Settled). r ≡ settle_rule g estimate n)
  pub distance : (g : Given) (estimate : Float) → OneResult (λ (r : Off). r ≡ distance_rule g estimate)
  pub step : (m : ℤ) (a : ℕ) (estimate : Float) (method : ℕ) → OneResult (λ (r : Stepped). r ≡ step_rule m a estimate method)
  pub step_judged : (m : ℤ) (a : ℕ) (estimate : Float) (method n depth : ℕ)
      → OneResult (λ (r : JudgedStep). r ≡ judged_rule m a estimate method n depth)
  pub flyby_sinh : (x : ℕ) → OneResult (λ (r : Bounds). r ≡ sinh_rule x)
  pub flyby_lower_end : (x m b : ℕ) → OneResult (λ (r : End). r ≡ flyby.lower_rule x m b)
  pub flyby_upper_end : (x m b : ℕ) → OneResult (λ (r : End). r ≡ flyby.upper_rule x m b)
  pub flyby_enclose : (m b : ℕ) → OneResult (λ (r : Enclosure). r ≡ flyby_enclosure.enclosure_rule m b)
  pub flyby_judge : (m b : ℕ) (estimate : Float) (n : ℕ)
      → OneResult (λ (r : Judged). r ≡ flyby_claims.judge_rule (flyby_claims.claim_of m b estimate n))
  pub judge_claims : (claims before : List ℕ) → OneResult (BatchAllows claims before)
  -- the checked constructors, with an angle up to any top; a double in units, and a whole number
  pub angle_to : (top units : ℕ) → OneResult (λ (r : Result ℕ Refusal). r ≡ angle_up_to top units)
  pub angle : (units : ℕ) → OneResult (λ (r : Result ℕ Refusal). r ≡ coded_angle units)
  pub signed_angle : (units : ℤ) → OneResult (λ (r : Result ℕ Refusal). r ≡ coded_signed units)
  pub eccentricity : (units : ℕ) → OneResult (λ (r : Result ℕ Refusal). r ≡ coded_eccentricity units)
  pub depth : (pairs : ℕ) → OneResult (λ (r : Result ℕ Refusal). r ≡ coded_depth pairs)
  pub cell : (g : Given) → OneResult (λ (r : Result (Posed Cell) Refusal). r ≡ coded_cell g)
  pub problem : (g : Given) (depth : ℕ) → OneResult (λ (r : Result (Posed Problem) Refusal). r ≡ coded_problem g depth)
  pub posed_flyby : (m b : ℕ) → OneResult (λ (r : Result Flyby Refusal). r ≡ coded_flyby m b)
  pub flyby_angle : (units : ℕ) → OneResult (λ (r : Result ℕ Refusal). r ≡ coded_flyby_angle units)
  pub tolerance : (n : ℕ) → OneResult (λ (r : Result ℕ Refusal). r ≡ coded_tolerance n)
  pub method : (n : ℕ) → OneResult (λ (r : Result Method Refusal). r ≡ coded_method n)
  pub in_units : (R : Type 0) (value : Float) (limit : ℕ) (refusal : R)
      → OneResult (λ (r : Result Units R). r ≡ coded_units value limit refusal)
  pub units_of : (n : ℕ) → OneResult (λ (r : Units). r ≡ exactly n)
  pub is_below_zero : (value : Float) → OneResult (λ (r : Bool). r ≡ is_below_zero value)
  -- the functions that crates share: the program's and the batch's, a number within its limits, a refusal's code and its words, the
  -- code of two lists of checks, what bounds are asked for, where a walk begins, what it comes to and whether its terms are spent,
  -- both lows, the hyperbolic sine's bounds, a cell of the grid, the clamps into 0 to a top, the depth asked for, a flyby's test, by
  -- any tests both searches and what is decided, answers as C has them, an enclosure's refusal, the rotations, a verdict's number,
  -- signs and the mirror; and an end's flag, as the definitions have it. A `from` is named by what it makes: `end_of` makes an End
  pub answer_file : (input before : List ℕ) → OneResult (FileAllows input before)
  pub judge_records : (form : Form) (claims before : List ℕ) → OneResult (RecordsAllow form claims before)
  pub limited : (R : Type 0) (n limit : ℕ) (refusal : R)
      → OneResult (λ (r : Result ℕ R). r ≡ cond (ltb limit n) (Err refusal) (Ok n))
  pub spanned : (R : Type 0) (n least limit : ℕ) (refusal : R)
      → OneResult (λ (r : Result ℕ R). r ≡ cond (codes.or (ltb n least) (ltb limit n)) (Err refusal) (Ok n))
  pub code : (refusal : Refusal) → OneResult (λ (r : ℕ). r ≡ codes.number (codes.failed refusal))
  pub message : (refusal : Refusal) → OneResult (λ (r : List ℕ). r ≡ refusal_text refusal)
  pub earlier : (code next : ℕ) → OneResult (λ (r : ℕ). r ≡ codes.earlier code next)
  pub ask : (x depth : ℕ) → OneResult (λ (r : Result Asked Refusal). r ≡ asked_for x depth)
  pub series_begin : (s : Series) (x : ℕ) → OneResult (λ (r : Walk). r ≡ walk s x 0)
  pub best : (w : Walk) → OneResult (λ (r : Best). r ≡ record { lo = w.greatest; hi = w.least })
  pub spent : (w : Walk) → OneResult (λ (r : Bool). r ≡ spent_at w)
  pub bounds_at : (s : Series) (x depth : ℕ) → OneResult (λ (r : Biased). r ≡ biased_bounds s x depth)
  pub bound_value : (bound : ℕ) → OneResult (λ (r : ℤ). r ≡ sub_ℕ bound bias)
  pub biased_values : (b : Biased) → OneResult (λ (r : Interval). r ≡ unbiased b)
  pub lo_and_hi : (s : Series) (x depth : ℕ) → OneResult (λ (r : Bounds). r ≡ bounds_rule s x depth)
  pub lows_at : (x : ℕ) → OneResult (λ (r : Lows). r ≡ lows_at x)
  pub sinh_low : (x : ℕ) → OneResult (λ (r : ℕ). r ≡ sinh.low x)
  pub sinh_high : (x : ℕ) → OneResult (λ (r : ℕ). r ≡ sinh.high x)
  pub on_grid : (m a : ℕ) → OneResult (λ (r : Cell). r ≡ grid_cell m a)
  pub step_down : (x n : ℕ) → OneResult (λ (r : ℕ). r ≡ x - n)
  pub step_up : (x n top : ℕ) → OneResult (λ (r : ℕ). r ≡ min (x + n) top)
  pub last_depth : (last : ℕ) → OneResult (λ (r : ℕ). r ≡ last)
  pub find_ends : (lower upper : ℕ → Bool) (top : ℕ) → OneResult (λ (r : Found). r ≡ searched lower upper top)
  pub enclosed : (lower upper : ℕ → Bool) (top : ℕ) (none : Refusal)
      → OneResult (λ (r : Result Found Refusal). r ≡ enclosed_by lower upper top none)
  pub case_decide : (test : Bool → ℕ → ℕ → Bool) (top : ℕ) (u : Units) (n last : ℕ)
      → OneResult (λ (r : Decision). r ≡ decided_by (tests_by test top) u n last)
  pub decide : (claim : Claim) → OneResult (λ (r : Result Decision Refusal). r ≡ settled_known claim)
  pub flag : (accepted : Bool) → OneResult (λ (r : End). r ≡ flagged accepted)
  pub flyby_accepted : (upper : Bool) (m b x : ℕ) → OneResult (λ (r : Bool). r ≡ flybys.end_at upper m b x)
  pub bounds_of : (known : Result Interval Refusal) → OneResult (λ (r : Bounds). r ≡ bounds_answer known)
  pub end_of : (known : Result Bool Refusal) → OneResult (λ (r : End). r ≡ end_answer known)
  pub judged_of : (known : Result Decision Refusal) → OneResult (λ (r : Judged). r ≡ judged_answer known)
  pub settled_of : (known : Result Decision Refusal) → OneResult (λ (r : Settled). r ≡ settled_answer known)
  pub enclosure_of : (known : Result (Posed Found) Refusal) → OneResult (λ (r : Enclosure). r ≡ enclosure_answer known)
  pub proposal_of : (known : Result Candidate Refusal) → OneResult (λ (r : Proposal). r ≡ proposal_answer known)
  pub off_of : (known : Result Away Refusal) → OneResult (λ (r : Off). r ≡ distance_answer known)
  pub stepped_of : (known : Result Taken Refusal) → OneResult (λ (r : Stepped). r ≡ step_answer known)
  pub judged_step_of : (known : Result Outcome Refusal) → OneResult (λ (r : JudgedStep). r ≡ steps.judged_answer known)
  pub batch_of : (known : Result ℕ Refusal) → OneResult (λ (r : Batch). r ≡ batch_answer known)
  pub no_enclosure : (code : ℕ) → OneResult (λ (r : Enclosure). r ≡ refusal code)
  pub rotate : (m a : ℕ) → OneResult (λ (r : State). r ≡ rotated m a)
  pub bring : (angle : ℤ) → OneResult (λ (r : ℕ). r ≡ brought angle)
  pub number_of : (v : Verdict) → OneResult (λ (r : ℕ). r ≡ verdict_number v)
  pub signed : (z : ℤ) (plus : Bool) → OneResult (λ (r : ℤ). r ≡ signed_by plus z)
  pub negative : (z : ℤ) → OneResult (λ (r : Bool). r ≡ sign.negative z)
  pub size : (z : ℤ) → OneResult (λ (r : ℕ). r ≡ nat_abs z)
  pub mirror : (z : ℤ) (mirrored : Bool) → OneResult (λ (r : ℤ). r ≡ mirrors.mirror mirrored z)
  pub mirror_angle : (units : ℕ) (mirrored : Bool) → OneResult (λ (r : ℤ). r ≡ mirrors.mirror mirrored (pos units))
  pub mirror_end : (upper mirrored : Bool) → OneResult (λ (r : Bool). r ≡ mirror_end mirrored upper)
  pub mirror_double : (x : Float) (mirrored : Bool) → OneResult (λ (r : Float). r ≡ mirror_double mirrored x)
  pub signed_word : (word : ℕ) → OneResult (λ (r : ℤ). r ≡ twos_complement word)
