-- The numbers that an answer byte can be, R50.
use Rattle.std.specs.Prelude.{ℕ}
use Rattle.grid.specs.Codes.{number, failed}
use Rattle.grid.specs.declared.codes.Refusal.TheVariants.{BadReserved, BadM, BadA, BadDepth, BadEstimate}
use Rattle.judge.specs.Verdict.{verdict_number}
use Rattle.judge.specs.declared.Verdict.{Verdict}

-- R50: a verdict's number, or a record's code; never 5, as two bytes hold no greater N than the limit
pub data AnswerByte : ℕ → Type 0 where
  of_verdict : (v : Verdict) → AnswerByte (verdict_number v)
  of_reserved : AnswerByte (number (failed BadReserved))
  of_m : AnswerByte (number (failed BadM))
  of_a : AnswerByte (number (failed BadA))
  of_depth : AnswerByte (number (failed BadDepth))
  of_estimate : AnswerByte (number (failed BadEstimate))
