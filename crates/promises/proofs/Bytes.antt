-- What an answer byte of a batch says of its record's claim. Assumes nothing.
use mathlib.Core.Path.{◌≡◌, sym, ap, ◌∙◌}
use mathlib.Core.List.{List}
use Prim.Native.Nat.{ℕ, ◌<◌}
use Rattle.judge.specs.Verdict.{verdict_number}
use Rattle.judge.specs.Judge.{verdict, judge_rule}
use Rattle.judge.specs.declared.Judged.{Judged}
use Rattle.judge.specs.declared.Verdict.{Verdict}
use Rattle.judge.proofs.Answered.{answered}
use Rattle.claims.specs.Form.{twenty}
use Rattle.claims.specs.Record.{claim_at, answer_at}
use Rattle.claims.proofs.AnswersBuffer.{byte_answered}
use Rattle.promises.specs.Demand1.{code_of_byte, batch_of}
use Rattle.promises.specs.Rules.{byte_after}
use Rattle.promises.proofs.Demand1.{verdict_code, demand_1}
use Rattle.promises.proofs.Rules.{rules}

-- the answer with a verdict's number
abbrev numbered : ℕ → Judged
numbered n = record { code = 0; verdict = n }

-- a byte that is a verdict's number is the judge's verdict on the claim
pub byte_judged : (claims : List ℕ) (i : ℕ) (v : Verdict) → answer_at twenty claims i ≡ verdict_number v
    → judge_rule (claim_at twenty claims i) ≡ verdict v
byte_judged claims i v e =
    let z = ap code_of_byte e ∙ verdict_code v in
    answered (claim_at twenty claims i) ((demand_1.byte claims i).passed.0 z).1
    ∙ ap numbered (sym (rules.byte claims i z) ∙ e)

-- the same of the buffer
pub after_judged : (claims answers : List ℕ) (i : ℕ) (v : Verdict) → i < (batch_of claims answers).count
    → byte_after claims answers i ≡ verdict_number v → judge_rule (claim_at twenty claims i) ≡ verdict v
after_judged claims answers i v h e = byte_judged claims i v (sym (byte_answered twenty claims answers i h) ∙ e)
