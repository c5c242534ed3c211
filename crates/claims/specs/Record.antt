-- A record's claim and its answer byte, R49 and R50.
use Rattle.std.specs.Prelude.{ℕ, ◌*◌, not, List, ◌∷◌, eqb, Result}
use Rattle.std.specs.Float.{binary64}
use Rattle.std.specs.Float.Ieee.{of_bits}
use Rattle.little.specs.LittleEndian.{twos_complement}
use Rattle.grid.specs.Codes.{Check, checked, allowed}
use Rattle.grid.specs.declared.codes.Refusal.{Refusal}
use Rattle.grid.specs.declared.codes.Refusal.TheVariants.{BadReserved}
use Rattle.orbit.specs.Given.{grid}
use Rattle.judge.specs.Verdict.{verdict_number}
use Rattle.judge.specs.Judge.{Claim, claim_checks, case_at, case_verdict}
use Rattle.judge.specs.declared.Verdict.{Verdict}
use Rattle.claims.specs.Form.{Form, value_of}

-- R49: the claim of the record that starts at a place; M is in two's complement, and to `of_bits` every NaN pattern is the one NaN
abbrev pub claim_from : Form → List ℕ → ℕ → Claim
claim_from form bytes start =
    record {
      given = grid (twos_complement (value_of bytes start form.m)) (value_of bytes start form.a);
      estimate = of_bits binary64 (value_of bytes start form.estimate);
      n = value_of bytes start form.n;
      depth = value_of bytes start form.depth;
    }

-- R5: code 9, a reserved byte other than zero
abbrev pub reserved_check : Form → List ℕ → ℕ → Check
reserved_check form bytes start =
    record { fails = not (eqb (value_of bytes start form.reserved) 0); code = BadReserved }

-- R49: record i is the one that starts at i times the width
abbrev pub claim_at : Form → List ℕ → ℕ → Claim
claim_at form bytes i = claim_from form bytes (i * form.width)

-- R50: its checks: code 9 comes before the codes of its claim
abbrev pub record_checks : Form → List ℕ → ℕ → List Check
record_checks form bytes i = reserved_check form bytes (i * form.width) ∷ claim_checks (claim_at form bytes i)

-- R50: the first code that applies to record i, or the verdict on its claim
abbrev pub verdict_known : Form → List ℕ → ℕ → Result Verdict Refusal
verdict_known form bytes i = allowed (record_checks form bytes i) (case_verdict (case_at (claim_at form bytes i)))

-- R50: the answer byte of record i: the first code that applies, else the verdict's number
unfoldable pub answer_at : Form → List ℕ → ℕ → ℕ
answer_at form bytes i =
    checked (record_checks form bytes i) (λ (code : ℕ). code) (verdict_number (case_verdict (case_at (claim_at form bytes i))))
