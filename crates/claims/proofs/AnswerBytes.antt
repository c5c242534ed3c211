-- R50: an answer byte is the code of the judge's answer, or its verdict; and what it can be. Assumes nothing.
use mathlib.Core.Path.{◌≡◌, refl, sym, ap, ◌∙◌}
use mathlib.Core.Bool.{false, cond}
use mathlib.Core.List.{List, [], ◌∷◌}
use Prim.Native.Nat.{ℕ, zero, suc, ◌+◌, ◌*◌, ◌≤◌, ◌<◌}
use native.Mathlib.Omega.{arith}
use borrow.Author.Tests.{ne_eqb}
use lib.Dec.{eqb}
use lib.ListN.{get_or}
use Rattle.std.specs.Prelude.{Result, Ok, Err}
use Rattle.grid.specs.Grid.{N_units}
use Rattle.grid.specs.Codes.{checked, answer}
use Rattle.grid.specs.declared.codes.Refusal.{Refusal}
use Rattle.grid.proofs.FirstCode.{made, unmade, passes, refuses, answered}
use Rattle.grid.proofs.Outcomes.{of_checked}
use Rattle.grid.proofs.Refuses.{through, alike_refused}
use Rattle.judge.specs.Judge.{Claim, claim_checks, case_at, case_verdict, verdict, unjudged, judge_rule}
use Rattle.judge.specs.Verdict.{verdict_number}
use Rattle.judge.specs.Decision.{decision, settled_known}
use Rattle.judge.specs.declared.Decision.{Decision}
use Rattle.judge.specs.declared.Judged.{Judged}
use Rattle.judge.specs.declared.Verdict.{Verdict}
use Rattle.judge.proofs.CodeAnswers.{of_judged}
use Rattle.little.proofs.Digits.{little_small}
use Rattle.claims.specs.Form.{Form}
use Rattle.claims.specs.Record.{reserved_check, claim_at, record_checks, verdict_known, answer_at}
use Rattle.claims.specs.AnswerByte.{AnswerByte, of_verdict, of_reserved, of_m, of_a, of_depth, of_estimate}

-- the code where there is one, else the verdict's number
abbrev pub byte_of : Judged → ℕ
byte_of j = cond (eqb j.code 0) j.verdict j.code

refused_byte : (k : ℕ) → byte_of (unjudged k) ≡ k
refused_byte zero = refl
refused_byte (suc k) = rw (ne_eqb (suc k) 0 (λ e. omega arith))

-- the byte by the judge's answer
module _ (form : Form) (bytes : List ℕ) (i : ℕ) where
  abbrev claim : Claim
  claim = claim_at form bytes i

  pub judged_byte : checked (claim_checks claim) (λ (k : ℕ). k) (verdict_number (case_verdict (case_at claim))) ≡ byte_of (judge_rule claim)
  unfolding judge_rule
  judged_byte =
      alike_refused (λ (k : ℕ). k) (λ k. byte_of (unjudged k)) (λ k. sym (refused_byte k)) _ (claim_checks claim)
      ∙ sym (through byte_of unjudged (verdict (case_verdict (case_at claim))) (claim_checks claim))

  pub byte_is : answer_at form bytes i ≡ checked (reserved_check form bytes (i * form.width) ∷ []) (λ (k : ℕ). k) (byte_of (judge_rule claim))
  unfolding answer_at
  byte_is = ap (checked (reserved_check form bytes (i * form.width) ∷ []) (λ (k : ℕ). k)) judged_byte

  -- what is known of a record, by what is decided of its claim where its reserved byte is 0
  module _ (zero : (reserved_check form bytes (i * form.width)).fails ≡ false) {known : Result Decision Refusal}
      (decides : known ≡ settled_known claim) where
    pub verdict_made : {d : Decision} → known ≡ Ok d → Ok d.verdict ≡ verdict_known form bytes i
    verdict_made e =
        let (passed, same) = made (decision (case_at claim)) (claim_checks claim) (sym decides ∙ e) in
        ap (λ (d : Decision). Ok d.verdict) same ∙ sym (passes (case_verdict (case_at claim)) (record_checks form bytes i) [] (zero, passed))

    pub verdict_refused : {r : Refusal} → known ≡ Err r → Err r ≡ verdict_known form bytes i
    verdict_refused {r} e =
        let first = unmade (decision (case_at claim)) (claim_checks claim) (sym decides ∙ e) in
        sym (refuses (case_verdict (case_at claim)) (record_checks form bytes i) [] r (rw zero first))

  -- and as its byte says it
  pub byte_said : {known : Result Verdict Refusal} {byte : ℕ} → byte ≡ answer (λ (k : ℕ). k) verdict_number known
      → known ≡ verdict_known form bytes i → byte ≡ answer_at form bytes i
  unfolding answer_at
  byte_said said known =
      answered (λ (k : ℕ). k) verdict_number (case_verdict (case_at claim)) (record_checks form bytes i) said known

-- of any form whose tolerances have two bytes
module _ (form : Form) (two : form.n.bytes ≡ 2) (bytes : List ℕ) (small : (k : ℕ) → get_or bytes k 0 < 256) (i : ℕ) where
  -- they hold none above its limit
  n_fits : (claim_at form bytes i).n ≤ N_units
  n_fits = rw two (let h = little_small bytes small (i * form.width + form.n.at) 2 in omega arith)

  pub one_of_eight : AnswerByte (answer_at form bytes i)
  one_of_eight =
      rw (byte_is form bytes i)
      (of_checked AnswerByte (λ (k : ℕ). k) (byte_of (judge_rule (claim_at form bytes i)))
      (reserved_check form bytes (i * form.width) ∷ []) (λ t. of_reserved, tt)
      (λ p.
      of_judged (λ (j : Judged). AnswerByte (byte_of j)) of_m of_a of_depth of_estimate of_verdict (claim_at form bytes i)
      (λ h. absurd (let k : ⊥ = let g = n_fits in omega arith in k))))
