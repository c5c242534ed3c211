-- The batch, R51 and R52: its code and count, and the answers buffer as it leaves it.
use Rattle.std.specs.Prelude.{ℕ, zero, suc, ◌%◌, ◌/◌, not, List, [], ◌∷◌, ◌++◌, eqb, ltb, length, drop, Result}
use Rattle.grid.specs.Codes.{Check, number, done, checked, allowed, answer}
use Rattle.grid.specs.declared.codes.Refusal.{Refusal}
use Rattle.grid.specs.declared.codes.Refusal.TheVariants.{BadLength, ShortAnswers}
use Rattle.claims.specs.Form.{Form}
use Rattle.claims.specs.Record.{answer_at}
use Rattle.claims.specs.declared.Batch.{Batch}

-- R5: code 7, a last record that is cut off
abbrev pub length_check : Form → ℕ → Check
length_check form bytes = record { fails = not (eqb (bytes % form.width) 0); code = BadLength }

-- R5: code 8, more claims than places for their answers
abbrev pub answers_check : Form → ℕ → ℕ → Check
answers_check form bytes room = record { fails = ltb room (bytes / form.width); code = ShortAnswers }

-- R51: codes 7 and 8 in that order, by the lengths alone (R6)
abbrev pub batch_checks : Form → ℕ → ℕ → List Check
batch_checks form bytes room = length_check form bytes ∷ answers_check form bytes room ∷ []

-- R51: the claims that are counted, or the first code that applies
abbrev pub coded_count : Form → ℕ → ℕ → Result ℕ Refusal
coded_count form bytes room = allowed (batch_checks form bytes room) (bytes / form.width)

-- R51: a code and a count
abbrev pub batch_with : ℕ → ℕ → Batch
batch_with code count = record { code = code; count = count }

-- R51: what is counted, as the batch says it
abbrev pub batch_answer : Result ℕ Refusal → Batch
batch_answer = answer (λ k. batch_with k 0) (batch_with (number done))

-- R51: what the batch returns for claims of so many bytes and an answers buffer of so many; R7: a zero beside a code
unfoldable pub batch_rule : Form → ℕ → ℕ → Batch
batch_rule form bytes room = checked (batch_checks form bytes room) (λ k. batch_with k 0) (batch_with (number done) (bytes / form.width))

-- R52: f 0, f 1, .., n of them
unfoldable pub up_to : (ℕ → ℕ) → ℕ → List ℕ
up_to f zero = []
up_to f (suc n) = up_to f n ++ (f n ∷ [])

-- R52: the answers buffer after n answers: below n the answer bytes, from n on what was there
abbrev pub written : Form → List ℕ → ℕ → List ℕ → List ℕ
written form claims n before = up_to (answer_at form claims) n ++ drop n before

-- R52: the answers buffer after the batch; R7: as the count is 0 beside a code, nothing is written then
unfoldable pub answers_after : Form → List ℕ → List ℕ → List ℕ
unfolding batch_rule
answers_after form claims before =
    written form claims (batch_rule form (length claims) (length before)).count before
