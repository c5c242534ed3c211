-- What the program writes for an input, R53.
use Rattle.std.specs.Prelude.{ℕ, ◌*◌, cond, List, [], ◌++◌, ltb, length, drop}
use Rattle.claims.specs.Form.{twenty}
use Rattle.claims.specs.Record.{answer_at}
use Rattle.claims.specs.Batch.{batch_rule, up_to}

-- R53: the claims of the longest input that is judged
abbrev pub most_claims : ℕ
most_claims = 3276

-- R53: its bytes
abbrev pub most_bytes : ℕ
most_bytes = most_claims * twenty.width

-- R53: the answer bytes; none for a longer input, and none with code 7, where the batch's count is 0
unfoldable pub output : List ℕ → List ℕ
output input =
    cond (ltb most_bytes (length input)) []
    (up_to (answer_at twenty input) (batch_rule twenty (length input) most_claims).count)

-- R53: the answers buffer afterwards: at its start what is written for an input, and beyond that what was there
abbrev pub output_in : List ℕ → List ℕ → List ℕ
output_in input before = output input ++ drop (length (output input)) before
