-- The answers buffer at the program's exit, for an input that is judged. Assumes nothing.
use mathlib.Core.Path.{◌≡◌, sym, ap, ◌∙◌}
use mathlib.Core.List.{List}
use Prim.Native.Nat.{ℕ, ◌≤◌}
use borrow.Author.Tests.{le-ltb}
use lib.ListN.{length}
use Rattle.claims.specs.Form.{twenty}
use Rattle.claims.specs.Record.{answer_at}
use Rattle.claims.specs.Batch.{batch_rule, up_to, answers_after}
use Rattle.claims.proofs.AnswersBuffer.{length_up_to}
use Rattle.claim_file.specs.File.{most_bytes, most_claims, output, output_in}

-- an input that is not too long, and a buffer with room for the longest
module _ (input before : List ℕ) (short : length input ≤ most_bytes) (room : length before ≡ most_claims) where
  output_is : output input ≡ up_to (answer_at twenty input) (batch_rule twenty (length input) (length before)).count
  unfolding output
  output_is = rw (le-ltb _ _ short, room)

  pub counted : (batch_rule twenty (length input) (length before)).count ≡ length (output input)
  counted = sym (ap length output_is ∙ length_up_to _ _)

  pub left : answers_after twenty input before ≡ output_in input before
  unfolding answers_after
  left = rw (output_is, length_up_to)
