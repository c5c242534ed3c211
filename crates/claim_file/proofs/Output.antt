-- R53: what the program writes, case by case. Assumes nothing.
use mathlib.Core.Path.{◌≡◌, sym, ap}
use mathlib.Core.List.{List, []}
use Prim.Native.Nat.{ℕ, ◌%◌, ◌/◌, ◌≤◌, ◌<◌}
use native.Mathlib.Omega.{arith}
use borrow.Author.Tests.{lt-ltb, le-ltb}
use lib.ListN.{length}
use Rattle.claims.specs.Form.{twenty}
use Rattle.claims.specs.Record.{answer_at}
use Rattle.claims.specs.Batch.{up_to}
use Rattle.claims.specs.declared.Batch.{Batch}
use Rattle.claims.proofs.BatchCount.{rule_length, rule_done}
use Rattle.claim_file.specs.File.{most_bytes, most_claims, output}

module _ (input : List ℕ) where
  abbrev answers : Batch → List ℕ
  answers r = up_to (answer_at twenty input) r.count

  -- R53: no byte for an input that is too long
  pub longer : most_bytes < length input → output input ≡ []
  unfolding output
  longer h = rw (lt-ltb _ _ h)

  -- R53: none for one whose last record is cut off
  pub cut : length input ≤ most_bytes → (length input % twenty.width ≡ 0 → ⊥) → output input ≡ []
  unfolding output up_to
  cut h e = rw (le-ltb _ _ h) (ap answers (sym (rule_length twenty (length input) most_claims e)))

  -- R53: else the answer bytes and no more: one for each claim, since there is room for all
  pub complete : length input ≤ most_bytes → length input % twenty.width ≡ 0
      → output input ≡ up_to (answer_at twenty input) (length input / twenty.width)
  unfolding output
  complete h e = rw (le-ltb _ _ h) (ap answers (sym (rule_done twenty (length input) most_claims e (omega arith))))
