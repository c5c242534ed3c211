-- What the batch's loop goes by: what is left of the claims, and one answer more. Assumes nothing.
use mathlib.Core.Path.{◌≡◌, sym, ap, ◌∙◌, subst}
use mathlib.Core.List.{List, [], ◌∷◌, ◌++◌, append_assoc}
use Prim.Native.Nat.{ℕ, suc, ◌+◌, ◌*◌, ◌/◌, ◌≤◌, ◌<◌}
use native.Mathlib.Nat.{div-eq_of_lt-le, add-mul, one-mul, zero-mul}
use native.Mathlib.Omega.{arith}
use native.Mathlib.Numerals.{add-one}
use lib.ListN.{length, drop, set, get_or, length-append, length-drop}
use lib.Seq.{drop-cons, set_at, drop-append_seam, drop-drop}
use Rattle.std.proofs.lemmas.Nat.{le-div}
use Rattle.claims.specs.Form.{Form, FormIn}
use Rattle.claims.specs.Record.{answer_at}
use Rattle.claims.specs.Batch.{batch_rule, up_to, written, answers_after}
use Rattle.claims.specs.declared.Batch.{Batch}
use Rattle.claims.proofs.AnswersBuffer.{length_up_to, written_none}
use Rattle.claims.proofs.OneRecord.{Stands, front_stands, answer_alone}

-- after n records: those left lie behind them, and each of the n has its answer
pub record Answered (form : Form) (claims before : List ℕ) (n : ℕ) (left answers : List ℕ) : Type 0 where
  pub inside : n * form.width ≤ length claims
  pub behind : left ≡ drop (n * form.width) claims
  pub answers_are : answers ≡ written form claims n before

module _ (form : Form) (claims before : List ℕ) where
  pub answered_none : Answered form claims before 0 claims before
  answered_none =
      record {
        inside = rw zero-mul (omega arith);
        behind = rw zero-mul;
        answers_are = written_none form claims before;
      }

  -- one answer more
  pub written_more : (n : ℕ) → n < length before
      → set (written form claims n before) n (answer_at form claims n) ≡ written form claims (n + 1) before
  unfolding up_to
  written_more n h =
      let f = answer_at form claims in
      ap (λ (l : List ℕ). set (up_to f n ++ l) n (f n)) (drop-cons before n 0 h)
      ∙ set_at (up_to f n) (get_or before n 0) (drop (suc n) before) (f n) n (length_up_to f n)
      ∙ rw add-one (sym (append_assoc (up_to f n) (f n ∷ []) (drop (suc n) before)))

  module _ (n : ℕ) (left answers : List ℕ) (so_far : Answered form claims before n left answers) where
    length_left : length left + n * form.width ≡ length claims
    length_left = rw (so_far.behind, length-drop) (let h = so_far.inside in omega arith)

    -- a record is left: it stands in the claims, and there is a place for its answer
    module _ (bytes rest : List ℕ) (cut : left ≡ bytes ++ rest) (whole : length bytes ≡ form.width) where
      next_inside : (n + 1) * form.width ≤ length claims
      next_inside =
          rw (add-mul, one-mul)
          (let h = length_left in
          let k = ap length cut ∙ length-append bytes rest in
          omega arith)

      pub counted : 0 < form.width → n < length claims / form.width
      counted some = let h = le-div (n + 1) (length claims) form.width some next_inside in omega arith

      pub answered_more : FormIn form → n < length before
          → Answered form claims before (n + 1) rest (set answers n (answer_at form bytes 0))
      answered_more ok room =
          let stands = front_stands claims left bytes rest (n * form.width) so_far.behind cut in
          let alone = answer_alone form bytes claims n (subst (Stands bytes claims (n * form.width)) whole stands) ok in
          record {
            inside = next_inside;
            behind =
                sym (drop-append_seam bytes rest) ∙ ap (drop (length bytes)) (sym cut ∙ so_far.behind) ∙ rw whole (rw (add-mul, one-mul) (drop-drop form.width (n * form.width) claims));
            answers_are = rw (so_far.answers_are, alone) (written_more n room);
          }

    -- none is left
    pub all_answered : 0 < form.width → length left < form.width → length claims / form.width ≡ n
    all_answered some h =
        div-eq_of_lt-le form.width so_far.inside (rw (add-mul, one-mul) (let k = length_left in omega arith))

  -- the buffer goes by the count that is returned
  pub after_rule : {r : Batch} → r ≡ batch_rule form (length claims) (length before)
      → written form claims r.count before ≡ answers_after form claims before
  unfolding answers_after
  after_rule e = ap (λ (b : Batch). written form claims b.count before) e
