-- R52: the answers buffer byte by byte: below the count the record's answer byte, from the count on what was there.
-- Assumes nothing.
use mathlib.Core.Path.{◌≡◌, refl, sym, ap, ◌∙◌}
use mathlib.Core.Bool.{Bool, true, false}
use mathlib.Core.Logic.{⊎_elim}
use mathlib.Core.List.{List, [], ◌∷◌, ◌++◌}
use Prim.Native.Nat.{ℕ, zero, suc, ◌+◌, ◌-◌, ◌≤◌, ◌<◌}
use native.Mathlib.Nat.{eq-or-lt_of_le, le_of_suc-le-suc}
use native.Mathlib.Omega.{arith}
use borrow.Author.Tests.{ltb-true, ltb-false}
use lib.Dec.{ltb}
use lib.ListN.{length, drop, get_or, length-append, length-drop, get_or-append}
use lib.Seq.{get_or_at, get_or-append-add, get_or-drop, ext_get_or}
use Rattle.claims.specs.Form.{Form}
use Rattle.claims.specs.Record.{answer_at}
use Rattle.claims.specs.Batch.{batch_rule, up_to, written, answers_after}
use Rattle.claims.proofs.BatchCount.{count_fits, refused_count}

pub length_up_to : (f : ℕ → ℕ) (n : ℕ) → length (up_to f n) ≡ n
unfolding up_to
length_up_to f zero = refl
length_up_to f (suc n) = simp length-append (let h = length_up_to f n in omega arith)

up_to_at : (f : ℕ → ℕ) (n i : ℕ) → i < n → get_or (up_to f n) i 0 ≡ f i
unfolding up_to
up_to_at f zero i h = absurd (let k : ⊥ = omega arith in k)
up_to_at f (suc n) i h =
    ⊎_elim
    (λ e. rw e (get_or_at (up_to f n) (f n) [] 0 n (length_up_to f n)))
    (λ l.
    get_or-append (up_to f n) (f n ∷ []) 0 i (let k = length_up_to f n in omega arith) ∙ up_to_at f n i l)
    (eq-or-lt_of_le (le_of_suc-le-suc h))

module _ (form : Form) (claims before : List ℕ) (n : ℕ) where
  written_below : (i : ℕ) → i < n → get_or (written form claims n before) i 0 ≡ answer_at form claims i
  written_below i h =
      let f = answer_at form claims in
      get_or-append (up_to f n) (drop n before) 0 i (let k = length_up_to f n in omega arith) ∙ up_to_at f n i h

  written_above : (i : ℕ) → n ≤ i → get_or (written form claims n before) i 0 ≡ get_or before i 0
  written_above i h =
      let f = answer_at form claims in
      let k = length_up_to f n in
      let past : length (up_to f n) + (i - n) ≡ i = omega arith in
      let back : n + (i - n) ≡ i = omega arith in
      ap (λ (j : ℕ). get_or (up_to f n ++ drop n before) j 0) (sym past)
      ∙ get_or-append-add (up_to f n) (drop n before) (i - n) 0
      ∙ get_or-drop n before (i - n) 0
      ∙ ap (λ (j : ℕ). get_or before j 0) back

module _ (form : Form) (claims before : List ℕ) where
  pub written_none : before ≡ written form claims 0 before
  unfolding up_to
  written_none = refl

  pub length-written : (n : ℕ) → n ≤ length before → length (written form claims n before) ≡ length before
  length-written n h =
      simp (length-append, length-drop) (let k = length_up_to (answer_at form claims) n in omega arith)

  abbrev counted : ℕ
  counted = (batch_rule form (length claims) (length before)).count

  pub length_kept : length (answers_after form claims before) ≡ length before
  unfolding answers_after
  length_kept = length-written counted (count_fits form (length claims) (length before))

  -- R52: byte i, below the count, is the answer byte of record i
  pub byte_answered : (i : ℕ) → i < (batch_rule form (length claims) (length before)).count
      → get_or (answers_after form claims before) i 0 ≡ answer_at form claims i
  unfolding answers_after
  byte_answered = written_below form claims before counted

  -- R52: from the count on every byte is what it was
  pub byte_kept : (i : ℕ) → (batch_rule form (length claims) (length before)).count ≤ i
      → get_or (answers_after form claims before) i 0 ≡ get_or before i 0
  unfolding answers_after
  byte_kept = written_above form claims before counted

  -- R55: no other buffer is as long and has these bytes
  pub only_answers : (after : List ℕ) → length after ≡ length before
      → ((i : ℕ) → i < (batch_rule form (length claims) (length before)).count → get_or after i 0 ≡ answer_at form claims i)
      → ((i : ℕ) → (batch_rule form (length claims) (length before)).count ≤ i → get_or after i 0 ≡ get_or before i 0)
      → after ≡ answers_after form claims before
  only_answers after same below above =
      ext_get_or 0 after (answers_after form claims before) (same ∙ sym length_kept) (λ i h. agree i (ltb i counted) refl)
    where
      agree : (i : ℕ) (t : Bool) → ltb i counted ≡ t → get_or after i 0 ≡ get_or (answers_after form claims before) i 0
      agree i true t = let k = ltb-true _ _ t in below i k ∙ sym (byte_answered i k)
      agree i false t = let k = ltb-false _ _ t in above i k ∙ sym (byte_kept i k)

  -- R7: beside a code the whole answers buffer is what it was
  pub refused_kept : ((batch_rule form (length claims) (length before)).code ≡ 0 → ⊥) → answers_after form claims before ≡ before
  unfolding answers_after
  refused_kept h =
      ap (λ (n : ℕ). written form claims n before) (refused_count form (length claims) (length before) h)
      ∙ sym written_none
