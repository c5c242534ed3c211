-- R49: a record by itself has the claim and the answer byte that it has among others. Assumes nothing.
use mathlib.Core.Path.{◌≡◌, refl, sym, ap, ap₂, ◌∙◌}
use mathlib.Core.List.{List, ◌++◌}
use Prim.Native.Nat.{ℕ, zero, suc, ◌+◌, ◌*◌, ◌≤◌, ◌<◌}
use native.Mathlib.Nat.{zero-mul, zero-add}
use native.Mathlib.Omega.{arith}
use lib.ListN.{length, drop, get_or, get_or-append}
use lib.Seq.{get_or-drop}
use Rattle.little.specs.LittleEndian.{little_endian}
use Rattle.claims.specs.Form.{Form, FormIn, FieldIn, value_of}
use Rattle.claims.specs.Record.{answer_at}
use Rattle.claims.specs.declared.form.Field.{Field}
use Rattle.claims.proofs.AnswerBytes.{byte_is}

-- bytes of another list, from a place on
abbrev pub Stands : List ℕ → List ℕ → ℕ → ℕ → Type 0
Stands part whole start width = (k : ℕ) → k < width → get_or part k 0 ≡ get_or whole (start + k) 0

module _ (part whole : List ℕ) (start width : ℕ) (stands : Stands part whole start width) where
  same_number : (at n : ℕ) → at + n ≤ width → little_endian part at n ≡ little_endian whole (start + at) n
  unfolding little_endian
  same_number at zero h = refl
  same_number at (suc n) h =
      let rest = same_number (at + 1) n (omega arith) in
      let place : start + (at + 1) ≡ start + at + 1 = omega arith in
      ap₂ (λ (x y : ℕ). x + 256 * y) (stands at (omega arith))
      (rest ∙ ap (λ (k : ℕ). little_endian whole k n) place)

module _ (form : Form) (bytes claims : List ℕ) (i : ℕ) (stands : Stands bytes claims (i * form.width) form.width) (ok : FormIn form) where
  same_value : (most : ℕ) (f : Field) → FieldIn form.width most f → value_of bytes 0 f ≡ value_of claims (i * form.width) f
  same_value most f k =
      rw zero-add (same_number bytes claims (i * form.width) form.width stands f.at f.bytes k.inside)

  pub answer_alone : answer_at form bytes 0 ≡ answer_at form claims i
  answer_alone =
      rw (
        byte_is form bytes 0,
        byte_is form claims i,
        zero-mul,
        same_value _ _ ok.m,
        same_value _ _ ok.a,
        same_value _ _ ok.estimate,
        same_value _ _ ok.n,
        same_value _ _ ok.depth,
        same_value _ _ ok.reserved,
      )

-- a record at the front of what is left
pub front_stands : (claims left bytes rest : List ℕ) (start : ℕ) → left ≡ drop start claims → left ≡ bytes ++ rest
    → Stands bytes claims start (length bytes)
front_stands claims left bytes rest start e f k h =
    sym (get_or-append bytes rest 0 k h) ∙ ap (λ (l : List ℕ). get_or l k 0) (sym f ∙ e) ∙ get_or-drop start claims k 0
