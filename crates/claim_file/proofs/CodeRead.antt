-- What is read, and what is written for it.
use Rattle.std.proofs.Common.{◌≡◌, ◌∙◌, sym, ap, subst, ℕ, ◌+◌, ◌≤◌, ◌<◌, Bool, true, false, ltb, refl, Option, None, Some, IfSome, Result, Ok, Err, OnOk, List, [], ◌++◌, length, take, append_assoc, append-nil, length-append, length-take-le, arith}
use Rattle.std.proofs.lemmas.List.{take-append-le}
use Rattle.std.proofs.Math.Seq.{take-append-add}
use borrow.Rule.Slice.PartMut.{put_mid, post_of}
use borrow.Author.Tests.{ltb-true, ltb-false}
use Rattle.std.specs.Io.KnownBytes.{Consumes, Appends, IsAtEnd}
use Rattle.claim_file.specs.File.{most_bytes, output}
use Rattle.claim_file.proofs.Output.{longer}

-- one read after others
pub consumes_more : (old mid new : Option (List ℕ)) (xs ys : List ℕ)
    → Consumes old mid xs → Consumes mid new ys → Consumes old new (xs ++ ys)
consumes_more None mid new xs ys p q = tt
consumes_more (Some a) None new xs ys p q = absurd p
consumes_more (Some a) (Some b) None xs ys p q = absurd q
consumes_more (Some a) (Some b) (Some c) xs ys p q = p ∙ ap (λ (z : List ℕ). xs ++ z) q ∙ sym (append_assoc xs ys c)

-- the bytes that are read after `done` others
pub taken_more : (input buf : List ℕ) (done n rest : ℕ) → done ≤ length input → n ≤ length buf
    → take (done + n) (put_mid done rest input buf) ≡ take done input ++ take n buf
taken_more input buf done n rest p q =
    let front = take done input in
    let all = put_mid done rest input buf in
    let e : length front ≡ done = length-take-le done input p in
    ap (λ (k : ℕ). take (k + n) all) (sym e)
    ∙ take-append-add front (buf ++ post_of done rest input) n
    ∙ ap (λ (l : List ℕ). front ++ l) (take-append-le n buf (post_of done rest input) q)

-- what is written for bytes of which the longest input and one byte more are read
pub output_read : (bytes front rest : List ℕ) → bytes ≡ front ++ rest
    → (length front ≤ most_bytes → rest ≡ []) → output front ≡ output bytes
output_read bytes front rest e end = by_length (ltb most_bytes (length front)) refl
  where
    by_length : (t : Bool) → ltb most_bytes (length front) ≡ t → output front ≡ output bytes
    by_length true t =
        let h = ltb-true _ _ t in
        let more : length bytes ≡ length front + length rest = ap length e ∙ length-append front rest in
        longer front h ∙ sym (longer bytes (omega arith))
    by_length false t =
        ap output (sym (e ∙ ap (λ (l : List ℕ). front ++ l) (end (ltb-false _ _ t)) ∙ append-nil front))

-- the bytes that are written, beside what the reader had
pub judged : {A E : Type 0} (r : Result A E) (old new before after : Option (List ℕ)) (input : List ℕ) (n : ℕ)
    → length input ≡ most_bytes + 1 → n ≤ length input
    → Consumes old new (take n input) → (n < length input → IsAtEnd new)
    → OnOk r (Appends before after (output (take n input)))
    → OnOk r (IfSome old (λ (bytes : List ℕ). Appends before after (output bytes)))
judged (Err x) old new before after input n l w p e a = tt
judged (Ok x) None new before after input n l w p e a = tt
judged (Ok x) (Some xs) None before after input n l w p e a = absurd p
judged (Ok x) (Some xs) (Some ys) before after input n l w p e a =
    let k : length (take n input) ≡ n = length-take-le n input w in
    subst (λ (z : List ℕ). Appends before after z) (output_read xs (take n input) ys p (λ h. e (omega arith))) a
