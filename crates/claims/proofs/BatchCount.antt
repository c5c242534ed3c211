-- R51: what a batch returns in each of its cases, and its count. Assumes nothing.
use mathlib.Core.Path.{◌≡◌, refl, sym, ap}
use Prim.Native.Nat.{ℕ, ◌*◌, ◌%◌, ◌/◌, ◌≤◌, ◌<◌, zero-le}
use native.Mathlib.Nat.{div-add-mod'}
use native.Mathlib.Omega.{arith}
use borrow.Author.Tests.{eq-eqb, ne_eqb, lt-ltb, le-ltb, eqb-true, ltb-false, not-false}
use Rattle.std.specs.Prelude.{Result, Ok, Err}
use Rattle.std.specs.Result.{result_unwrap_or}
use Rattle.grid.specs.Refuses.{Refuses}
use Rattle.grid.specs.declared.codes.Refusal.{Refusal}
use Rattle.grid.proofs.FirstCode.{made, answered}
use Rattle.grid.proofs.Refuses.{makes}
use Rattle.grid.proofs.Outcomes.{of_checked}
use Rattle.claims.specs.Form.{Form}
use Rattle.claims.specs.Batch.{batch_checks, coded_count, batch_with, batch_answer, batch_rule}
use Rattle.claims.specs.declared.Batch.{Batch}

module _ (form : Form) (bytes room : ℕ) where
  pub rule_length : (bytes % form.width ≡ 0 → ⊥) → batch_with 7 0 ≡ batch_rule form bytes room
  unfolding batch_rule
  rule_length h = simp (ne_eqb _ _ h)

  -- where there are places for fewer answers
  pub rule_short : bytes % form.width ≡ 0 → room < bytes / form.width
      → batch_with 8 0 ≡ batch_rule form bytes room
  unfolding batch_rule
  rule_short e h = simp (eq-eqb _ _ e, lt-ltb _ _ h)

  pub rule_done : bytes % form.width ≡ 0 → bytes / form.width ≤ room
      → batch_with 0 (bytes / form.width) ≡ batch_rule form bytes room
  unfolding batch_rule
  rule_done e h = simp (eq-eqb _ _ e, le-ltb _ _ h)

  -- what the code returns of it is the batch's answer
  pub returned : {r : Result ℕ Refusal} {said : Batch} → said ≡ batch_answer r → r ≡ coded_count form bytes room → said ≡ batch_rule form bytes room
  unfolding batch_rule
  returned said counted =
      answered (λ k. batch_with k 0) (batch_with 0) (bytes / form.width) (batch_checks form bytes room) said counted

  -- and of it the count, none where it is refused
  pub counted_is : (r : Result ℕ Refusal) → r ≡ coded_count form bytes room → result_unwrap_or r 0 ≡ (batch_rule form bytes room).count
  counted_is (Ok n) e = ap (λ (b : Batch). b.count) (returned refl e)
  counted_is (Err x) e = ap (λ (b : Batch). b.count) (returned refl e)

  -- where claims are counted, each has a place for its answer
  pub count_is : {n : ℕ} → Ok n ≡ coded_count form bytes room → (n ≡ bytes / form.width) × (bytes / form.width ≤ room)
  count_is e =
      let (passed, same) = made (bytes / form.width) (batch_checks form bytes room) (sym e) in
      (same, ltb-false _ _ passed.1.0)

  -- what holds of both refusals, and of what is returned where neither test fails, holds of what the batch returns
  pub of_batch : (P : Batch → Type 0) → P (batch_with 7 0) → P (batch_with 8 0)
      → (bytes % form.width ≡ 0 → bytes / form.width ≤ room → P (batch_with 0 (bytes / form.width)))
      → P (batch_rule form bytes room)
  unfolding batch_rule
  of_batch P odd short done =
      of_checked P (λ k. batch_with k 0) (batch_with 0 (bytes / form.width)) (batch_checks form bytes room) (λ t. odd, (λ t. short, tt))
      (λ p. done (eqb-true _ _ (not-false _ p.0)) (ltb-false _ _ p.1.0))

  -- every answer has a place
  pub count_fits : (batch_rule form bytes room).count ≤ room
  count_fits = of_batch (λ (r : Batch). r.count ≤ room) zero-le zero-le (λ e h. h)

  -- and every record lies in the claims
  pub count_inside : (batch_rule form bytes room).count * form.width ≤ bytes
  count_inside =
      of_batch (λ (r : Batch). r.count * form.width ≤ bytes) (omega arith) (omega arith)
      (λ e h. omega (arith, div-add-mod' bytes form.width))

  -- R51: with code 0 every claim is counted, and no byte of the claims is left over
  pub done_count : (batch_rule form bytes room).code ≡ 0 → (batch_rule form bytes room).count * form.width ≡ bytes
  done_count =
      of_batch (λ (r : Batch). r.code ≡ 0 → r.count * form.width ≡ bytes)
      (λ z. absurd (let k : ⊥ = omega arith in k)) (λ z. absurd (let k : ⊥ = omega arith in k))
      (λ e h z. omega (arith, div-add-mod' bytes form.width))

  -- R7: beside a code the count is 0
  pub refused_count : ((batch_rule form bytes room).code ≡ 0 → ⊥) → (batch_rule form bytes room).count ≡ 0
  refused_count =
      of_batch (λ (r : Batch). (r.code ≡ 0 → ⊥) → r.count ≡ 0) (λ z. refl) (λ z. refl)
      (λ e h z. absurd (z refl))

pub batches : (form : Form) (bytes room : ℕ)
    → Refuses (batch_checks form bytes room) (λ (r : Batch). r.code) (λ k. batch_with k 0) (batch_rule form bytes room)
unfolding batch_rule
batches form bytes room =
    makes (batch_checks form bytes room) (λ (r : Batch). r.code) (λ k. batch_with k 0) (batch_with 0 (bytes / form.width)) refl (λ k. refl)
    tt
