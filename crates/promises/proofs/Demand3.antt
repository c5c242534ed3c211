-- The third demand is met. Assumes nothing.
use mathlib.Core.Path.{◌≡◌, sym, ap, subst, ◌∙◌}
use mathlib.Core.Bool.{Bool, true, false}
use mathlib.Core.List.{List, [], ◌∷◌}
use mathlib.Core.Logic.{inl, inr}
use Prim.Native.Nat.{ℕ, ◌*◌, ◌≤◌}
use native.Mathlib.Omega.{arith}
use native.Mathlib.Nat.{lt_of_not-le}
use native.Mathlib.Decide.{dec_le}
use lib.Dec.{T}
use lib.IntN.{ℤ, pos, nat_abs}
use lib.Signed.{◌≤ℤ◌}
use lib.Ieee.{Float}
use Rattle.grid.specs.Grid.{T_units, depths}
use Rattle.grid.proofs.FirstCode.{goes}
use Rattle.orbit.specs.Mirror.{mirror, mirror_end}
use Rattle.orbit.specs.Cell.{CellIn}
use Rattle.orbit.specs.Given.{Given, grid, mirrored_of, cell_of}
use Rattle.orbit.specs.Cell.{Cell}
use Rattle.orbit.proofs.Possible.{pos_le}
use Rattle.ends.specs.Ends.{end_at}
use Rattle.ends.specs.Entry.{flagged, lower_rule, upper_rule}
use Rattle.ends.proofs.Apart.{apart}
use Rattle.enclosure.proofs.Encloses.{code_zero, deeper_within}
use Rattle.judge.specs.Verdict.{verdict_number}
use Rattle.judge.specs.Judge.{Claim, claim_of, verdict, judge_rule}
use Rattle.judge.specs.declared.Judged.{Judged}
use Rattle.judge.specs.declared.Verdict.{Verdict}
use Rattle.judge.specs.declared.Verdict.TheVariants.{Confirmed, Refuted}
use Rattle.judge.proofs.Kept as judge
use Rattle.judge.specs.Exact.{at_depth}
use Rattle.judge.proofs.Answered.{case_in, judged_passed, confirmed_at, refuted_at}
use Rattle.step.specs.Step.{step_estimate}
use Rattle.step.specs.Entry.{step_from, judged_rule}
use Rattle.claims.specs.Form.{twenty}
use Rattle.claims.specs.Record.{reserved_check, claim_at, answer_at}
use Rattle.claims.proofs.AnswerBytes.{byte_of, byte_is}
use Rattle.promises.specs.Demand3.{Decided, Again, Demand3}
use Rattle.promises.proofs.Bytes.{byte_judged}
use Rattle.promises.proofs.Step.{judged_says, judged_again}
use Rattle.promises.proofs.Mirror.{neg-le, inside}
use Rattle.promises.proofs.Ends.{accepted_says}
use Rattle.promises.proofs.Flybys as flyby

two_verdicts : (r : Judged) → r ≡ verdict Confirmed → r ≡ verdict Refuted → ⊥
two_verdicts r e f = let h = ap (λ (r : Judged). r.verdict) (sym e ∙ f) in omega arith

-- a verdict is given at depths 1 to 5
few : (c : Claim) (v : Verdict) → judge_rule c ≡ verdict v → c.depth ≤ depths
few c v e = (case_in c (judged_passed c v e)).problem.depth.few

-- the lesser depth's verdict is the greater's too
never_both : (c : Claim) (d e : ℕ)
    → judge_rule (at_depth c d) ≡ verdict Confirmed → judge_rule (at_depth c e) ≡ verdict Refuted → ⊥
never_both c d e s t =
    elim (dec_le d e) [
      | yes h ↦
          two_verdicts (judge_rule (at_depth c e)) (confirmed_at (at_depth c d) e h (few (at_depth c e) Refuted t) s) t
      | no n ↦
          let h = lt_of_not-le n in
          two_verdicts (judge_rule (at_depth c d)) s (refuted_at (at_depth c e) d (omega arith) (few (at_depth c d) Confirmed s) t)
    ]

kept : (c : Claim) (v : Verdict) (e : ℕ) → Decided v → c.depth ≤ e → e ≤ depths
    → judge_rule c ≡ verdict v → judge_rule (at_depth c e) ≡ verdict v
kept c v e s h k j =
    elim s [
      | inl p ↦ rw p (confirmed_at c e h k (j ∙ ap verdict p))
      | inr p ↦ rw p (refuted_at c e h k (j ∙ ap verdict p))
    ]

-- a verdict on the claim of a record is its byte, where the reserved byte is 0
judged_byte : (claims : List ℕ) (i : ℕ) (v : Verdict) → (reserved_check twenty claims (i * twenty.width)).fails ≡ false
    → judge_rule (claim_at twenty claims i) ≡ verdict v → answer_at twenty claims i ≡ verdict_number v
judged_byte claims i v zero e =
    byte_is twenty claims i
    ∙ goes (reserved_check twenty claims (i * twenty.width) ∷ []) (zero, tt) (λ (k : ℕ). k) (byte_of (judge_rule (claim_at twenty claims i)))
    ∙ ap byte_of e

byte_kept : (claims others : List ℕ) (i j : ℕ) (v : Verdict) (e : ℕ) → Again claims i others j e → Decided v
    → (claim_at twenty claims i).depth ≤ e → e ≤ depths
    → answer_at twenty claims i ≡ verdict_number v → answer_at twenty others j ≡ verdict_number v
byte_kept claims others i j v e again s h k b =
    judged_byte others j v again.reserved
    (ap judge_rule again.claim ∙ kept (claim_at twenty claims i) v e s h k (byte_judged claims i v b))

bytes_never_both : (claims others : List ℕ) (i j e : ℕ) → Again claims i others j e
    → answer_at twenty claims i ≡ verdict_number Confirmed → answer_at twenty others j ≡ verdict_number Refuted → ⊥
bytes_never_both claims others i j e again s t =
    let c = claim_at twenty claims i in
    never_both c c.depth e (byte_judged claims i Confirmed s)
    (sym (ap judge_rule again.claim) ∙ byte_judged others j Refuted t)

-- ---- a judged step: whatever the depth, it is one step, and the judge has judged its estimate

step_kept : (m : ℤ) (a : ℕ) (x : Float) (method n d : ℕ) (v : Verdict) (e : ℕ) → Decided v → d ≤ e → e ≤ depths
    → (judged_rule m a x method n d).verdict ≡ verdict_number v → judged_rule m a x method n e ≡ judged_rule m a x method n d
step_kept m a x method n d v e s h k j =
    let (same, says) = judged_says m a x method n d v j in
    judged_again m a x method n d e v h k (kept (claim_of (grid m a) (step_estimate (step_from m a x method)) n d) v e s h k says) j

step_never_both : (m : ℤ) (a : ℕ) (x : Float) (method n d e : ℕ) → (judged_rule m a x method n d).verdict ≡ verdict_number Confirmed
    → (judged_rule m a x method n e).verdict ≡ verdict_number Refuted → ⊥
step_never_both m a x method n d e i j =
    let (p, c) = judged_says m a x method n d Confirmed i in
    let (q, r) = judged_says m a x method n e Refuted j in
    never_both (claim_of (grid m a) (step_estimate (step_from m a x method)) n d) d e c r

-- ---- the ends

-- R21: on the mirror the upper end is the lower one
module _ (c : Cell) (X Y d e : ℕ) (i : CellIn c) (x : X ≤ T_units) (y : Y ≤ T_units) (j : d ≤ depths) (k : e ≤ depths) where
  mirrored_apart : (mirrored : Bool) → T (end_at (mirror_end mirrored false) c d X) → T (end_at (mirror_end mirrored true) c e Y)
      → mirror mirrored (pos X) ≤ℤ mirror mirrored (pos Y)
  mirrored_apart false p q = pos_le (apart c X Y d e i x y j k p q)
  mirrored_apart true p q = neg-le (apart c Y X e d i y x k j q p)

ends_apart : (x y : ℤ) (g : Given) (d e : ℕ) → lower_rule x g d ≡ flagged true → upper_rule y g e ≡ flagged true → x ≤ℤ y
ends_apart x y g d e s t =
    let (f, p) = accepted_says false x g d s in
    let (k, q) = accepted_says true y g e t in
    subst (λ (z : ℤ). z ≤ℤ y) (sym f.side.sign)
    (subst (λ (z : ℤ). mirror (mirrored_of g) (pos (nat_abs x)) ≤ℤ z) (sym k.side.sign)
    (mirrored_apart (cell_of g) (nat_abs x) (nat_abs y) d e f.problem.cell f.side.angle k.side.angle
    f.problem.depth.few k.problem.depth.few (mirrored_of g) p q))

pub demand_3 : Demand3
demand_3 =
    record {
      kept = kept;
      tests_never_both = λ c u n d e within top i j. judge.never_both c u n within top d e i j;
      never_both = never_both;
      step_kept = step_kept;
      step_never_both = step_never_both;
      byte_kept = byte_kept;
      bytes_never_both = bytes_never_both;
      apart = ends_apart;
      within = λ g d e h s t.
          let w = deeper_within (cell_of g) d e h in
          rw ((code_zero g d s).ends, (code_zero g e t).ends) (inside _ _ _ _ (mirrored_of g) w.0 w.1);
      flyby_apart = flyby.ends_apart;
      flyby_never_both = flyby.never_both;
    }
