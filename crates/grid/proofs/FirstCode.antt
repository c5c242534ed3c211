-- What the answer to a call's checks says: a value where all of them passed, and else the first that failed; and of checks one after
-- the other. Assumes nothing.
use mathlib.Core.Path.{◌≡◌, refl, sym, ap, ◌∙◌, subst}
use mathlib.Core.Bool.{Bool, true, false, not, cond}
use mathlib.Core.List.{List, [], ◌∷◌, ◌++◌}
use mathlib.Core.Logic.{inl, inr}
use Prim.Native.Nat.{ℕ, ◌<◌}
use native.Mathlib.Omega.{arith}
use borrow.Author.Tests.{ne_eqb, eqb-true, eqb-false}
use lib.Dec.{T, T_not, ltb, eqb, ltb→lt}
use lib.Ieee.Fits.{eq→eqb}
use Rattle.std.specs.Prelude.{Result, Ok, Err, MatchResult}
use Rattle.std.proofs.lemmas.Result.{MatchResult-at_ok, MatchResult-at_err, MatchResult-weaker}
use Rattle.whole.proofs.Bools.{both_parts}
use Rattle.grid.specs.Codes.{Code, done, Check, number, failed, first_code, earlier, checked, allowed, answer, Passed}
use Rattle.grid.specs.Refuses.{FirstFails, all}
use Rattle.grid.specs.declared.codes.Refusal.{Refusal}

-- no code of a check is 0
abbrev pub coded : List Check → Bool
coded cs = all (λ (c : Check). ltb 0 (number (failed c.code))) cs

-- n is the code of a call with these checks
abbrev pub CodeOf : List Check → ℕ → Type 0
CodeOf cs n = n ≡ number (first_code cs)

-- where all checks pass, any answer that begins with them goes on
pub goes : {A : Type 0} (cs : List Check) → Passed cs → (zeros : ℕ → A) (given : A) → checked cs zeros given ≡ given
goes [] p zeros given = refl
goes {A} (c ∷ cs) p zeros given =
    ap (λ (t : Bool). cond t (zeros (number (failed c.code))) (checked cs zeros given)) p.0 ∙ goes cs p.1 zeros given

-- where the code is not 0, any answer that begins with them is refused with it
pub stops : {A : Type 0} (cs : List Check) (n : ℕ) → CodeOf cs n → (n ≡ 0 → ⊥) → (zeros : ℕ → A) (given : A)
    → checked cs zeros given ≡ zeros n
stops [] n e some zeros given = absurd (some e)
stops {A} (c ∷ cs) n e some zeros given = step c.fails (λ h. stops cs n h some zeros given) e
  where
    step : (t : Bool) → (CodeOf cs n → checked cs zeros given ≡ zeros n) → n ≡ number (cond t (failed c.code) (first_code cs))
        → cond t (zeros (number (failed c.code))) (checked cs zeros given) ≡ zeros n
    step true rest h = ap zeros (sym h)
    step false rest h = rest h

-- where it is 0, all checks passed
pub passed : (cs : List Check) → T (coded cs) → (n : ℕ) → CodeOf cs n → n ≡ 0 → Passed cs
passed [] t n e z = tt
passed (c ∷ cs) t n e z =
    let (some, named) = both_parts (ltb 0 (number (failed c.code))) (coded cs) t in
    step c.fails refl (ltb→lt 0 (number (failed c.code)) some) (λ h. passed cs named n h z) e
  where
    step : (f : Bool) → c.fails ≡ f → 0 < number (failed c.code) → (CodeOf cs n → Passed cs)
        → n ≡ number (cond f (failed c.code) (first_code cs)) → Passed (c ∷ cs)
    step true p some rest h = absurd (let w : ⊥ = omega arith in w)
    step false p some rest h = (p, rest h)

-- the code of a refusal is no other's
abbrev of_code : Refusal → Code → Refusal
of_code r done = r
of_code r (failed s) = s

one_refusal : {r s : Refusal} → failed r ≡ failed s → r ≡ s
one_refusal {r} e = ap (of_code r) e

abbrev IsDone : Code → Type 0
IsDone done = Unit {0}
IsDone (failed r) = ⊥

not_done : {r : Refusal} → done ≡ failed r → ⊥
not_done e = subst IsDone e tt

-- ---- a value that is made on the way

module _ {A : Type 0} (value : A) where
  says : (cs : List Check)
      → MatchResult (allowed cs value) (λ v. Passed cs × (v ≡ value)) (λ r. first_code cs ≡ failed r)
  says [] = (tt, refl)
  says (c ∷ cs) = step c.fails refl (says cs)
    where
      step : (t : Bool) → c.fails ≡ t → MatchResult (allowed cs value) (λ v. Passed cs × (v ≡ value)) (λ r. first_code cs ≡ failed r)
          → MatchResult (cond t (Err c.code) (allowed cs value)) (λ v. Passed (c ∷ cs) × (v ≡ value))
          (λ r. cond t (failed c.code) (first_code cs) ≡ failed r)
      step true p rest = refl
      step false p rest = MatchResult-weaker (allowed cs value) rest (λ v q. ((p, q.0), q.1)) (λ r q. q)

  -- where there is one, all checks passed, and it is what was given
  pub made : (cs : List Check) {v : A} → allowed cs value ≡ Ok v → Passed cs × (v ≡ value)
  made cs {v} e = MatchResult-at_ok _ _ v e (says cs)

  -- and where there is none, the refusal is that of the first that fails
  pub unmade : (cs : List Check) {r : Refusal} → allowed cs value ≡ Err r → first_code cs ≡ failed r
  unmade cs {r} e = MatchResult-at_err _ _ r e (says cs)

  -- checks that passed stand before any others, and so does one that failed
  pub passes : (cs ds : List Check) → Passed cs → allowed (cs ++ ds) value ≡ allowed ds value
  passes [] ds p = refl
  passes (c ∷ cs) ds p =
      ap (λ (t : Bool). cond t (Err c.code) (allowed (cs ++ ds) value)) p.0 ∙ passes cs ds p.1

  pub refuses : (cs ds : List Check) (r : Refusal) → first_code cs ≡ failed r → allowed (cs ++ ds) value ≡ Err r
  refuses [] ds r e = absurd (not_done e)
  refuses (c ∷ cs) ds r e = step c.fails (λ h. refuses cs ds r h) e
    where
      step : (t : Bool) → (first_code cs ≡ failed r → allowed (cs ++ ds) value ≡ Err r)
          → cond t (failed c.code) (first_code cs) ≡ failed r → cond t (Err c.code) (allowed (cs ++ ds) value) ≡ Err r
      step true rest h = ap Err (one_refusal h)
      step false rest h = rest h

-- answered, it is an entry's answer by the same checks
pub answers : {A B : Type 0} (zeros : ℕ → B) (given : A → B) (value : A) (cs : List Check)
    → answer zeros given (allowed cs value) ≡ checked cs zeros (given value)
answers zeros given value [] = refl
answers {A} {B} zeros given value (c ∷ cs) = step c.fails (answers zeros given value cs)
  where
    step : (t : Bool) → answer zeros given (allowed cs value) ≡ checked cs zeros (given value)
        → answer zeros given (cond t (Err c.code) (allowed cs value))
        ≡ cond t (zeros (number (failed c.code))) (checked cs zeros (given value))
    step true rest = refl
    step false rest = rest

-- so is what a function answers that makes it and has it answered
pub answered : {A B : Type 0} (zeros : ℕ → B) (given : A → B) (value : A) (cs : List Check) {known : Result A Refusal} {said : B}
    → said ≡ answer zeros given known → known ≡ allowed cs value → said ≡ checked cs zeros (given value)
answered zeros given value cs said known = said ∙ ap (answer zeros given) known ∙ answers zeros given value cs

-- ---- lists of checks

-- checks one after the other: the second code counts where the first is 0
pub in_turn : (cs ds : List Check) → T (coded cs) → (j k : ℕ) → CodeOf cs j → (j ≡ 0 → CodeOf ds k) → CodeOf (cs ++ ds) (earlier j k)
in_turn [] ds t j k e f = rw e (f e)
in_turn (c ∷ cs) ds t j k e f =
    let (some, named) = both_parts (ltb 0 (number (failed c.code))) (coded cs) t in
    step c.fails (ltb→lt 0 (number (failed c.code)) some) (λ h. in_turn cs ds named j k h f) e
  where
    step : (b : Bool) → 0 < number (failed c.code) → (CodeOf cs j → CodeOf (cs ++ ds) (earlier j k))
        → j ≡ number (cond b (failed c.code) (first_code cs)) → earlier j k ≡ number (cond b (failed c.code) (first_code (cs ++ ds)))
    step true some rest h = rw (ne_eqb j 0 (λ z. let w : ⊥ = omega arith in w)) h
    step false some rest h = rest h

-- with no code neither had one
pub neither_code : (j k : ℕ) → earlier j k ≡ 0 → (j ≡ 0) × (k ≡ 0)
neither_code j k e = by (eqb j 0) refl e
  where
    by : (t : Bool) → eqb j 0 ≡ t → cond t k j ≡ 0 → (j ≡ 0) × (k ≡ 0)
    by true p h = (eqb-true j 0 p, h)
    by false p h = absurd (eqb-false j 0 p h)

pub split : (cs ds : List Check) → Passed (cs ++ ds) → Passed cs × Passed ds
split [] ds p = (tt, p)
split (c ∷ cs) ds p = let q = split cs ds p.1 in ((p.0, q.0), q.1)

-- a code that only the last check has: all before it passed, and it failed
pub only_last : (k : ℕ) (cs : List Check) (c : Check) → T (all (λ (d : Check). not (eqb (number (failed d.code)) k)) cs)
    → FirstFails k (cs ++ c ∷ []) → Passed cs × (c.fails ≡ true)
only_last k [] c t f = elim f [ inl p ↦ (tt, p.0) | inr p ↦ absurd p.1 ]
only_last k (d ∷ cs) c t f =
    let (other, others) = both_parts (not (eqb (number (failed d.code)) k)) (all (λ (d : Check). not (eqb (number (failed d.code)) k)) cs) t in
    elim f [
      | inl p ↦ absurd (T_not (eqb (number (failed d.code)) k) other (eq→eqb p.1))
      | inr p ↦ let r = only_last k cs c others p.1 in ((p.0, r.0), r.1)
    ]

pub join : (cs ds : List Check) → Passed cs → Passed ds → Passed (cs ++ ds)
join [] ds p q = q
join (c ∷ cs) ds p q = (p.0, join cs ds p.1 q)
