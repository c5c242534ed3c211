-- An answer that begins with checks refuses as the first demand asks, whatever the entry. Assumes nothing.
use mathlib.Core.Path.{◌≡◌, refl, sym, ap, ap₂, subst, ◌∙◌}
use mathlib.Core.Bool.{Bool, true, false, cond, true≢false}
use mathlib.Core.List.{List, [], ◌∷◌, ◌++◌}
use mathlib.Core.Logic.{◌⊎◌, inl, inr, ◌↔◌}
use Prim.Native.Nat.{ℕ, ◌<◌}
use native.Mathlib.Omega.{arith}
use lib.Dec.{T, eqb, ltb, ltb→lt}
use Rattle.whole.proofs.Bools.{both_parts}
use Rattle.std.specs.Prelude.{Result, Ok, Err}
use Rattle.grid.specs.Codes.{Code, Check, number, failed, numbered_in, order, first_code, earlier, checked, allowed, code_in, only_code, Passed}
use Rattle.grid.specs.declared.codes.Refusal.{Refusal}
use Rattle.grid.specs.declared.codes.Refusal.TheVariants.{BadM, BadA, BadDepth, BadEstimate, BadN, NoUpperEnd, BadLength, ShortAnswers, BadReserved, BadX, NoFlybyEnd, BadMethod}
use Rattle.grid.specs.Refuses.{FirstFails, Refuses}
use Rattle.grid.proofs.FirstCode.{coded, CodeOf, goes, neither_code}
use Rattle.grid.proofs.FirstCode as codes

module _ {A : Type 0} (code : A → ℕ) (zeros : ℕ → A) where
  -- one check more: it fails, or the rest answers
  module _ (n : ℕ) (own : code (zeros n) ≡ n) (rest : A) where
    named_step : (t : Bool) (k : Code) (f : Code) → number k ≡ n → code rest ≡ number f
        → code (cond t (zeros n) rest) ≡ number (cond t k f)
    named_step true k f e h = own ∙ sym e
    named_step false k f e h = h

    coded_step : (t : Bool) (k : ℕ) (F : Type 0) → (code rest ≡ k ↔ F)
        → code (cond t (zeros n) rest) ≡ k ↔ ((t ≡ true) × (n ≡ k)) ⊎ ((t ≡ false) × F)
    coded_step true k F h = (
      λ e. inl (refl, sym own ∙ e),
      λ s. elim s [
        | inl p ↦ own ∙ p.1
        | inr p ↦ absurd (true≢false p.0)
      ],
    )
    coded_step false k F h = (
      λ e. inr (refl, h.0 e),
      λ s. elim s [
        | inl p ↦ absurd (true≢false (sym p.0))
        | inr p ↦ h.1 p.1
      ],
    )

    passed_step : (t : Bool) (F : Type 0) → 0 < n → (code rest ≡ 0 ↔ F) → code (cond t (zeros n) rest) ≡ 0 ↔ (t ≡ false) × F
    passed_step true F some h = (λ e. absurd (let z : ⊥ = omega arith in z), λ p. absurd (true≢false p.0))
    passed_step false F some h = (λ e. (refl, h.0 e), λ p. h.1 p.1)

    others_step : (t : Bool) → ((code rest ≡ 0 → ⊥) → rest ≡ zeros (code rest)) → (code (cond t (zeros n) rest) ≡ 0 → ⊥)
        → cond t (zeros n) rest ≡ zeros (code (cond t (zeros n) rest))
    others_step true h f = ap zeros (sym own)
    others_step false h f = h f

-- the refusal of each of these checks has the check's own code
abbrev pub Own : {A : Type 0} → (A → ℕ) → (ℕ → A) → List Check → Type 0
Own code zeros [] = Unit {0}
Own code zeros (c ∷ cs) = (code (zeros (number (failed c.code))) ≡ number (failed c.code)) × Own code zeros cs

-- every refusal has its code, and what is given has code 0
module _ {A : Type 0} (code : A → ℕ) (zeros : ℕ → A) (given : A) (zero : code given ≡ 0) where
  pub refuses : (cs : List Check) → Own code zeros cs → T (coded cs) → Refuses cs code zeros (checked cs zeros given)
  refuses [] own t =
      record {
        named = zero;
        coded = λ k some. (λ e. some (sym e ∙ zero), λ f. absurd f);
        passed = (λ e. tt, λ p. zero);
        others = λ f. absurd (f zero);
      }
  refuses (c ∷ cs) own t =
      let n = number (failed c.code) in
      let r = checked cs zeros given in
      let b = both_parts (ltb 0 n) (coded cs) t in
      let h = refuses cs own.1 b.1 in
      let o = own.0 in
      record {
        named = named_step code zeros n o r c.fails (failed c.code) (first_code cs) refl h.named;
        coded = λ k some. coded_step code zeros n o r c.fails k (FirstFails k cs) (h.coded k some);
        passed = passed_step code zeros n o r c.fails (Passed cs) (ltb→lt 0 n b.0) h.passed;
        others = others_step code zeros n o r c.fails h.others;
      }

-- An answer by checks whose refusals keep the code they are given refuses as the first demand asks.
pub makes : {A : Type 0} (cs : List Check) (code : A → ℕ) (zeros : ℕ → A) (given : A)
    → code given ≡ 0 → ((k : ℕ) → code (zeros k) ≡ k) → T (coded cs) → Refuses cs code zeros (checked cs zeros given)
makes {A} cs code zeros given zero keeps t = refuses code zeros given zero cs (own cs) t
  where
    own : (ds : List Check) → Own code zeros ds
    own [] = tt
    own (c ∷ ds) = (keeps (number (failed c.code)), own ds)

-- and with code 0 it is what is given
pub gives : {A : Type 0} {cs : List Check} {code : A → ℕ} {zeros : ℕ → A} (given : A)
    → Refuses cs code zeros (checked cs zeros given) → code (checked cs zeros given) ≡ 0 → checked cs zeros given ≡ given
gives {A} {cs} {code} {zeros} given demand e = goes cs (demand.passed.0 e) zeros given

-- ---- a value that is made on the way

-- a refusal has its number alone
numbered_back : (r : Refusal) → numbered_in order (number (failed r)) ≡ r
numbered_back BadM = refl
numbered_back BadA = refl
numbered_back BadDepth = refl
numbered_back BadEstimate = refl
numbered_back BadN = refl
numbered_back NoUpperEnd = refl
numbered_back BadLength = refl
numbered_back ShortAnswers = refl
numbered_back BadReserved = refl
numbered_back BadX = refl
numbered_back NoFlybyEnd = refl
numbered_back BadMethod = refl

-- so a value that is made on the way is an answer too, whose refusals are only a code
pub as_checked : {A : Type 0} (value : A) (cs : List Check) → allowed cs value ≡ checked cs only_code (Ok value)
as_checked value [] = refl
as_checked {A} value (c ∷ cs) =
    ap₂ (λ (x y : Result A Refusal). cond c.fails x y) (ap Err (sym (numbered_back c.code))) (as_checked value cs)

pub makes_value : {A : Type 0} (value : A) (cs : List Check) → T (coded cs) → Refuses cs code_in only_code (allowed cs value)
makes_value {A} value cs t =
    subst (Refuses cs code_in only_code) (sym (as_checked value cs)) (refuses code_in only_code (Ok value) refl cs (own cs) t)
  where
    own : (ds : List Check) → Own {A = Result A Refusal} code_in only_code ds
    own [] = tt
    own (c ∷ ds) = (ap (λ r. number (failed r)) (numbered_back c.code), own ds)

pub gives_value : {A : Type 0} (value : A) (cs : List Check) → T (coded cs) → code_in (allowed cs value) ≡ 0 → allowed cs value ≡ Ok value
gives_value {A} value cs t e =
    let passed = (makes_value value cs t).passed.0 e in
    as_checked value cs ∙ goes cs passed only_code (Ok value)

-- no refusal has the code of a call that is done
not_zero : (r : Refusal) → eqb (number (failed r)) 0 ≡ false
not_zero BadM = refl
not_zero BadA = refl
not_zero BadDepth = refl
not_zero BadEstimate = refl
not_zero BadN = refl
not_zero NoUpperEnd = refl
not_zero BadLength = refl
not_zero ShortAnswers = refl
not_zero BadReserved = refl
not_zero BadX = refl
not_zero NoFlybyEnd = refl
not_zero BadMethod = refl

-- the code of checks one after the other
pub in_turn : (cs ds : List Check) → number (first_code (cs ++ ds)) ≡ earlier (number (first_code cs)) (number (first_code ds))
in_turn [] ds = refl
in_turn (c ∷ cs) ds = step c.fails (in_turn cs ds)
  where
    step : (b : Bool) → number (first_code (cs ++ ds)) ≡ earlier (number (first_code cs)) (number (first_code ds))
        → number (cond b (failed c.code) (first_code (cs ++ ds)))
        ≡ earlier (number (cond b (failed c.code) (first_code cs))) (number (first_code ds))
    step true rest = rw (not_zero c.code) refl
    step false rest = rest

-- n is the code of these checks, and where it is 0 a value is known
pub record Says (cs : List Check) (n : ℕ) (Known : Type 0) : Type 0 where
  pub code_is : CodeOf cs n
  pub made : n ≡ 0 → Known

-- so it is of an answer by them, and what is known is that it is what is given
pub says : {A : Type 0} {cs : List Check} {code : A → ℕ} {zeros : ℕ → A} {given : A} → Refuses cs code zeros (checked cs zeros given)
    → (r : A) → r ≡ checked cs zeros given → Says cs (code r) (r ≡ given)
says {A} {cs} {code} {zeros} {given} demand r e =
    record {
      code_is = ap code e ∙ demand.named;
      made = λ z. e ∙ goes cs (demand.passed.0 (sym (ap code e) ∙ z)) zeros given;
    }

-- checks one after the other: what the second says counts where the first had no code
pub then : {cs ds : List Check} {j k : ℕ} {Left Right : Type 0} → T (coded cs) → Says cs j Left → (j ≡ 0 → Says ds k Right)
    → (n : ℕ) → n ≡ earlier j k → Says (cs ++ ds) n (Left × Right)
then {cs} {ds} {j} {k} t s r n e =
    record {
      code_is = e ∙ codes.in_turn cs ds t j k s.code_is (λ z. (r z).code_is);
      made = λ z. let w = neither_code j k (sym e ∙ z) in (s.made w.0, (r w.0).made w.1);
    }

-- a function of an answer is an answer with that function of each refusal, and of what is given
pub through : {A B : Type 0} (f : A → B) (zeros : ℕ → A) (given : A) (cs : List Check)
    → f (checked cs zeros given) ≡ checked cs (λ (k : ℕ). f (zeros k)) (f given)
through f zeros given [] = refl
through {A} {B} f zeros given (c ∷ cs) =
    either c.fails (zeros (number (failed c.code))) (checked cs zeros given)
    ∙ ap (λ (b : B). cond c.fails (f (zeros (number (failed c.code)))) b) (through f zeros given cs)
  where
    either : (t : Bool) (x y : A) → f (cond t x y) ≡ cond t (f x) (f y)
    either true x y = refl
    either false x y = refl

-- answers whose refusals are alike
pub alike_refused : {A : Type 0} (f g : ℕ → A) → ((k : ℕ) → f k ≡ g k) → (given : A) (cs : List Check) → checked cs f given ≡ checked cs g given
alike_refused f g h given [] = refl
alike_refused {A} f g h given (c ∷ cs) =
    ap₂ (λ (x y : A). cond c.fails x y) (h (number (failed c.code))) (alike_refused f g h given cs)

-- answers that give the same where every check passes
pub alike_given : {A : Type 0} (zeros : ℕ → A) (x y : A) (cs : List Check) → (Passed cs → x ≡ y) → checked cs zeros x ≡ checked cs zeros y
alike_given zeros x y [] h = h tt
alike_given {A} zeros x y (c ∷ cs) h = by_check c.fails (λ e. alike_given zeros x y cs (λ p. h (e, p)))
  where
    by_check : (t : Bool) → (t ≡ false → checked cs zeros x ≡ checked cs zeros y)
        → cond t (zeros (number (failed c.code))) (checked cs zeros x) ≡ cond t (zeros (number (failed c.code))) (checked cs zeros y)
    by_check true f = refl
    by_check false f = f refl
