-- Tests as facts: when two tests are one, when a comparison is a test, branches as a conjunction, and both and either of two.
-- Assumes nothing.
use mathlib.Core.Path.{◌≡◌, refl, sym, ap, subst, ◌∙◌}
use mathlib.Core.Bool.{Bool, true, false, not, ◌&&◌, ◌||◌}
use mathlib.Core.Logic.{◌⊎◌, inl, inr, ◌↔◌}
use Prim.Native.Nat.{ℕ, ◌≤◌}
use lib.Dec.{T, leb, leb→le, le→leb}

-- two tests that pass together are one
pub alike : (p q : Bool) → (T p → T q) → (T q → T p) → p ≡ q
alike true true f g = refl
alike true false f g = absurd (f tt)
alike false true f g = absurd (g tt)
alike false false f g = refl

-- a comparison that holds just where the test's meaning does is the test
pub by_meaning : (l r : ℕ) (t : Bool) {P : Type 0} → (T t ↔ P) → (l ≤ r → P) → (P → l ≤ r) → leb l r ≡ t
by_meaning l r t m f g = alike (leb l r) t (λ s. m.1 (f (leb→le l r s))) (λ s. le→leb l r (g (m.0 s)))

pub passed : (t : Bool) → true ≡ t → T t
passed t e = subst T e tt

pub passes : (t : Bool) → T t → true ≡ t
passes true s = refl
passes false s = absurd s

pub fails : (t : Bool) → (T t → ⊥) → false ≡ t
fails true f = absurd (f tt)
fails false f = refl

-- a test that does not fail passes
pub not_failed : (t : Bool) → (T (not t) → ⊥) → T t
not_failed true f = tt
not_failed false f = f tt

-- the first test passed, and the second is the answer
pub then_and : (a b : Bool) {r : Bool} → a ≡ true → r ≡ b → r ≡ (a && b)
then_and a b p q = q ∙ sym (ap (λ (t : Bool). t && b) p)

-- the first test failed
pub else_and : (a b : Bool) → a ≡ false → false ≡ (a && b)
else_and a b p = sym (ap (λ (t : Bool). t && b) p)

-- both tests, and either
pub both_parts : (p q : Bool) → T (p && q) → T p × T q
both_parts true q t = (tt, t)
both_parts false q t = absurd t

pub both : (p q : Bool) → T p → T q → T (p && q)
both true q s t = t
both false q s t = absurd s

pub either_part : (p q : Bool) → T (p || q) → T p ⊎ T q
either_part true q t = inl tt
either_part false q t = inr t

pub either : (p q : Bool) → T p ⊎ T q → T (p || q)
either true q h = tt
either false q h = elim h [ inl t ↦ absurd t | inr t ↦ t ]
