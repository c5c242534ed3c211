-- The first number that passes a test: none before it does, it does itself unless it is past the last, and no other number is so.
-- Assumes nothing.
use mathlib.Core.Path.{◌≡◌, subst}
use mathlib.Core.Bool.{Bool, true, false, not}
use mathlib.Core.Logic.{⊎_elim}
use Prim.Native.Nat.{ℕ, zero, suc, ◌+◌, ◌-◌, ◌≤◌, ◌<◌}
use native.Mathlib.Omega.{arith}
use native.Mathlib.Nat.{le_antisymm, eq-or-lt_of_le, lt_of_not-le}
use lib.Dec.{T, T_not}
use Rattle.whole.specs.First.{first_from}
use Rattle.whole.proofs.Parts.{by_test}

-- k is the first of the n numbers from i on, or i + n
pub record First (test : ℕ → Bool) (i n k : ℕ) : Type 0 where
  pub from : i ≤ k
  pub to : k ≤ i + n
  pub before : (l : ℕ) → i ≤ l → l < k → T (not (test l))
  pub here : k < i + n → T (test k)

pub first : (test : ℕ → Bool) (i n : ℕ) → First test i n (first_from test i n)
unfolding first_from
first test i zero =
    record {
      from = omega arith;
      to = omega arith;
      before = λ l a b. absurd (let z : ⊥ = omega arith in z);
      here = λ h. absurd (let z : ⊥ = omega arith in z);
    }
first test i (suc n) =
    by_test (First test i (suc n)) (test i) i (first_from test (suc i) n)
    (λ p. record { from = omega arith; to = omega arith; before = λ l a b. absurd (let z : ⊥ = omega arith in z); here = λ h. p })
    (λ p.
    let r = first test (suc i) n in
    let f = r.from in
    let t = r.to in
    record {
      from = omega arith;
      to = omega arith;
      before = λ l a b. ⊎_elim (λ e. subst (λ (j : ℕ). T (not (test j))) e p) (λ g. r.before l g b) (eq-or-lt_of_le a);
      here = λ h. r.here (omega arith);
    })

-- there is only one first
pub only : (test : ℕ → Bool) (i n j k : ℕ) → First test i n j → First test i n k → j ≡ k
only test i n j k p q = le_antisymm (least j k p q) (least k j q p)
  where
    least : (j k : ℕ) → First test i n j → First test i n k → j ≤ k
    least j k p q =
        let t = p.to in
        let h : j < suc k = lt_of_not-le (λ l. T_not (test k) (p.before k q.from l) (q.here (omega arith))) in
        omega arith

-- ---- the search of n numbers, at number i: it ends there, or goes on behind it
pub stops : (test : ℕ → Bool) (i n : ℕ) → i < n → test i ≡ true → first_from test i (n - i) ≡ i
unfolding first_from
stops test i n h e = let l : n - i ≡ suc (n - suc i) = omega arith in rw (l, e)

pub goes : (test : ℕ → Bool) (i n : ℕ) → i < n → test i ≡ false → first_from test i (n - i) ≡ first_from test (suc i) (n - suc i)
unfolding first_from
goes test i n h e = let l : n - i ≡ suc (n - suc i) = omega arith in rw (l, e)
