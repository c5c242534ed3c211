-- The smallest number that passes a test is the first from 0 on, and there is only one. Assumes nothing.
use mathlib.Core.Path.{◌≡◌, sym, subst}
use mathlib.Core.Bool.{Bool, not}
use mathlib.Core.Logic.{⊎_elim}
use Prim.Native.Nat.{ℕ, ◌≤◌, ◌<◌}
use native.Mathlib.Omega.{arith}
use native.Mathlib.Nat.{eq-or-lt_of_le, lt_of_not-le}
use lib.Dec.{T, T_not}
use Rattle.whole.specs.First.{first_from}
use Rattle.whole.proofs.First as numbers
use Rattle.proposal.specs.Certify.{Smallest}

-- what fails at i, and passes at k, which is i or above: k is above
pub above : (test : ℕ → Bool) {i k : ℕ} → i ≤ k → T (not (test i)) → T (test k) → i < k
above test {i} {k} h p t =
    ⊎_elim (λ e. absurd (T_not (test i) p (subst (λ (m : ℕ). T (test m)) (sym e) t))) (λ l. l) (eq-or-lt_of_le h)

-- where some number below n passes, the search gives the smallest
pub smallest : (test : ℕ → Bool) (n k : ℕ) → k < n → T (test k) → Smallest test n (first_from test 0 n)
smallest test n k h t =
    let r = numbers.first test 0 n in
    let l = lt_of_not-le (λ l. T_not (test k) (r.before k (omega arith) l) t) in
    record { within = omega arith; here = r.here (omega arith); before = λ m b. r.before m (omega arith) b }

-- there is only one smallest
pub only : (test : ℕ → Bool) (n i j : ℕ) → Smallest test n i → Smallest test n j → i ≡ j
only test n i j p q = numbers.only test 0 n i j (is_first i p) (is_first j q)
  where
    is_first : (k : ℕ) → Smallest test n k → numbers.First test 0 n k
    is_first k s =
        let w = s.within in
        record { from = omega arith; to = omega arith; before = λ l a b. s.before l b; here = λ h. s.here }
