-- A rule of a table, shown at each of its entries by one test that is computed over the whole table. Assumes nothing.
use mathlib.Core.Path.{subst}
use mathlib.Core.Bool.{Bool, true, ◌&&◌}
use mathlib.Core.List.{List, [], ◌∷◌}
use Prim.Native.Nat.{ℕ, zero, suc, ◌+◌, ◌<◌}
use native.Mathlib.Omega.{arith}
use lib.Dec.{T}
use lib.ListN.{length, get_or}
use Rattle.whole.proofs.Bools.{both_parts}

-- the test passes at each entry and its place, counted from i
abbrev pub every : (ℕ → ℕ → Bool) → ℕ → List ℕ → Bool
every test i [] = true
every test i (n ∷ ns) = test i n && every test (suc i) ns

from : (test : ℕ → ℕ → Bool) (ns : List ℕ) (i : ℕ) → T (every test i ns) → (k : ℕ) → k < length ns → T (test (i + k) (get_or ns k 0))
from test [] i t k h = absurd (let n : ⊥ = omega arith in n)
from test (n ∷ ns) i t zero h =
    subst (λ (j : ℕ). T (test j n)) (omega arith) (both_parts (test i n) (every test (suc i) ns) t).0
from test (n ∷ ns) i t (suc k) h =
    subst (λ (j : ℕ). T (test j (get_or ns k 0))) (omega arith)
    (from test ns (suc i) (both_parts (test i n) (every test (suc i) ns) t).1 k (omega arith))

-- the law that carries the table's test to the entry used
pub at : (test : ℕ → ℕ → Bool) (ns : List ℕ) → T (every test 0 ns) → (k : ℕ) → k < length ns → T (test k (get_or ns k 0))
at test ns t k h = subst (λ (j : ℕ). T (test j (get_or ns k 0))) (omega arith) (from test ns 0 t k h)
