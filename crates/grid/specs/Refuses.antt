-- How an entry that begins with checks refuses, R5 to R7: the first demand of any such entry.
use Rattle.std.specs.Prelude.{◌≡◌, Bool, true, false, ◌&&◌, cond, List, [], ◌∷◌, ◌⊎◌, ◌↔◌, ℕ, eqb}
use Rattle.grid.specs.Codes.{Check, number, done, failed, first_code, Passed}
use Rattle.grid.specs.declared.codes.Refusal.{Refusal}

-- R5: a check with the number k fails, and none before it does
abbrev pub FirstFails : ℕ → List Check → Type 0
FirstFails k [] = ⊥
FirstFails k (c ∷ cs) =
    ((c.fails ≡ true) × (number (failed c.code) ≡ k)) ⊎ ((c.fails ≡ false) × FirstFails k cs)

-- R5 to R7: the answer r of an entry with these checks, where `code` is the answer's code and `zeros k` the answer of code k whose
-- other numbers are all 0
pub record Refuses {A : Type 0} (checks : List Check) (code : A → ℕ) (zeros : ℕ → A) (r : A) : Type 0 where
  -- R6: the code is that of the first check that fails
  pub named : code r ≡ number (first_code checks)
  -- R5: a code is answered exactly when its check fails and none before it does
  pub coded : (k : ℕ) → (k ≡ number done → ⊥) → code r ≡ k ↔ FirstFails k checks
  -- R5: and `done` exactly when no check fails
  pub passed : code r ≡ number done ↔ Passed checks
  -- R7: the other numbers are then zero
  pub others : (code r ≡ number done → ⊥) → r ≡ zeros (code r)

-- ---- the order, and that a code is its own

-- R6: whether the checks have their codes in the order of a list of codes
abbrev pub is_in_order : List Refusal → List Check → Bool
is_in_order ks [] = true
is_in_order [] (c ∷ cs) = false
is_in_order (k ∷ ks) (c ∷ cs) =
    cond (eqb (number (failed k)) (number (failed c.code))) (is_in_order ks cs) (is_in_order ks (c ∷ cs))

-- R5: whether a number is a code of a list
abbrev pub among : ℕ → List Refusal → Bool
among n [] = false
among n (k ∷ ks) = cond (eqb n (number (failed k))) true (among n ks)

-- R5: whether no two codes of a list have one number
abbrev pub distinct : List Refusal → Bool
distinct [] = true
distinct (k ∷ ks) = cond (among (number (failed k)) ks) false (distinct ks)

-- R6: whether a test holds of all
abbrev pub all : {A : Type 0} → (A → Bool) → List A → Bool
all test [] = true
all test (x ∷ xs) = test x && all test xs
