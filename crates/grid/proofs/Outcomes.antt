-- What an answer can be: the refusal of one of its checks, or what is given where all pass. Assumes nothing.
use mathlib.Core.Path.{◌≡◌, refl}
use mathlib.Core.Bool.{Bool, true, false, cond}
use mathlib.Core.List.{List, [], ◌∷◌}
use Prim.Native.Nat.{ℕ}
use Rattle.grid.specs.Codes.{Check, number, failed, checked, Passed}

-- P holds of the refusal of every check that fails
abbrev pub Each : {A : Type 0} (P : A → Type 0) (refused : ℕ → A) → List Check → Type 0
Each P refused [] = Unit {0}
Each P refused (c ∷ cs) = (c.fails ≡ true → P (refused (number (failed c.code)))) × Each P refused cs

module _ {A : Type 0} (P : A → Type 0) (refused : ℕ → A) (given : A) where
  by_first : (t : Bool) (x y : A) → (t ≡ true → P x) → (t ≡ false → P y) → P (cond t x y)
  by_first true x y f g = f refl
  by_first false x y f g = g refl

  -- what holds of every refusal, and of what is given, holds of the answer
  pub of_checked : (cs : List Check) → Each P refused cs → (Passed cs → P given) → P (checked cs refused given)
  of_checked [] each last = last tt
  of_checked (c ∷ cs) each last =
      by_first c.fails (refused (number (failed c.code))) (checked cs refused given) each.0
      (λ p. of_checked cs each.1 (λ ps. last (p, ps)))
