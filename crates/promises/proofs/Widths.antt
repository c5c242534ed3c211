-- R63 for either sign of M: how far apart the ends of an enclosure are. Assumes nothing.
use mathlib.Core.Path.{◌≡◌, sym, ap, subst}
use mathlib.Core.Bool.{Bool, true, false}
use Prim.Native.Nat.{ℕ, ◌+◌, ◌-◌, ◌*◌, ◌≤◌, ◌<◌}
use native.Mathlib.Omega.{arith}
use native.Mathlib.Nat.{mul-le-mul_right, lt_of_not-le}
use native.Mathlib.Decide.{dec_le}
use lib.IntN.{ℤ, pos, nat_abs, ◌-ℤ◌, ◌*ℤ◌}
use lib.Signed.{◌≤ℤ◌, ◌<ℤ◌}
use Rattle.whole.specs.Sign.{negative}
use Rattle.whole.proofs.Parts.{Is, shift, is_pos, is_neg, is_minus, is_mul_right}
use Rattle.whole.proofs.Order.{le_parts, lt_parts}
use Rattle.grid.specs.Grid.{one, depths}
use Rattle.orbit.specs.Cell.{grid_cell}
use Rattle.orbit.specs.Given.{grid}
use Rattle.orbit.specs.Cell.{Cell}
use Rattle.enclosure.specs.Enclosure.{found_lower, found_upper, mirror_ends}
use Rattle.enclosure.specs.declared.Enclosure.{Enclosure}
use Rattle.enclosure.proofs.Encloses.{Encloses, code_zero, encloses}
use Rattle.enclosure.proofs.Narrow.{narrow}
use Rattle.promises.specs.Figures.{width_of}
use Rattle.promises.specs.SignedUnits.{enclosure_of}

-- what the search's ends say of it, A < 2^28
abbrev Law : ℕ → ℕ → Type 0
Law a w = 2 < w → (w - 2) * (one - a) < 64 * a

width_parts : (mirrored : Bool) (A B : ℕ) → Is (width_of (mirror_ends mirrored A B)) B A
width_parts false A B = shift (is_minus (is_pos B) (is_pos A)) (omega arith)
width_parts true A B = shift (is_minus (is_neg (is_pos A)) (is_neg (is_pos B))) (omega arith)

module _ (mirrored : Bool) (A B a : ℕ) (order : A ≤ B) (law : Law a (B - A)) where
  width_by : pos 2 <ℤ width_of (mirror_ends mirrored A B)
      → ((width_of (mirror_ends mirrored A B) -ℤ pos 2) *ℤ pos (one - a)) <ℤ pos (64 * a)
  width_by wide =
      let i = width_parts mirrored A B in
      let h = (lt_parts (is_pos 2) i).0 wide in
      let l = law (omega arith) in
      let e : B ≡ A + 2 + (B - A - 2) = omega arith in
      let p : (one - a) * B ≡ (one - a) * (A + 2 + (B - A - 2)) = ap (λ (k : ℕ). (one - a) * k) e in
      (lt_parts (is_mul_right (one - a) (is_minus i (is_pos 2))) (is_pos (64 * a))).1 (omega arith)

  -- any figure that allows no more
  at_most : (G : ℕ) → 2 ≤ G → ((w : ℕ) → 2 < w → (w - 2) * (one - a) < 64 * a → w ≤ G) → width_of (mirror_ends mirrored A B) ≤ℤ pos G
  at_most G some most =
      (le_parts (width_parts mirrored A B) (is_pos G)).1
      (elim (dec_le (B - A) 2) [
        | yes h ↦ omega arith
        | no h ↦ let k = lt_of_not-le h in let j = most (B - A) k (law k) in omega arith
      ])

-- what code 0 says at depth 5
module _ (m : ℤ) (a : ℕ) (z : (enclosure_of (grid m a)).code ≡ 0) where
  abbrev cell : Cell
  cell = grid_cell (nat_abs m) a

  pub ends : enclosure_of (grid m a) ≡ mirror_ends (negative m) (found_lower cell depths) (found_upper cell depths)
  ends = (code_zero (grid m a) depths z).ends

  pub found : Encloses cell depths
  found = encloses (grid m a) depths z

  module _ (under : a < one) where
    law : Law a (found_upper cell depths - found_lower cell depths)
    law wide =
        let h = found.order in
        narrow (nat_abs m) a (found_upper cell depths - found_lower cell depths) (omega arith) found (omega arith) wide

    pub width : pos 2 <ℤ width_of (enclosure_of (grid m a)) → ((width_of (enclosure_of (grid m a)) -ℤ pos 2) *ℤ pos (one - a)) <ℤ pos (64 * a)
    width =
        subst (λ (r : Enclosure). pos 2 <ℤ width_of r → ((width_of r -ℤ pos 2) *ℤ pos (one - a)) <ℤ pos (64 * a)) (sym ends)
        (width_by (negative m) (found_lower cell depths) (found_upper cell depths) a found.order law)

    pub width_most : (G : ℕ) → 2 ≤ G → ((w : ℕ) → 2 < w → (w - 2) * (one - a) < 64 * a → w ≤ G) → width_of (enclosure_of (grid m a)) ≤ℤ pos G
    width_most G some most =
        subst (λ (r : Enclosure). width_of r ≤ℤ pos G) (sym ends)
        (at_most (negative m) (found_lower cell depths) (found_upper cell depths) a found.order law G some most)

-- for e up to one half
pub half_most : (a w : ℕ) → 2 * a ≤ one → 2 < w → (w - 2) * (one - a) < 64 * a → w ≤ 65
half_most a w h some law =
    elim (dec_le w 65) [
      | yes k ↦ k
      | no n ↦
          let k = lt_of_not-le n in
          let j : 64 ≤ w - 2 = omega arith in
          absurd (let y : ⊥ = omega (arith, mul-le-mul_right (one - a) j) in y)
    ]
