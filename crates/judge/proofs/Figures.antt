-- R64 and R65 of a problem as it is posed, on the grid at depth 5: what confirms an estimate between two ends that are tight, and
-- what refutes one outside of two ends that are accepted. Assumes nothing.
use mathlib.Core.Path.{◌≡◌, subst}
use mathlib.Core.Bool.{true, false, not}
use mathlib.Core.Logic.{◌⊎◌, inl, inr, ⊎_elim}
use Prim.Native.Nat.{ℕ, suc, ◌+◌, ◌-◌, ◌*◌, ◌≤◌}
use native.Mathlib.Omega.{arith}
use native.Mathlib.Nat.{mul-le-mul_right, lt_of_not-le}
use native.Mathlib.Decide.{dec_le}
use lib.Dec.{T}
use Rattle.grid.specs.Grid.{one, H_units, T_units, depths}
use Rattle.orbit.specs.Cell.{grid_cell}
use Rattle.orbit.specs.Cell.{Cell}
use Rattle.ends.specs.Ends.{lower_end, upper_end}
use Rattle.ends.proofs.Known.{zero_lower, T_upper}
use Rattle.ends.proofs.Steep.{past_accepted, past_refused}
use Rattle.units.specs.declared.Units.{Units}
use Rattle.judge.specs.Verdict.{low_end, high_end, confirmed, refuted}
use Rattle.judge.proofs.Kept.{confirmed_by_lem, refuted_by_lem}

module _ (m a : ℕ) (u : Units) (n : ℕ) (mean : m ≤ H_units) (small : a ≤ one) where
  abbrev cell : Cell
  cell = grid_cell m a

  -- ---- R64: the estimate lies from X to Y, and one unit further in neither is an accepted end

  module _ (X Y : ℕ) (top : Y ≤ T_units) (some : 1 ≤ n) (far : 64 * a ≤ (n - 1) * (one - a)) where
    -- as far as N - 1 units and more
    farther : (k : ℕ) → n - 1 ≤ k → 64 * a ≤ k * (one - a)
    farther k h = omega (arith, mul-le-mul_right (one - a) h)

    low_accepted : u.ceiling ≤ Y → (Y ≡ 0) ⊎ T (not (upper_end cell depths (Y - 1))) → T (lower_end cell depths (low_end u n))
    low_accepted inside next =
        elim (dec_le u.ceiling n) [
          | yes h ↦ let e : 0 ≡ low_end u n = omega arith in subst (λ (p : ℕ). T (lower_end cell depths p)) e (zero_lower cell depths)
          | no h ↦
              let k = lt_of_not-le h in
              ⊎_elim (λ z. absurd (let y : ⊥ = omega arith in y))
              (λ refused.
              past_refused false m a (Y - 1) (low_end u n) (Y - 1 - low_end u n) small (omega arith) (omega arith) (omega arith) refused
              (farther (Y - 1 - low_end u n) (omega arith)))
              next
        ]

    high_accepted : X ≤ u.floor → T (not (lower_end cell depths (suc X))) → T (upper_end cell depths (high_end u n))
    high_accepted inside next =
        elim (dec_le T_units (u.floor + n)) [
          | yes h ↦
              let e : T_units ≡ high_end u n = omega arith in
              subst (λ (q : ℕ). T (upper_end cell depths q)) e (T_upper cell depths (omega arith) (omega arith))
          | no h ↦
              let k = lt_of_not-le h in
              past_refused true m a (suc X) (high_end u n) (high_end u n - suc X) small (omega arith) (omega arith) (omega arith) next
              (farther (high_end u n - suc X) (omega arith))
        ]

    pub inside_confirmed : X ≤ u.floor → u.ceiling ≤ Y → T (not (lower_end cell depths (suc X)))
        → (Y ≡ 0) ⊎ T (not (upper_end cell depths (Y - 1))) → T (confirmed cell depths u n)
    inside_confirmed f c lower upper = (confirmed_by_lem cell u n depths).1 (low_accepted c upper, high_accepted f lower)

  -- ---- R65: the estimate lies outside an accepted end

  pub far_below : (X k : ℕ) → X ≤ T_units → T (lower_end cell depths X) → X ≡ u.floor + n + 1 + k → 32 * a ≤ k * (one - a) → T (refuted cell depths u n)
  far_below X k w t e far =
      (refuted_by_lem cell u n depths).1
      (inl
      (record {
        within = omega arith;
        lower = past_accepted false m a X (u.floor + n + 1) k small w (omega arith) e t far;
      }))

  pub far_above : (Y k : ℕ) → u.ceiling ≤ T_units → T (upper_end cell depths Y) → u.ceiling ≡ Y + k + (n + 1) → 32 * a ≤ k * (one - a) → T (refuted cell depths u n)
  far_above Y k w t e far =
      (refuted_by_lem cell u n depths).1
      (inr
      (record {
        within = omega arith;
        upper = past_accepted true m a Y (u.ceiling - (n + 1)) k small (omega arith) (omega arith) (omega arith) t far;
      }))
