-- What a search's loop keeps, for any test and any top up to 2^30: the turns left lead to the search's last bracket.
-- Nothing in it speaks of what is accepted. Assumes nothing.
use mathlib.Core.Path.{◌≡◌, refl, sym, ◌∙◌}
use mathlib.Core.Bool.{Bool, true, false}
use Prim.Native.Nat.{ℕ, ◌+◌, ◌-◌, ◌/◌, ◌≤◌, ◌<◌}
use native.Mathlib.Omega.{arith}
use borrow.Author.Tests.{lt-ltb}
use Rattle.enclosure.specs.declared.Bracket.{Bracket}
use Rattle.enclosure.specs.Halving.{halve, turns, last_bracket}
use Rattle.enclosure.proofs.Halving.{enough, still_narrow}

pub record Going (acc : ℕ → Bool) (top p q : ℕ) : Type 0 where
  pub order : p < q
  pub high : q ≤ top
  pub rest : turns acc 30 (record { p = p; q = q }) ≡ last_bracket acc top

-- where a search begins
pub start : (acc : ℕ → Bool) (top : ℕ) → 0 < top → Going acc top 0 top
start acc top h = record { order = h; high = omega arith; rest = refl }

module _ {acc : ℕ → Bool} {top p q : ℕ} (g : Going acc top p q) (small : top ≤ 1073741824) where
  -- the bracket after one turn has the same turns left
  step : (b : Bracket) → halve acc (record { p = p; q = q }) ≡ b → turns acc 30 b ≡ last_bracket acc top
  step b e =
      let h = g.high in
      rw (← e) (enough acc 30 (record { p = p; q = q }) (omega arith) ∙ g.rest)

  pub accepted : 1 < q - p → acc ((p + q) / 2) ≡ true → Going acc top ((p + q) / 2) q
  unfolding halve
  accepted w t =
      record {
        order = omega arith;
        high = g.high;
        rest = step (record { p = (p + q) / 2; q = q }) (simp (lt-ltb 1 (q - p) w, t));
      }

  pub refused : 1 < q - p → acc ((p + q) / 2) ≡ false → Going acc top p ((p + q) / 2)
  unfolding halve
  refused w t =
      let h = g.high in
      let o = g.order in
      record {
        order = omega arith;
        high = omega arith;
        rest = step (record { p = p; q = (p + q) / 2 }) (simp (lt-ltb 1 (q - p) w, t));
      }

  -- where the loop ends p and q are the last ones
  pub last : q - p ≤ 1 → last_bracket acc top ≡ record { p = p; q = q }
  last n = sym g.rest ∙ still_narrow acc 30 (record { p = p; q = q }) n
