-- What the loop over the terms keeps, of either kind: the last term and the sum up to it, and that they fit. Assumes nothing.
use mathlib.Core.Path.{◌≡◌, refl, sym, ap₂, subst, ◌∙◌}
use mathlib.Core.Bool.{Bool, true, false}
use Prim.Native.Nat.{ℕ, zero, suc, ◌+◌, ◌*◌, ◌≤◌}
use native.Mathlib.Omega.{arith}
use Rattle.whole.specs.Round.{rounded}
use Rattle.grid.specs.Grid.{one}
use Rattle.grid.specs.Flyby.{X_top}
use Rattle.series.specs.Terms.{l, u}
use Rattle.series.specs.Sine.{sine}
use Rattle.series.specs.Walk.{TermFits}
use Rattle.series.proofs.TermLimits.{Q_order, Q_within}
use Rattle.series.proofs.OfSine.{u_within, l_within}
use Rattle.sinh.specs.Sinh.{last, total}
use Rattle.sinh.specs.Adding.{square, terms, added_to}
use Rattle.sinh.specs.declared.Added.{Added}

-- the last term that was added is number n
pub record Adding (above : Bool) (X n term sum : ℕ) : Type 0 where
  pub term_is : term ≡ terms above X n
  pub sum_is : sum ≡ total (terms above X) n

pub begun : (above : Bool) (X : ℕ) → Adding above X 0 X X
unfolding l u total
begun true X = record { term_is = refl; sum_is = refl }
begun false X = record { term_is = refl; sum_is = refl }

next_is : (above : Bool) (X k : ℕ)
    → terms above X (suc k) ≡ rounded above (terms above X k * square above X) (one * sine.divisor (suc k))
unfolding l u
next_is true X k = refl
next_is false X k = refl

module _ (X : ℕ) (h : X ≤ X_top) where
  square_small : (above : Bool) → square above X ≤ 10 * one
  square_small true = Q_within X (omega arith)
  square_small false = omega (arith, Q_order X, Q_within X (omega arith))

  term_small : (above : Bool) (k : ℕ) → terms above X k ≤ 8 * one
  term_small true k = u_within X (omega arith) k
  term_small false k = l_within X (omega arith) k

  pub total_small : (above : Bool) (k : ℕ) → total (terms above X) k ≤ (k + 1) * (8 * one)
  unfolding total
  total_small above zero = omega (arith, term_small above 0)
  total_small above (suc k) = omega (arith, total_small above k, term_small above (suc k))

  module _ {above : Bool} {n term sum q : ℕ} (a : Adding above X n term sum) (q-is : q ≡ square above X) where
    pub next_fits : (divisor : ℕ) → 1 ≤ divisor → divisor ≤ 65536 → TermFits term q divisor
    next_fits divisor some little =
        rw (a.term_is, q-is)
        (record {
          term = omega (arith, term_small above n);
          square = omega (arith, square_small above);
          divides = some;
          little = little;
        })

    -- and k is the number after it
    module _ {k t : ℕ} (follows : k ≡ suc n) (e : t ≡ rounded above (term * q) (one * (2 * k * (2 * k + 1)))) where
      is_next : t ≡ terms above X (suc n)
      is_next = e ∙ rw (a.term_is, q-is, follows) (sym (next_is above X n))

      pub sum_fits : k ≤ last → sum + t ≤ 80 * one
      sum_fits few =
          let t_is = is_next in
          let s = a.sum_is in
          omega (arith, total_small above n, term_small above (suc n))

      pub next_adds : Adding above X k t (sum + t)
      unfolding total
      next_adds =
          rw follows (record { term_is = is_next; sum_is = ap₂ (λ (m n : ℕ). m + n) a.sum_is is_next })

-- where the loop ends the last term has been added
pub all-added : {above : Bool} {X k term sum : ℕ} → Adding above X k term sum → k ≤ last → last ≤ k
    → ◌≡◌ {A = Added} record { term = term; sum = sum } (added_to above X last)
all-added {above} {X} {k} {term} {sum} a few h =
    let e : k ≡ last = omega arith in
    subst (λ (n : ℕ). ◌≡◌ {A = Added} record { term = term; sum = sum } (added_to above X n)) e (simp (a.term_is, a.sum_is))
