-- `sinh::add_terms` meets its contract: each turn adds the next term.
use Rattle.std.proofs.Common.{◌≡◌, ℕ, suc, ◌-◌, ◌*◌, ◌≤◌, subst, arith}
use native.Mathlib.Nat.{mul-le-mul, add-sub_cancel}
use mathlib.Core.Bool.{Bool}
use Rattle.whole.specs.Round.{rounded}
use Rattle.grid.specs.Grid.{one}
use Rattle.grid.specs.Flyby.{X_top}
use Rattle.sinh.specs.Adding.{square}
use Rattle.sinh.proofs.CodeAdd.{begun, next_fits, next_adds, sum_fits}
use Rattle.sinh.proofs.add_terms.Goals as goal

-- each k is the number after that of the last term
follows : (k : ℕ) → 1 ≤ k → k ≡ suc (k - 1)
follows k h = omega arith

-- what is known of the angle and of its square, by the angle's units
module _ {x units : ℕ} (is : units ≡ x) where
  top : units ≤ X_top → x ≤ X_top
  top h = omega arith

  squared : {q : ℕ} (above : Bool) → q ≡ rounded above (units * units) one → q ≡ square above x
  squared {q} above e = subst (λ (n : ℕ). q ≡ rounded above (n * n) one) is e

pub loop-k-init : goal.loop-k-init
loop-k-init g c = rw c.x.view_is (begun _ _)

-- a divisor made of k up to 9 is small
pub term-term-requires : goal.term-term-requires
term-term-requires g c =
    let few : c.loop-k.k ≤ 9 = omega arith in
    next_fits _ (top c.x.view_is c.x.invariant) c.loop-k.invariant (squared c.x.view_is _ c.scaled-q.ensures) _ (omega arith) (omega (arith, mul-le-mul few few))

pub overflow_add-sum : goal.overflow_add-sum
overflow_add-sum g c =
    omega (arith, sum_fits _ (top c.x.view_is c.x.invariant) c.loop-k.invariant (squared c.x.view_is _ c.scaled-q.ensures) (follows _ c.loop-k.auto.k) c.term-term.ensures (omega arith))

pub loop-k-preserved : goal.loop-k-preserved
loop-k-preserved g c =
    rw add-sub_cancel
    (next_adds _ (top c.x.view_is c.x.invariant) c.loop-k.invariant (squared c.x.view_is _ c.scaled-q.ensures) (follows _ c.loop-k.auto.k) c.term-term.ensures)
