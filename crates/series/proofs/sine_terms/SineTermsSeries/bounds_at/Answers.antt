-- `bounds_at` of sine's terms meets its contract: one pair of terms after the other, up to the depth or until the terms are spent.
use Rattle.std.proofs.Common.{◌≡◌, ℕ, suc, ap, ◌∙◌, lit≤, arith}
use Rattle.series.specs.Sine.{sine}
use Rattle.series.specs.Walk.{walk}
use Rattle.series.specs.Asked.{biased_bounds}
use Rattle.series.specs.declared.Walk.{Walk}
use Rattle.series.specs.declared.Biased.{Biased}
use Rattle.series.proofs.Answers.{small_bounds}
use Rattle.series.proofs.CodeStop.{at_depth_lem, at_stop}
use Rattle.series.proofs.sine_terms.SineTermsSeries.bounds_at.Goals as goal
use Rattle.series.proofs.sine_terms.SineTermsSeries.bounds_at.Goals.{Joined-then-n-eq1, Joined-then-n-eq2, Joined-then-n-eq3, Joined-then-n-eq4, After-further}

-- the walk after each pair
abbrev next : Walk → Walk
next w = walk sine w.angle (suc w.pairs)

module _ {x : ℕ} {w₀ w₁ : Walk} (begun : w₀ ≡ walk sine x 0) (first : w₁ ≡ next w₀) where
  after_1 : w₁ ≡ walk sine x 1
  after_1 = first ∙ ap next begun

  after_2 : {w₂ : Walk} → w₂ ≡ next w₁ → w₂ ≡ walk sine x 2
  after_2 second = second ∙ ap next after_1

  after_3 : {w₂ w₃ : Walk} → w₂ ≡ next w₁ → w₃ ≡ next w₂ → w₃ ≡ walk sine x 3
  after_3 second third = third ∙ ap next (after_2 second)

  after_4 : {w₂ w₃ w₄ : Walk} → w₂ ≡ next w₁ → w₃ ≡ next w₂ → w₄ ≡ next w₃ → w₄ ≡ walk sine x 4
  after_4 second third fourth = fourth ∙ ap next (after_3 second third)

  after_5 : {w₂ w₃ w₄ w₅ : Walk} → w₂ ≡ next w₁ → w₃ ≡ next w₂ → w₄ ≡ next w₃ → w₅ ≡ next w₄ → w₅ ≡ walk sine x 5
  after_5 second third fourth fifth = fifth ∙ ap next (after_4 second third fourth)

-- the bounds that it has come to where it may stop
came_1 : (c : Joined-then-n-eq1) → ◌≡◌ {A = Biased} record { lo = c.further-w.result.greatest; hi = c.further-w.result.least } (biased_bounds sine c.args.x c.args.d)
came_1 c =
    rw (← c.d.view_is)
    (at_stop 0 (lit≤ tt) (omega (arith, c.d.invariant.some)) (after_1 c.begin.ensures.at c.further-w.ensures) (rw c.x.view_is at c.then-n-eq1.either))

came_2 : (c : Joined-then-n-eq2) → ◌≡◌ {A = Biased} record { lo = c.further-w-2.result.greatest; hi = c.further-w-2.result.least } (biased_bounds sine c.args.x c.args.d)
came_2 c =
    rw (← c.d.view_is)
    (at_stop 1 (lit≤ tt) (omega (arith, c.d.invariant.some)) (after_2 c.begin.ensures.at c.further-w.ensures c.further-w-2.ensures) (rw c.x.view_is at c.then-n-eq2.either))

came_3 : (c : Joined-then-n-eq3) → ◌≡◌ {A = Biased} record { lo = c.further-w-3.result.greatest; hi = c.further-w-3.result.least } (biased_bounds sine c.args.x c.args.d)
came_3 c =
    rw (← c.d.view_is)
    (at_stop 2 (lit≤ tt) (omega (arith, c.d.invariant.some)) (after_3 c.begin.ensures.at c.further-w.ensures c.further-w-2.ensures c.further-w-3.ensures) (rw c.x.view_is at c.then-n-eq3.either))

came_4 : (c : Joined-then-n-eq4) → ◌≡◌ {A = Biased} record { lo = c.further-w-4.result.greatest; hi = c.further-w-4.result.least } (biased_bounds sine c.args.x c.args.d)
came_4 c =
    rw (← c.d.view_is)
    (at_stop 3 (lit≤ tt) (omega (arith, c.d.invariant.some)) (after_4 c.begin.ensures.at c.further-w.ensures c.further-w-2.ensures c.further-w-3.ensures c.further-w-4.ensures) (rw c.x.view_is at c.then-n-eq4.either))

came_5 : (c : After-further) → ◌≡◌ {A = Biased} record { lo = c.further.result.greatest; hi = c.further.result.least } (biased_bounds sine c.args.x c.args.d)
came_5 c =
    rw (← c.d.view_is)
    (at_depth_lem sine c.d.invariant.some (omega (arith, c.d.invariant.some, c.d.invariant.few)) (after_5 c.begin.ensures.at c.further-w.ensures c.further-w-2.ensures c.further-w-3.ensures c.further-w-4.ensures c.further.ensures))

pub bounds-requires : goal.bounds-requires
bounds-requires c = small_bounds sine _ _ c.begin.ensures.range (omega (arith, c.d.view_is, c.d.invariant.few)) (came_1 c)

pub returns-then-n-eq1-clause-value : goal.returns-then-n-eq1-clause-value
returns-then-n-eq1-clause-value c = c.bounds.ensures ∙ came_1 (goal.at.returns-then-n-eq1-clause-value c).Joined-then-n-eq1

pub bounds-requires-then-n-eq2 : goal.bounds-requires-then-n-eq2
bounds-requires-then-n-eq2 c = small_bounds sine _ _ c.begin.ensures.range (omega (arith, c.d.view_is, c.d.invariant.few)) (came_2 c)

pub returns-then-n-eq2-clause-value : goal.returns-then-n-eq2-clause-value
returns-then-n-eq2-clause-value c = c.bounds-then-n-eq2.ensures ∙ came_2 (goal.at.returns-then-n-eq2-clause-value c).Joined-then-n-eq2

pub bounds-requires-then-n-eq3 : goal.bounds-requires-then-n-eq3
bounds-requires-then-n-eq3 c = small_bounds sine _ _ c.begin.ensures.range (omega (arith, c.d.view_is, c.d.invariant.few)) (came_3 c)

pub returns-then-n-eq3-clause-value : goal.returns-then-n-eq3-clause-value
returns-then-n-eq3-clause-value c = c.bounds-then-n-eq3.ensures ∙ came_3 (goal.at.returns-then-n-eq3-clause-value c).Joined-then-n-eq3

pub bounds-requires-then-n-eq4 : goal.bounds-requires-then-n-eq4
bounds-requires-then-n-eq4 c = small_bounds sine _ _ c.begin.ensures.range (omega (arith, c.d.view_is, c.d.invariant.few)) (came_4 c)

pub returns-then-n-eq4-clause-value : goal.returns-then-n-eq4-clause-value
returns-then-n-eq4-clause-value c = c.bounds-then-n-eq4.ensures ∙ came_4 (goal.at.returns-then-n-eq4-clause-value c).Joined-then-n-eq4

pub bounds-requires-2 : goal.bounds-requires-2
bounds-requires-2 c = small_bounds sine _ _ c.begin.ensures.range (omega (arith, c.d.view_is, c.d.invariant.few)) (came_5 c)

pub returns-clause-value : goal.returns-clause-value
returns-clause-value c = c.bounds-2.ensures ∙ came_5 (goal.at.returns-clause-value c).After-further
