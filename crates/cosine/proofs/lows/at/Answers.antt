-- `cosine::lows::at` meets its contract: five pairs of terms of either series.
use Rattle.std.proofs.Common.{◌≡◌, ℕ, ◌*◌, ◌≤◌, ap, ◌∙◌, lit≤}
use Rattle.series.specs.Terms.{Series}
use Rattle.series.specs.Sine.{sine}
use Rattle.series.specs.Walk.{bias, walk, best_low, InRange}
use Rattle.series.specs.declared.Walk.{Walk}
use Rattle.series.proofs.Answers.{small_bounds}
use Rattle.series.proofs.CodeWalk.{bounds}
use Rattle.cosine.specs.Cosine.{cosine}
use Rattle.cosine.specs.Lows.{walks, further}
use Rattle.cosine.specs.declared.lows.Walks.{Walks}
use Rattle.cosine.proofs.lows.at.Goals as goal

-- both walks after the last pair
come : {x : ℕ} {w₀ w₁ w₂ w₃ w₄ w₅ : Walks}
    → w₀ ≡ walks x 0 → w₁ ≡ further w₀ → w₂ ≡ further w₁ → w₃ ≡ further w₂ → w₄ ≡ further w₃ → w₅ ≡ further w₄ → w₅ ≡ walks x 5
come begun first second third fourth fifth =
    fifth ∙ ap further (fourth ∙ ap further (third ∙ ap further (second ∙ ap further (first ∙ ap further begun))))

-- so either has come to its bounds of depth 5
low : (s : Series) {w : Walk} {x : ℕ} → InRange s x → w ≡ walk s x 5 → w.greatest ≤ 2 * bias
low s {w} r e = (small_bounds s _ 5 r (lit≤ tt) (bounds s w _ 5 (lit≤ tt) e)).0

pub invariant_of-result : goal.invariant_of-result
invariant_of-result c =
    let w = come c.begin.ensures.at c.further.ensures c.further-2.ensures c.further-3.ensures c.further-4.ensures c.further-w.ensures in
    low sine c.begin.ensures.sine (ap (λ (v : Walks). v.sine) w)

pub invariant_of-result-2 : goal.invariant_of-result-2
invariant_of-result-2 c =
    let w = come c.begin.ensures.at c.further.ensures c.further-2.ensures c.further-3.ensures c.further-4.ensures c.further-w.ensures in
    low cosine c.begin.ensures.cosine (ap (λ (v : Walks). v.cosine) w)

pub returns-clause-value : goal.returns-clause-value
unfolding best_low
returns-clause-value c =
    ap (λ (w : Walks). record { sine = w.sine.greatest; cosine = w.cosine.greatest })
    (come c.begin.ensures.at c.further.ensures c.further-2.ensures c.further-3.ensures c.further-4.ensures c.further-w.ensures)
