-- `series::Series::bounds_at` meets its contract: the walk goes on to the depth, or until the terms are spent.
use Rattle.std.proofs.Common.{◌≡◌, sym, ◌∙◌, add-one, arith}
use Rattle.series.specs.Asked.{biased_bounds}
use Rattle.series.specs.declared.Biased.{Biased}
use Rattle.series.proofs.Answers.{small_bounds}
use Rattle.series.proofs.CodeWalk.{onward, unfinished}
use Rattle.series.proofs.CodeStop.{at_depth_lem, at_spent, spent_walk}
use Rattle.series.proofs.Series.bounds_at.Given as given
use Rattle.series.proofs.Series.bounds_at.Goals as goal
use Rattle.series.proofs.Series.bounds_at.Goals.{Left-loop, else-loop-test, then-loop-test+then-spent}

pub further-w-requires : goal.further-w-requires
further-w-requires g c = unfinished g.Self.Series.series _ _ _ c.begin.ensures.at c.begin.ensures.top (omega arith)

pub loop-init : goal.loop-init
loop-init g c = onward g.Self.Series.series _ _ _ c.begin.ensures.at _ c.further-w.ensures

pub further-w-requires-in-loop : goal.further-w-requires-in-loop
further-w-requires-in-loop g c =
    unfinished g.Self.Series.series _ _ _ c.loop.invariant c.begin.ensures.top (omega (arith, c.d.invariant.few))

pub loop-preserved : goal.loop-preserved
loop-preserved g c = rw add-one (onward g.Self.Series.series _ _ _ c.loop.invariant _ c.further-w-in-loop.ensures)

-- a walk that has left the loop has the bounds of the depth
left : (g : given.Over) (c : Left-loop g)
    → ◌≡◌ {A = Biased} record { lo = c.loop.w.greatest; hi = c.loop.w.least } (biased_bounds g.Self.Series.series c.args.x c.args.d)
left g c =
    let s = g.Self.Series.series in
    rw (← c.d.view_is) elim c.loop-test.branch [
      | else-loop-test w ↦ at_depth_lem s c.d.invariant.some (omega arith) c.loop.invariant
      | then-loop-test+then-spent w ↦
          at_spent s (spent_walk s _ _ _ c.loop.invariant (sym w.spent.ensures ∙ w.if-spent.true)) (omega arith) (omega arith) c.loop.invariant
    ]

pub bounds-requires : goal.bounds-requires
bounds-requires g c = small_bounds g.Self.Series.series _ _ c.begin.ensures.range (omega (arith, c.d.view_is, c.d.invariant.few)) (left g c)

pub returns-clause-value : goal.returns-clause-value
returns-clause-value g c = c.bounds.ensures ∙ left g (goal.at.returns-clause-value g c).Left-loop
