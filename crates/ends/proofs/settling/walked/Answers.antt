-- `ends::walked` meets its contract: the walk goes on until a depth accepts, which is then the least, rules every depth out, is the
-- one asked for, or has spent terms.
use Rattle.std.proofs.Common.{◌≡◌, ℕ, suc, ◌+◌, ◌<◌, ◌≤◌, Bool, true, false, not, sym, refl, ap, ◌∙◌, arith}
use Rattle.std.specs.Prelude.{Option, Some, None}
use Rattle.std.specs.Bool.{then_some}
use Rattle.grid.specs.Grid.{T_units, depths}
use Rattle.grid.specs.Limits.{DepthIn}
use Rattle.series.specs.Sine.{sine}
use Rattle.series.specs.Walk.{walk}
use Rattle.series.specs.declared.Walk.{Walk}
use Rattle.series.proofs.CodeWalk.{onward}
use Rattle.orbit.specs.Cell.{orbit_at}
use Rattle.ends.specs.Corner.{Corner, one_mean, corner_of, at_depth, said}
use Rattle.ends.proofs.CodeTest.{own_bound, at_walk, least_corner, most_corner, said_some, said_none, bound_in, least_found, none_later, none_to, none_at, none_spent}
use Rattle.ends.proofs.settling.walked.Goals as goal

-- a walk that has come one pair further, of those that are asked for
record Turn (d x n : ℕ) (v : Walk) : Type 0 where
  at : v ≡ walk sine x (suc n)
  angle : x ≤ T_units
  within : suc n ≤ d
  deep : d ≤ depths
  few : suc n ≤ depths

turn : (x n : ℕ) {w v : Walk} {d k : ℕ} → w ≡ walk sine x n → n < k → v ≡ walk sine w.angle (suc w.pairs) → x ≤ T_units → DepthIn k → k ≡ d
    → Turn d x n v
turn x n reached less further top i f =
    let few = i.few in
    record { at = onward _ _ _ _ reached _ further; angle = top; within = omega arith; deep = omega arith; few = omega arith }

-- what is said by a walk's bounds and by both corners
said_at : (upper : Bool) (m floor ceiling x : ℕ) (v : Walk) {least most : Corner} {b : ℕ × ℕ} {o : Option Bool}
    → least ≡ corner_of (orbit_at m floor) x → most ≡ corner_of (orbit_at m ceiling) x → b ≡ (own_bound upper v, own_bound (not upper) v)
    → o ≡ said (at_depth upper least most b.0 b.1)
    → o ≡ said (at_walk upper (least_corner upper (one_mean m floor ceiling) x) (most_corner upper (one_mean m floor ceiling) x) v)
said_at true m floor ceiling x v least most bounds says = rw (bounds, least, most) at says
said_at false m floor ceiling x v least most bounds says = rw (bounds, least, most) at says

-- a depth that settles it is the least, where it accepts, and else there is none
settled : (t : Bool) {r l : Option ℕ} {k n : ℕ} → r ≡ then_some t k → k ≡ n → (t ≡ true → Some n ≡ l) → (t ≡ false → None ≡ l) → r ≡ l
settled true e f here never = e ∙ ap Some f ∙ here refl
settled false e f here never = e ∙ never refl

pub invariant_of-lo : goal.invariant_of-lo
invariant_of-lo g c =
    let l = c.loop-done.invariant in
    let t = turn c.args.x _ l.0 c.loop-done-test.true c.further-w.ensures c.begin-w.ensures.top c.depth.invariant c.depth.view_is in
    bound_in _ t.angle _ _ t.at t.few false

pub invariant_of-hi : goal.invariant_of-hi
invariant_of-hi g c =
    let l = c.loop-done.invariant in
    let t = turn c.args.x _ l.0 c.loop-done-test.true c.further-w.ensures c.begin-w.ensures.top c.depth.invariant c.depth.view_is in
    bound_in _ t.angle _ _ t.at t.few true

pub returns-in-Some : goal.returns-in-Some
returns-in-Some g c =
    let l = c.loop-done.invariant in
    let t = turn c.args.x _ l.0 c.loop-done-test.true c.further-w.ensures c.begin-w.ensures.top c.depth.invariant c.depth.view_is in
    let s = said_at g.S.Side.upper c.args.m c.args.floor c.args.ceiling c.args.x c.further-w.result c.at-least.ensures c.at-most.ensures c.bounds-own.ensures c.at_depth.ensures in
    let e = said_some _ s c.in-Some.is in
    settled _ c.then_some.ensures (omega arith)
    (λ f. least_found _ t.angle _ _ t.at t.few _ _ l.1 (e.1 ∙ f) _ t.within)
    (λ f. none_later _ t.angle _ _ t.at t.few _ _ e.0 (e.1 ∙ f) _ t.within t.deep)

pub loop-done-preserved : goal.loop-done-preserved
loop-done-preserved g c =
    let l = c.loop-done.invariant in
    let t = turn c.args.x _ l.0 c.loop-done-test.true c.further-w.ensures c.begin-w.ensures.top c.depth.invariant c.depth.view_is in
    let s = said_at g.S.Side.upper c.args.m c.args.floor c.args.ceiling c.args.x c.further-w.result c.at-least.ensures c.at-most.ensures c.bounds-own.ensures c.at_depth.ensures in
    let n = none_to _ t.angle _ _ t.at t.few _ _ (said_none _ s c.in_default.is) in
    let e : suc c.loop-done.done ≡ c.loop-done.done + 1 = omega arith in
    (t.at ∙ ap (walk sine c.args.x) e, λ k s h. n k s (omega arith))

pub returns-then-spent : goal.returns-then-spent
returns-then-spent g c =
    let l = c.loop-done.invariant in
    let t = turn c.args.x _ l.0 c.loop-done-test.true c.further-w.ensures c.begin-w.ensures.top c.depth.invariant c.depth.view_is in
    let s = said_at g.S.Side.upper c.args.m c.args.floor c.args.ceiling c.args.x c.further-w.result c.at-least.ensures c.at-most.ensures c.bounds-own.ensures c.at_depth.ensures in
    none_spent _ t.angle _ _ t.at t.few _ _ (said_none _ s c.in_default.is) (sym c.spent.ensures ∙ c.if-spent.true) _ t.within

pub returns-after-loop-done : goal.returns-after-loop-done
returns-after-loop-done g c =
    let i = c.depth.invariant.some in
    none_at g.S.Side.upper _ _ c.loop-done.invariant.1 (omega (arith, c.depth.view_is)) (omega (arith, c.depth.view_is))
