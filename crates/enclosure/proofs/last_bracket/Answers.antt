-- `enclosure::last_bracket` meets its contract: its loop makes the definition's turns.
use Rattle.std.proofs.Common.{◌≡◌, ℕ, Bool, true, false, not, sym, ap, ◌∙◌, arith}
use mathlib.Core.Bool.{beq}
use Rattle.enclosure.specs.Moves.{moves_p}
use Rattle.enclosure.proofs.CodeLoop.{accepted, refused, last}
use Rattle.enclosure.proofs.last_bracket.Goals as goal

-- which way a test that says t moves the search
moved : (upper : Bool) (acc : ℕ → Bool) (X : ℕ) (t : Bool) → t ≡ acc X → not (beq t upper) ≡ moves_p upper acc X
moved true acc X true e = ap not e
moved true acc X false e = ap not e
moved false acc X true e = e
moved false acc X false e = e

pub loop-q-preserved-then-accepts-upper : goal.loop-q-preserved-then-accepts-upper
loop-q-preserved-then-accepts-upper g c =
    accepted c.loop-q.invariant (omega (arith, g.met.P.Tested.room)) (omega (arith, g.met.P.Tested.room))
    (sym (moved c.args.upper _ _ _ c.accepts.ensures) ∙ c.if-accepts-upper.true)

pub loop-q-preserved : goal.loop-q-preserved
loop-q-preserved g c =
    refused c.loop-q.invariant (omega (arith, g.met.P.Tested.room)) (omega (arith, g.met.P.Tested.room))
    (sym (moved c.args.upper _ _ _ c.accepts.ensures) ∙ c.if-accepts-upper.false)

pub returns-clause-last : goal.returns-clause-last
returns-clause-last g c = sym (last c.loop-q.invariant (omega (arith, g.met.P.Tested.room)) (omega (arith, g.met.P.Tested.room)))
