-- `ends::settle` meets its contract: either end's test goes by one M of the cell.
use Rattle.std.proofs.Common.{◌≡◌, ℕ, Bool, true, false, ap₂, ◌∙◌}
use Rattle.std.specs.Prelude.{Option}
use Rattle.orbit.specs.Cell.{Cell}
use Rattle.ends.specs.Ends.{below_by, above_by, end_at}
use Rattle.ends.specs.Corner.{one_mean, own_mean}
use Rattle.ends.specs.Least.{from_least}
use Rattle.ends.proofs.settling.settle.Goals as goal

-- the least depth by one M
abbrev least_by : Bool → ℕ → ℕ → ℕ → Cell → Option ℕ
least_by upper depth x m c = from_least (λ d. end_at upper (one_mean m c.a.floor c.a.ceiling) d x) depth

by_own : (upper : Bool) (depth x : ℕ) {m : ℕ} {i c : Cell} {r : Option ℕ} → m ≡ own_mean upper c.m → i ≡ c → r ≡ least_by upper depth x m i
    → r ≡ from_least (λ d. end_at upper c d x) depth
unfolding below_by above_by
by_own true depth x mean view e = e ∙ ap₂ (least_by true depth x) mean view
by_own false depth x mean view e = e ∙ ap₂ (least_by false depth x) mean view

pub returns : goal.returns
returns g c = by_own g.S.Side.upper c.args.p.depth c.args.x c.mean.ensures c.cell.view_is c.walked.ensures
