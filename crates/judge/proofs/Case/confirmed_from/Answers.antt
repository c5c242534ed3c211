-- `judge::Case::confirmed_from` meets its contract: the two tests are those of p and q, and both pass from the later of their least
-- depths on.
use Rattle.std.proofs.Common.{◌≡◌, ℕ, ◌+◌, ◌-◌, min, Bool, true, false, T, ◌↔◌, ap, ◌∙◌, Some}
use Rattle.units.specs.declared.Units.{Units}
use Rattle.judge.specs.Verdict.{confirmed_by}
use Rattle.judge.specs.Decision.{tests_by}
use Rattle.judge.proofs.Verdicts.{confirmed_by_lem}
use Rattle.judge.proofs.Decides.{no_low, no_high, both}
use Rattle.judge.proofs.Case.confirmed_from.Goals as goal

-- both ends are accepted where a case is confirmed
means : (test : Bool → ℕ → ℕ → Bool) (u : Units) {top n m p q limit : ℕ}
    → m ≡ n → p ≡ u.ceiling - m → limit ≡ top → q ≡ min (u.floor + m) limit
    → (d : ℕ) → T (confirmed_by (tests_by test top d) u n) ↔ T (test false d p) × T (test true d q)
means test u {top} {n} size at_p at_top at_q d = rw (at_p, at_q, at_top, size) (confirmed_by_lem (tests_by test top d) u n)

pub returns-in_err-low : goal.returns-in_err-low
returns-in_err-low g c =
    let k = c.args.self.now in
    let test = g.P.Tested.test k.tested in
    let top = g.P.Tested.TOP in
    c.from_residual.ensures
    ∙ no_low (λ d. confirmed_by (tests_by test top d) k.units k.tolerance) (λ d. test false d c.step_down-p.result)
    (λ d. test true d c.step_up-q.result)
    (means test k.units c.n.view_is c.step_down-p.ensures c.TOP.ensures c.step_up-q.ensures) (g.P.Tested.last k.tested)
    c.in_err-low.ensures.least

pub returns-in_err-high : goal.returns-in_err-high
returns-in_err-high g c =
    let k = c.args.self.now in
    let test = g.P.Tested.test k.tested in
    let top = g.P.Tested.TOP in
    c.from_residual-in_err-high.ensures
    ∙ no_high (λ d. confirmed_by (tests_by test top d) k.units k.tolerance) (λ d. test false d c.step_down-p.result)
    (λ d. test true d c.step_up-q.result)
    (means test k.units c.n.view_is c.step_down-p.ensures c.TOP.ensures c.step_up-q.ensures) (g.P.Tested.last k.tested)
    c.in_err-high.ensures.least

pub returns : goal.returns
returns g c =
    let k = c.args.self.now in
    let test = g.P.Tested.test k.tested in
    let top = g.P.Tested.TOP in
    ap Some c.max.ensures
    ∙ both (λ d. confirmed_by (tests_by test top d) k.units k.tolerance) (λ d. test false d c.step_down-p.result)
    (λ d. test true d c.step_up-q.result)
    (means test k.units c.n.view_is c.step_down-p.ensures c.TOP.ensures c.step_up-q.ensures) (g.P.Tested.last k.tested)
    c.in_ok-low.ensures.kept c.in_ok-high.ensures.kept k.tried.some c.in_ok-low.ensures.least c.in_ok-high.ensures.least
