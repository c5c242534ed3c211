-- `claims::record::Record::verdict` meets its contract: the reserved byte's check is the first, and the judge makes those of the claim.
use Rattle.std.proofs.Common.{◌≡◌, ◌*◌, false, ap, ◌∙◌, zero-mul, Err}
use Rattle.std.proofs.lemmas.Result.{err_from_is_err_and}
use borrow.Author.Tests.{eq-eqb}
use Rattle.judge.specs.Decision.{settled_known}
use Rattle.claims.specs.Record.{reserved_check, claim_at}
use Rattle.claims.proofs.AnswerBytes.{verdict_made, verdict_refused}
use Rattle.claims.proofs.record.Record.verdict.Goals as goal
use Rattle.claims.proofs.record.Record.verdict.Goals.{After-decide}

module _ (c : After-decide) where
  zero : (reserved_check c.args.self.now.form c.args.self.now.bytes.now (0 * c.args.self.now.form.width)).fails ≡ false
  zero = rw (zero-mul, ← c.self.view_is, ← c.value_of.ensures, eq-eqb _ _ c.if-value_of-ne0.false)

  decides : c.decide.result ≡ settled_known (claim_at c.args.self.now.form c.args.self.now.bytes.now 0)
  decides = rw zero-mul (c.decide.ensures ∙ ap settled_known c.claim.ensures)

pub returns-in_err-decision : goal.returns-in_err-decision
returns-in_err-decision c =
    let step = (goal.at.returns-in_err-decision c).After-decide in
    let (refusal, is_err, same) = err_from_is_err_and _ c.from_residual.ensures.1 in
    is_err ∙ ap Err same ∙ verdict_refused c.args.self.now.form c.args.self.now.bytes.now 0 (zero step) (decides step) c.in_err-decision.was

pub returns : goal.returns
returns c =
    let step = (goal.at.returns c).After-decide in
    verdict_made c.args.self.now.form c.args.self.now.bytes.now 0 (zero step) (decides step) c.in_ok-decision.was
