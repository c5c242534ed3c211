-- `claims::record::Record::answer_byte` meets its contract: the byte says what is known of the record.
use Rattle.std.proofs.Common.{sym, ◌∙◌}
use Rattle.claims.proofs.AnswerBytes.{byte_said}
use Rattle.claims.proofs.record.Record.answer_byte.Goals as goal

pub returns-in-Ok : goal.returns-in-Ok
returns-in-Ok c = byte_said c.args.self.now.form c.args.self.now.bytes.now 0 c.from.ensures (sym c.in-Ok.is ∙ c.verdict.ensures)

pub returns-in-Err : goal.returns-in-Err
returns-in-Err c = byte_said c.args.self.now.form c.args.self.now.bytes.now 0 c.code.ensures (sym c.in-Err.is ∙ c.verdict.ensures)
