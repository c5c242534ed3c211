-- `claim_file::judge` meets its contract: the bytes that are written are those for what the reader had.
use Rattle.std.proofs.Common.{arith}
use Rattle.claim_file.proofs.CodeRead.{judged}
use Rattle.claim_file.proofs.judge.Goals as goal

pub returns : goal.returns
returns g c =
    let read = c.in_ok-n.ensures in
    judged c.write_answers.result _ _ _ _ c.read_full.new.input c.in_ok-n.n (omega arith) read.within.0 read.bytes read.end
    c.write_answers.ensures
