-- `claim_file::read_full` meets its contract: each read takes the bytes after those that the earlier ones took.
use Rattle.std.proofs.Common.{◌-◌, arith, length, take}
use Rattle.std.proofs.lemmas.Grind.{common_steps}
use Rattle.claim_file.proofs.CodeRead.{consumes_more, taken_more}
use Rattle.claim_file.proofs.read_full.Goals as goal

pub loop-done-preserved : goal.loop-done-preserved
loop-done-preserved g c =
    let l = c.loop-done in
    let n = c.in_ok-n.n in
    let rest = length l.input - l.done in
    let more = taken_more l.input c.read.new.buf l.done n rest l.invariant.within c.in_ok-n.ensures.bound.0 in
    record {
      within = grind (arith, common_steps);
      bytes = rw more (consumes_more _ _ _ (take l.done l.input) (take n c.read.new.buf) l.invariant.bytes c.in_ok-n.ensures.bytes.0);
    }
