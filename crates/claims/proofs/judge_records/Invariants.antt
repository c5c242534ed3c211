-- `claims::judge_records`: the records passed are answered, and those left lie behind them.
use Rattle.std.proofs.Common.{◌≡◌}
use Rattle.std.specs.Iterator.Adapters.{enumerate_source, enumerate_count}
use Rattle.std.specs.Slice.Iter.{chunks_exact_rest, chunks_exact_size}
use Rattle.claims.proofs.CodeBatch.{Answered}
use Rattle.claims.proofs.judge_records.Given as goal

abbrev pub invariant-loop-i : goal.invariant-loop-i
invariant-loop-i l = record {
  can_next : (goal.iterator-loop-i).can_next l.i-iterator;
  is_finite : (goal.iterator-loop-i).is_finite l.i-iterator;
  width : chunks_exact_size (enumerate_source l.i-iterator) ≡ l.form.width;
  so_far : Answered l.form l.claims l.initial.answers (enumerate_count l.i-iterator) (chunks_exact_rest (enumerate_source l.i-iterator)) l.answers;
}
