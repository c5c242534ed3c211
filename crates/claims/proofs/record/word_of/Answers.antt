-- `claims::record::word_of` meets its contract: four bytes hold no number that loses bits.
use Rattle.std.proofs.Common.{◌+◌, arith}
use Rattle.little.proofs.Digits.{little_fits}
use Rattle.claims.proofs.record.word_of.Goals as goal

pub overflow_cast-result : goal.overflow_cast-result
overflow_cast-result c =
    let a = c.args in
    let byte = c.type_inv.bytes in
    let fits = little_fits a.bytes.now (λ k. (byte k).fits) (0 + a.field.at) a.field.bytes 32 (omega arith) in
    rw c.value_of.ensures (record { fits = fits })
