-- `claims::record::double` meets its contract: at a NaN's pattern the value is the library's NaN, at any other the pattern is read.
use Rattle.std.proofs.Common.{sym, ◌∙◌}
use Rattle.claims.proofs.CodeNanPatterns.{nan_pattern, no_nan_pattern, library_nan}
use Rattle.claims.proofs.record.double.Goals as goal

pub float_from_bits-result : goal.float_from_bits-result
float_from_bits-result c = no_nan_pattern c.args.bits c.if-bits-gt-INFINITY.false

pub returns-then-bits-gt-INFINITY : goal.returns-then-bits-gt-INFINITY
returns-then-bits-gt-INFINITY c = library_nan ∙ sym (nan_pattern c.args.bits c.if-bits-gt-INFINITY.true)
