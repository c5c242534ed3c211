-- `further` of sine's terms meets its contract: 2k (2k + 1) is n (n + 1) for n = 2, 4, ..
use Rattle.std.proofs.Common.{arith}
use Rattle.series.proofs.CodeRange.{sine_in_range}
use Rattle.series.proofs.CodeWalk.{next_fits, next_is}
use Rattle.series.proofs.sine_terms.SineTermsSeries.further.Goals as goal

pub further-requires-clause-fits : goal.further-requires-clause-fits
further-requires-clause-fits c = next_fits sine_in_range 2 (λ d. omega arith) (λ d. omega arith) c.requires

pub returns : goal.returns
returns c = next_is sine_in_range 2 (λ d. omega arith) (λ d. omega arith) c.requires c.further.ensures
