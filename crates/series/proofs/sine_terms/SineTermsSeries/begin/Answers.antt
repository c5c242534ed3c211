-- A walk through sine's terms begins with the angle.
use Rattle.std.proofs.Common.{◌∙◌}
use Rattle.series.specs.Sine.{sine}
use Rattle.series.proofs.CodeRange.{sine_in_range}
use Rattle.series.proofs.CodeWalk.{begins}
use Rattle.series.proofs.sine_terms.SineTermsSeries.begin.Goals as goal

pub returns : goal.returns
returns c =
    record {
      at = rw c.x.view_is at c.begin.ensures.at ∙ begins sine _;
      top = c.begin.ensures.top;
      range = sine_in_range _ c.begin.ensures.top;
    }
