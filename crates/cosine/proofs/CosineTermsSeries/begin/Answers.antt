-- A walk through cosine's terms begins with one radian.
use Rattle.std.proofs.Common.{◌∙◌}
use Rattle.series.proofs.CodeWalk.{begins}
use Rattle.cosine.specs.Cosine.{cosine}
use Rattle.cosine.proofs.OfCosine.{cosine_in_range}
use Rattle.cosine.proofs.CosineTermsSeries.begin.Goals as goal

pub returns : goal.returns
returns c =
    record {
      at = c.begin.ensures.at ∙ begins cosine _;
      top = c.begin.ensures.top;
      range = cosine_in_range _ c.begin.ensures.top;
    }
