-- `step::Local::at` meets its contract: Lo of sine and of cosine at depth 5, M and A as doubles, and the operations in their order.
use Rattle.std.proofs.Common.{◌≡◌, ℕ, ◌≤◌, ap, ◌∙◌}
use Rattle.std.proofs.Math.IntN.{sub_ℕ}
use lib.Ieee.{Float, of_bits}
use Rattle.grid.specs.Grid.{T_units, depths}
use Rattle.series.specs.Sine.{sine, Lo}
use Rattle.series.specs.Walk.{bias}
use Rattle.series.proofs.CodeRange.{sine_in_range}
use Rattle.cosine.specs.Cosine.{cosine, CosLo}
use Rattle.cosine.specs.Lows.{lows_at}
use Rattle.cosine.specs.declared.lows.Lows.{Lows}
use Rattle.cosine.proofs.OfCosine.{cosine_in_range}
use Rattle.step.specs.Step.{in_radians, local_at}
use Rattle.step.proofs.CodeUnits.{low_back}
use Rattle.step.proofs.Local.at.Goals as goal

-- s and k
module _ (X : ℕ) (h : X ≤ T_units) {low : Lows} (e : low ≡ lows_at X) where
  sine-is : {y : Float} → y ≡ in_radians (sub_ℕ low.sine bias) → y ≡ in_radians (Lo X depths)
  sine-is f = f ∙ ap (λ (r : Lows). in_radians (sub_ℕ r.sine bias)) e ∙ low_back sine sine_in_range X h

  cosine-is : {y : Float} → y ≡ in_radians (sub_ℕ low.cosine bias) → y ≡ in_radians (CosLo X depths)
  cosine-is f = f ∙ ap (λ (r : Lows). in_radians (sub_ℕ r.cosine bias)) e ∙ low_back cosine cosine_in_range X h

pub returns : goal.returns
unfolding local_at of_bits
returns c =
    let low = c.at-low.ensures in
    rw (← c.cell.view_is, sine-is _ low.within low.value c.radians-s.ensures, cosine-is _ low.within low.value c.radians-k.ensures)
