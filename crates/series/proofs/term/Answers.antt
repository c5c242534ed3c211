-- `series::term` meets its contract: what is rounded up by 2^28 and then by the divisor is rounded up once by both.
use Rattle.std.proofs.Common.{rules, ◌≡◌, true, not, lit<}
use lib.Dec.{eqb}
use Rattle.grid.specs.Grid.{one}
use Rattle.whole.proofs.Round.{up_up}
use Rattle.series.proofs.term.Goals as goal

pub returns-then-this-ne0 : goal.returns-then-this-ne0
returns-then-this-ne0 g c =
    let above : not (eqb g.row.ABOVE 0) ≡ true = search rules in
    rw above (rw (rw above at c.scaled-product.ensures) (up_up _ one c.args.divisor (lit< tt) c.requires.divides))
