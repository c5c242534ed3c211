-- `little::number_at` meets its contract: the chain puts each byte below those read before it.
use Rattle.std.proofs.Common.{◌≡◌, ◌+◌, ◌∙◌, reverse, rules, arith}
use Rattle.std.proofs.Math.Nat.{add-sub_cancel_left}
use Rattle.std.specs.List.{fold, slice_range}
use Rattle.little.proofs.Digits.{below, from_high}
use Rattle.little.proofs.number_at.Goals as goal

pub returns : goal.returns
returns c =
    let a = c.args in
    let byte = c.type_inv.bytes in
    let folded : c.fold.result ≡ fold below 0 (reverse (slice_range a.bytes.now a.at (a.at + a.width))) = search rules in
    folded ∙ rw add-sub_cancel_left (from_high a.bytes.now (λ k. (byte k).fits) a.at a.width (omega arith) (omega arith))
