-- What the functions behind an entry that bounds a series take and answer. No entry's contract cites this file.
use Rattle.std.specs.Prelude.{ℕ, Result}
use Rattle.std.proofs.Math.IntN.{sub_ℕ}
use Rattle.grid.specs.Codes.{number, done, allowed, answer}
use Rattle.grid.specs.declared.codes.Refusal.{Refusal}
use Rattle.series.specs.Terms.{Series}
use Rattle.series.specs.Bounds.{greatest_low, least_high}
use Rattle.series.specs.Entry.{bounds_checks, no_bounds}
use Rattle.series.specs.Walk.{bias, biased}
use Rattle.series.specs.declared.Asked.{Asked}
use Rattle.series.specs.declared.Interval.{Interval}
use Rattle.series.specs.declared.Biased.{Biased}
use Rattle.series.specs.declared.Bounds.{Bounds}

-- R4, R16: the first code that applies, or what is asked about
abbrev pub asked_for : ℕ → ℕ → Result Asked Refusal
asked_for x d = allowed (bounds_checks x d) (record { angle = x; depth = d })

-- what a walk comes to: the two bounds, biased by 2^34
abbrev pub biased_bounds : Series → ℕ → ℕ → Biased
biased_bounds s X d = record { lo = biased (greatest_low s X d); hi = biased (least_high s X d) }

-- what is so biased, read back
abbrev pub unbiased : Biased → Interval
unbiased b = record { lo = sub_ℕ b.lo bias; hi = sub_ℕ b.hi bias }

-- R16: the two bounds, as they are
abbrev pub interval : Series → ℕ → ℕ → Interval
interval s x d = record { lo = greatest_low s x d; hi = least_high s x d }

-- R16: the first code that applies, or the two bounds
abbrev pub interval_known : Series → ℕ → ℕ → Result Interval Refusal
interval_known s x d = allowed (bounds_checks x d) (interval s x d)

-- R16: with code 0
abbrev pub done_interval : Interval → Bounds
done_interval b = record { code = number done; lo = b.lo; hi = b.hi }

-- R16: as the entries say it
abbrev pub bounds_answer : Result Interval Refusal → Bounds
bounds_answer = answer no_bounds done_interval
