-- The numbers to hold against, R57, that the five entries of flybys answer.
use Rattle.std.specs.Prelude.{◌≡◌, Bool, true, false, List, [], ◌∷◌, ℕ, pos}
use Rattle.grid.specs.Grid.{one}
use Rattle.grid.specs.Codes.{Code, number, done, failed}
use Rattle.grid.specs.declared.codes.Refusal.TheVariants.{BadM, BadA, BadEstimate, BadN, BadX, NoFlybyEnd}
use Rattle.series.specs.Entry.{no_bounds}
use Rattle.sinh.specs.Entry.{sinh_rule}
use Rattle.ends.specs.Entry.{end_refused, flagged}
use Rattle.flyby.specs.Entry.{lower_rule, upper_rule}
use Rattle.enclosure.specs.Enclosure.{refusal}
use Rattle.flyby_enclosure.specs.Enclosure.{enclosure_rule}
use Rattle.judge.specs.Judge.{verdict, unjudged}
use Rattle.judge.specs.declared.Verdict.{Verdict}
use Rattle.judge.specs.declared.Verdict.TheVariants.{Confirmed, Refuted, Undecided}
use Rattle.flyby_judge.specs.Judge.{claim_of, judge_rule}
use Rattle.numbers.specs.Rows.{AllHold, double}

-- a line: an entry's numbers, and what it answers to them; doubles by their bits
pub data Row : Type 0 where
  -- X: low and high
  sinh : ℕ → ℕ → ℕ → Row
  -- X: the code
  sinh_code : ℕ → Code → Row
  -- X, M, B: accepted or not as lower end, and as upper end
  ends : ℕ → ℕ → ℕ → Bool → Bool → Row
  -- the same: the code of both tests
  ends_code : ℕ → ℕ → ℕ → Code → Row
  -- M, B: lower and upper
  enclosure : ℕ → ℕ → ℕ → ℕ → Row
  -- the same: the code
  enclosure_code : ℕ → ℕ → Code → Row
  -- M, B, estimate, N: the verdict
  judged : ℕ → ℕ → ℕ → ℕ → Verdict → Row
  -- the same: the code
  judge_code : ℕ → ℕ → ℕ → ℕ → Code → Row

abbrev pub Holds : Row → Type 0
Holds (sinh X lo hi) = sinh_rule X ≡ record { code = number done; lo = pos lo; hi = pos hi }
Holds (sinh_code X k) = sinh_rule X ≡ no_bounds (number k)
Holds (ends X M B lower upper) = (lower_rule X M B ≡ flagged lower) × (upper_rule X M B ≡ flagged upper)
Holds (ends_code X M B k) = (lower_rule X M B ≡ end_refused (number k)) × (upper_rule X M B ≡ end_refused (number k))
Holds (enclosure M B a b) = enclosure_rule M B ≡ record { code = number done; lower = pos a; upper = pos b }
Holds (enclosure_code M B k) = enclosure_rule M B ≡ refusal (number k)
Holds (judged M B x N v) = judge_rule (claim_of M B (double x) N) ≡ verdict v
Holds (judge_code M B x N k) = judge_rule (claim_of M B (double x) N) ≡ unjudged (number k)

-- 2^29, 2^30 and 2^31 are 536870912, 1073741824 and 2147483648
unfoldable pub sinh_rows : List Row
sinh_rows =
    sinh 0 0 0
    ∷ sinh 1 1 11
    ∷ sinh 524288 524288 524298
    ∷ sinh 268435456 315465666 315465676
    ∷ sinh 536870912 973577924 973577934
    ∷ sinh_code 536870913 (failed BadX)
    ∷ []

unfoldable pub end_rows : List Row
end_rows =
    ends_code 0 0 268435455 (failed BadA)
    ∷ ends 0 0 one true true
    ∷ ends 0 0 1073741824 true true
    ∷ ends_code 0 0 1073741825 (failed BadA)
    ∷ ends 0 2147483647 one true false
    ∷ ends_code 0 2147483648 one (failed BadM)
    ∷ ends 536870912 0 one false true
    ∷ ends_code 536870913 0 one (failed BadX)
    ∷ ends_code 536870913 2147483648 1073741825 (failed BadM)
    ∷ ends_code 536870913 0 1073741825 (failed BadA)
    ∷ ends_code 536870913 0 1073741824 (failed BadX)
    ∷ []

unfoldable pub enclosure_rows : List Row
enclosure_rows =
    -- the last M that has an enclosure, for e = 1 and e = 2
    enclosure 436707012 one 536870908 536870912
    ∷ enclosure_code 436707013 one (failed NoFlybyEnd)
    ∷ enclosure 1410284936 536870912 536870908 536870912
    ∷ enclosure_code 1410284937 536870912 (failed NoFlybyEnd)
    -- the first B with which every M has one
    ∷ enclosure_code 2147483647 740131757 (failed NoFlybyEnd)
    ∷ enclosure 2147483647 740131758 536870908 536870912
    ∷ enclosure 0 one 0 0
    ∷ enclosure 1 one 0 756157
    ∷ enclosure 268435456 402653184 311824133 311824143
    ∷ enclosure 2147483647 1073741824 432299576 432299581
    ∷ []

-- 2^-9, minus zero, 2, a NaN, an infinity and -2^-1074 are 3f60.., 8000.., 4000.., 7ff8.., 7ff0.. and 8000..1
unfoldable pub judge_rows : List Row
judge_rows =
    -- a residual of a third of a unit, and Refuted
    judged 0 one 0x3f60000000000000 1000 Refuted
    ∷ judged 0 one 0 0 Confirmed
    ∷ judged 0 one 0 1 Confirmed
    ∷ judged 0 one 0x8000000000000000 0 Confirmed
    -- the estimate of 311,824,133 units
    ∷ judged 268435456 402653184 0x3ff2960f05000000 9 Undecided
    ∷ judged 268435456 402653184 0x3ff2960f05000000 10 Confirmed
    -- two radians, and the next double
    ∷ judged 0 one 0x4000000000000000 0 Refuted
    ∷ judge_code 0 one 0x4000000000000001 0 (failed BadEstimate)
    ∷ judge_code 0 one 0x7ff8000000000000 0 (failed BadEstimate)
    ∷ judge_code 0 one 0x7ff0000000000000 0 (failed BadEstimate)
    ∷ judge_code 0 one 0x8000000000000001 0 (failed BadEstimate)
    ∷ judge_code 2147483648 268435455 0x7ff8000000000000 65536 (failed BadM)
    ∷ judge_code 0 268435455 0x7ff8000000000000 65536 (failed BadA)
    ∷ judge_code 0 one 0x7ff8000000000000 65536 (failed BadEstimate)
    ∷ judge_code 0 one 0 65536 (failed BadN)
    ∷ judged 0 one 0 65535 Confirmed
    ∷ []

pub record FlybyNumbers : Type 0 where
  pub sinh : AllHold Holds sinh_rows
  pub ends : AllHold Holds end_rows
  pub enclosure : AllHold Holds enclosure_rows
  pub judge : AllHold Holds judge_rows
