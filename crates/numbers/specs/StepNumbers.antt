-- The numbers to hold against, R57, that cosine and the two steps answer.
use Rattle.std.specs.Prelude.{◌≡◌, List, [], ◌∷◌, ℕ, ◌+◌, ℤ, pos}
use Rattle.grid.specs.Grid.{one, H_units, T_units}
use Rattle.grid.specs.Codes.{Code, number, done, failed}
use Rattle.grid.specs.declared.codes.Refusal.TheVariants.{BadM, BadA, BadDepth, BadEstimate, BadN, BadX, BadMethod}
use Rattle.series.specs.Entry.{no_bounds}
use Rattle.cosine.specs.Cosine.{cosine_rule}
use Rattle.step.specs.Entry.{unstepped, step_rule, unjudged_step, judged_rule}
use Rattle.numbers.specs.Rows.{AllHold, minus, double}

-- a line: an entry's numbers, and what it answers to them; doubles by their bits
pub data Row : Type 0 where
  -- X, depth: CosLo and CosHi
  cosine : ℕ → ℕ → ℤ → ℤ → Row
  -- X, depth: the code
  cosine_code : ℕ → ℕ → Code → Row
  -- M, A, estimate, method: the number of the step and the new estimate
  step : ℤ → ℕ → ℕ → ℕ → ℕ → ℕ → Row
  -- the same: the code
  step_code : ℤ → ℕ → ℕ → ℕ → Code → Row
  -- M, A, estimate, method, N, depth: the step, the new estimate and the verdict
  judged : ℤ → ℕ → ℕ → ℕ → ℕ → ℕ → ℕ → ℕ → ℕ → Row
  -- the same: the code
  judged_code : ℤ → ℕ → ℕ → ℕ → ℕ → ℕ → Code → Row

abbrev pub Holds : Row → Type 0
Holds (cosine X d lo hi) = cosine_rule X d ≡ record { code = number done; lo = lo; hi = hi }
Holds (cosine_code X d k) = cosine_rule X d ≡ no_bounds (number k)
Holds (step M A x method n y) = step_rule M A (double x) method ≡ record { code = number done; step = n; estimate = double y }
Holds (step_code M A x method k) = step_rule M A (double x) method ≡ unstepped (number k)
Holds (judged M A x method N d n y v) =
    judged_rule M A (double x) method N d ≡ record { code = number done; step = n; estimate = double y; verdict = v }
Holds (judged_code M A x method N d k) = judged_rule M A (double x) method N d ≡ unjudged_step (number k)

unfoldable pub cosine_rows : List Row
cosine_rows =
    cosine 0 1 (pos one) (pos one)
    ∷ cosine 0 5 (pos one) (pos one)
    ∷ cosine 1 1 (pos 268435455) (pos 268435457)
    ∷ cosine 524288 5 (pos 268434944) (pos 268434945)
    ∷ cosine 268435456 1 (pos 134217728) (pos 145402539)
    ∷ cosine 268435456 2 (pos 145029710) (pos 145036370)
    ∷ cosine 268435456 3 (pos 145036293) (pos 145036298)
    ∷ cosine 268435456 5 (pos 145036293) (pos 145036298)
    ∷ cosine T_units 1 (minus 1056240623) (pos 33261948)
    ∷ cosine T_units 5 (minus 268435463) (minus 268435449)
    ∷ cosine_code (T_units + 1) 5 (failed BadX)
    ∷ cosine_code (T_units + 1) 6 (failed BadDepth)
    ∷ cosine_code 0 0 (failed BadDepth)
    ∷ []

-- 1, 2^-9, 2^-20, minus zero and a NaN are 3ff0.., 3f60.., 3eb0.., 8000.. and 7ff8..
unfoldable pub step_rows : List Row
step_rows =
    step (pos 268435456) 134217728 0x3ff0000000000000 1 1 0x3ff93937eab2bc08
    ∷ step (pos 268435456) 134217728 0x3ff0000000000000 2 2 0x3ff7e8c89567b9ba
    ∷ step (minus 268435456) 134217728 0xbff0000000000000 1 1 0xbff93937eab2bc08
    ∷ step (minus 268435456) 134217728 0xbff0000000000000 2 2 0xbff7e8c89567b9ba
    -- these round otherwise with F = E - (m + g), with an operation fused, and by 2 (F D)
    ∷ step (pos 16777216) 123456789 0x3fe0000000000000 1 1 0x3fc16cce1dcdc220
    ∷ step (pos 1) 268435455 0x3fd0000000000000 2 2 0x3fbffbbd6109f4be
    ∷ step (pos 0) 83886080 1 2 2 0
    -- ends at T, and one double beyond it
    ∷ step (pos 467821853) 134217728 0x3fe00000016f36f2 1 1 0x400921fb74000000
    ∷ step (pos 467821853) 134217728 0x3fe00000016f36f1 1 3 0
    -- ends exactly at zero, on the mirror too
    ∷ step (minus 1) 150000001 0xbe3ca213d6d70141 1 1 0
    ∷ step (pos 0) one 0x3f60000000000000 1 1 0
    -- either zero is 0
    ∷ step (pos 0) 134217728 0 1 1 0
    ∷ step (pos 0) 134217728 0x8000000000000000 1 1 0
    -- stands still far from the root
    ∷ step (pos 1) one 0x3f60000000000000 1 1 0x3f60000000000000
    -- flat: the divisor is zero; above T; below 0
    ∷ step (pos 0) one 0 1 3 0
    ∷ step (pos 0) one 0 2 3 0
    ∷ step (pos H_units) one 0x3eb0000000000000 1 3 0
    ∷ step (pos 0) 134217728 0x3ff0000000000000 2 3 0
    ∷ step_code (pos (H_units + 1)) (one + 1) 0x7ff8000000000000 3 (failed BadM)
    ∷ step_code (pos 0) (one + 1) 0x7ff8000000000000 3 (failed BadA)
    ∷ step_code (pos 0) one 0x7ff8000000000000 3 (failed BadEstimate)
    ∷ step_code (pos 0) one 0 3 (failed BadMethod)
    ∷ step_code (pos 0) one 0 0 (failed BadMethod)
    ∷ []

unfoldable pub judged_rows : List Row
judged_rows =
    judged (pos 268435456) 134217728 0x3ff0000000000000 2 65 5 2 0x3ff7e8c89567b9ba 17
    ∷ judged (pos 268435456) 134217728 0x3ff7e8c89567b9ba 2 65 5 2 0x3ff7faae069ceeb8 16
    ∷ judged (minus 268435456) 134217728 0xbff7e8c89567b9ba 2 65 5 2 0xbff7faae069ceeb8 16
    -- a residual of 0, and Refuted
    ∷ judged (pos 1) one 0x3f60000000000000 1 1000 5 1 0x3f60000000000000 17
    ∷ judged (pos 0) one 0x3f60000000000000 1 0 5 1 0 16
    ∷ judged (pos 0) one 0 2 0 5 3 0 0
    ∷ judged_code (pos (H_units + 1)) (one + 1) 0x7ff8000000000000 3 65536 6 (failed BadM)
    ∷ judged_code (pos 0) (one + 1) 0x7ff8000000000000 3 65536 6 (failed BadA)
    ∷ judged_code (pos 0) one 0x7ff8000000000000 3 65536 6 (failed BadDepth)
    ∷ judged_code (pos 0) one 0x7ff8000000000000 3 65536 5 (failed BadEstimate)
    ∷ judged_code (pos 0) one 0 3 65536 5 (failed BadN)
    ∷ judged_code (pos 0) one 0 3 65535 5 (failed BadMethod)
    ∷ []

pub record StepNumbers : Type 0 where
  pub cosine : AllHold Holds cosine_rows
  pub step : AllHold Holds step_rows
  pub judged : AllHold Holds judged_rows
