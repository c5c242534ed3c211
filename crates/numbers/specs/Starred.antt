-- The numbers to hold against, R57: the starred ones as one list, and beside it the others.
use Rattle.std.specs.Prelude.{◌≡◌, Bool, true, false, List, [], ◌∷◌, ◌++◌, ℕ, ◌+◌, ◌≤◌, ℤ, pos, negsuc, nat_abs, length, Ok}
use Rattle.grid.specs.Grid.{one, H_units, T_units, depths}
use Rattle.grid.specs.Codes.{Code, number, done, failed, code_in}
use Rattle.grid.specs.declared.codes.Refusal.TheVariants.{BadM, BadA, BadEstimate, BadX, NoUpperEnd}
use Rattle.series.specs.Bounds.{raw_low, raw_high}
use Rattle.series.specs.Sine as series
use Rattle.series.specs.Entry.{sine_rule}
use Rattle.orbit.specs.Given.{Given, grid, doubles}
use Rattle.ends.specs.Entry.{flagged, lower_rule, upper_rule}
use Rattle.enclosure.specs.Enclosure.{enclosure_rule}
use Rattle.units.specs.Units.{coded_estimate}
use Rattle.judge.specs.Judge.{claim_of, verdict, judge_rule}
use Rattle.judge.specs.Settle.{settled_as, settle_rule}
use Rattle.judge.specs.declared.Judged.{Judged}
use Rattle.judge.specs.declared.Verdict.{Verdict}
use Rattle.judge.specs.declared.Verdict.TheVariants.{Confirmed, Refuted, Undecided}
use Rattle.distance.specs.Distance.{no_distance, distance_rule}
use Rattle.claims.specs.Form.{twenty}
use Rattle.claims.specs.Batch.{batch_rule, answers_after}
use Rattle.promises.specs.Figures.{greatest_width, least_n}
use Rattle.numbers.specs.Rows.{AllHold, minus, double}

-- a line: an entry's numbers, and what it answers to them
pub data Row : Type 0 where
  -- X, depth: Lo and Hi
  sine raw : ℕ → ℕ → ℕ → ℕ → Row
  -- X: Lo and Hi at any depth
  sine_any : ℕ → ℕ → ℕ → Row
  -- M, A, X, depth: accepted or not
  lower upper : ℕ → ℕ → ℕ → ℕ → Bool → Row
  -- what is given, depth: code and the two ends
  ends : Given → ℕ → Code → ℤ → ℤ → Row
  -- the estimate's bits: f and c
  estimate : ℕ → ℕ → ℕ → Row
  -- what is given, X: the code of the end tests at depth 1
  code : Given → ℤ → Code → Row
  -- the estimate's bits: its code
  estimate_code : ℕ → Code → Row
  -- what is given, the estimate's bits, N, depth: the verdict
  judged : Given → ℕ → ℕ → ℕ → Verdict → Row
  -- what is given, the estimate's bits, N: the verdict and the least depth that gives it
  settled : Given → ℕ → ℕ → Verdict → ℕ → Row
  -- what is given, the estimate's bits: the least and the greatest distance
  off : Given → ℕ → ℕ → ℕ → Row
  -- the same: the code of the distance
  off_code : Given → ℕ → Code → Row
  -- A: the greatest width and the least N
  figures : ℕ → ℕ → ℕ → Row
  -- what is given, the estimate's bits: the judge's code, with N = 0 at depth 5
  judge_code : Given → ℕ → Code → Row
  -- claims and the answers buffer: the count, and the buffer after
  batch : List ℕ → List ℕ → ℕ → List ℕ → Row

-- M and e by the bits of their doubles
abbrev pub bits : ℕ → ℕ → Given
bits m e = doubles (double m) (double e)

abbrev pub judge : Given → ℕ → ℕ → ℕ → Judged
judge g x N d = judge_rule (claim_of g (double x) N d)

-- code 0, Lo and Hi
abbrev pub Bounds : ℕ → ℕ → ℕ → ℕ → Type 0
Bounds X d lo hi = sine_rule X d ≡ record { code = number done; lo = pos lo; hi = pos hi }

abbrev pub Holds : Row → Type 0
Holds (sine X d lo hi) = Bounds X d lo hi
Holds (sine_any X lo hi) = (d : ℕ) → 1 ≤ d → d ≤ depths → Bounds X d lo hi
Holds (raw X d lo hi) = (raw_low series.sine X d ≡ pos lo) × (raw_high series.sine X d ≡ pos hi)
Holds (lower M A X d t) = lower_rule (pos X) (grid (pos M) A) d ≡ flagged t
Holds (upper M A X d t) = upper_rule (pos X) (grid (pos M) A) d ≡ flagged t
Holds (ends g d k a b) = enclosure_rule g d ≡ record { code = number k; lower = a; upper = b }
Holds (estimate x f c) = coded_estimate (double x) ≡ Ok (record { floor = f; ceiling = c })
Holds (code g X k) = ((lower_rule X g 1).code ≡ number k) × ((upper_rule X g 1).code ≡ number k)
Holds (estimate_code x k) = code_in (coded_estimate (double x)) ≡ number k
Holds (judged g x N d v) = judge g x N d ≡ verdict v
Holds (settled g x N v d) = settle_rule g (double x) N ≡ settled_as v d
Holds (off g x least most) = distance_rule g (double x) ≡ record { code = number done; least = least; most = most }
Holds (off_code g x k) = distance_rule g (double x) ≡ no_distance (number k)
Holds (figures A width N) = (greatest_width A ≡ width) × (least_n A ≡ N)
Holds (judge_code g x k) = (judge g x 0 depths).code ≡ number k
Holds (batch claims answers n after) =
    (batch_rule twenty (length claims) (length answers) ≡ record { code = number done; count = n })
    × (answers_after twenty claims answers ≡ after)

unfoldable pub starred : List Row
starred =
    sine_any 0 0 0
    ∷ sine 1 1 0 2
    ∷ sine 524288 1 524287 524289
    ∷ sine 524288 5 524287 524289
    ∷ raw 524288 2 524286 524290
    ∷ sine 268435456 1 223696213 225933177
    ∷ sine 268435456 2 225879913 225880656
    ∷ sine 268435456 3 225880645 225880651
    ∷ sine 268435456 5 225880645 225880651
    -- A = 2^28, X = 2^28, depth 5, at M and one less or one more
    ∷ lower 42554811 one 268435456 5 true
    ∷ lower 42554810 one 268435456 5 false
    ∷ upper 42554805 one 268435456 5 true
    ∷ upper 42554806 one 268435456 5 false
    -- the same at depth 1
    ∷ lower 44739243 one 268435456 1 true
    ∷ lower 44739242 one 268435456 1 false
    ∷ upper 42502279 one 268435456 1 true
    ∷ upper 42502280 one 268435456 1 false
    ∷ ends (grid (pos 0) one) 5 done (pos 0) (pos 0)
    ∷ ends (grid (pos H_units) one) 1 (failed NoUpperEnd) (pos 0) (pos 0)
    -- the estimate 2^-1074
    ∷ estimate 1 0 1
    ∷ []

-- the two records of the batch
abbrev pub claim1 : List ℕ
claim1 =
    0x00 ∷ 0x00 ∷ 0x00 ∷ 0x00 ∷ 0x00 ∷ 0x00 ∷ 0x00 ∷ 0x00 ∷ 0x00 ∷ 0x00 ∷ 0x00 ∷ 0x00 ∷ 0x00 ∷ 0x00 ∷ 0x00 ∷ 0x00
    ∷ 0x00 ∷ 0x00 ∷ 0x01 ∷ 0x00 ∷ []

abbrev pub claim2 : List ℕ
claim2 =
    0x00 ∷ 0x00 ∷ 0x00 ∷ 0x00 ∷ 0x00 ∷ 0x00 ∷ 0x00 ∷ 0x10 ∷ 0x00 ∷ 0x00 ∷ 0x00 ∷ 0x00 ∷ 0x00 ∷ 0x00 ∷ 0x60 ∷ 0x3f
    ∷ 0xe8 ∷ 0x03 ∷ 0x05 ∷ 0x00 ∷ []

-- two records with a negative M: M = -1, A = 0 and the estimate of -1 unit; and the least M
abbrev pub claim3 : List ℕ
claim3 =
    0xff ∷ 0xff ∷ 0xff ∷ 0xff ∷ 0x00 ∷ 0x00 ∷ 0x00 ∷ 0x00 ∷ 0x00 ∷ 0x00 ∷ 0x00 ∷ 0x00 ∷ 0x00 ∷ 0x00 ∷ 0x30 ∷ 0xbe
    ∷ 0x00 ∷ 0x00 ∷ 0x01 ∷ 0x00 ∷ []

abbrev pub claim4 : List ℕ
claim4 =
    0x00 ∷ 0x00 ∷ 0x00 ∷ 0x80 ∷ 0x00 ∷ 0x00 ∷ 0x00 ∷ 0x00 ∷ 0x00 ∷ 0x00 ∷ 0x00 ∷ 0x00 ∷ 0x00 ∷ 0x00 ∷ 0x30 ∷ 0xbe
    ∷ 0x00 ∷ 0x00 ∷ 0x01 ∷ 0x00 ∷ []

unfoldable pub others : List Row
others =
    -- each limit, and one more
    code (grid (pos H_units) one) (pos T_units) done
    ∷ code (grid (pos (H_units + 1)) one) (pos T_units) (failed BadM)
    ∷ code (grid (pos 0) one) (pos T_units) done
    ∷ code (grid (pos 0) (one + 1)) (pos T_units) (failed BadA)
    ∷ code (grid (pos 0) 0) (pos T_units) done
    ∷ code (grid (pos 0) 0) (pos (T_units + 1)) (failed BadX)
    -- the same of a negative M, and the least number of 32 bits
    ∷ code (grid (minus H_units) one) (minus T_units) done
    ∷ code (grid (minus (H_units + 1)) one) (minus T_units) (failed BadM)
    ∷ code (grid (minus 2147483648) one) (pos 0) (failed BadM)
    ∷ code (grid (minus 1) 0) (minus T_units) done
    ∷ code (grid (minus 1) 0) (minus (T_units + 1)) (failed BadX)
    -- an angle on the other side of 0 than M, and 0 itself
    ∷ code (grid (minus 1) 0) (pos 1) (failed BadX)
    ∷ code (grid (minus 1) 0) (pos 0) done
    ∷ code (grid (pos 0) 0) (minus 1) (failed BadX)
    -- the mirror exchanges the ends of M = 1, which are 756153 and 952744
    ∷ ends (grid (minus 1) one) 1 done (minus 952744) (minus 756153)
    -- T units in radians, and the next double above them
    ∷ estimate_code 0x400921fb74000000 done
    ∷ estimate_code 0x400921fb74000001 (failed BadEstimate)
    -- M = 0, e = 1: the estimates 2^-9, whose residual is small (R58), and 2^-8; and 0 with two tolerances, of which the
    -- wider loses the verdict (R47)
    ∷ judged (grid (pos 0) one) 0x3f60000000000000 1000 5 Undecided
    ∷ judged (grid (pos 0) one) 0x3f70000000000000 1000 5 Refuted
    ∷ judged (grid (pos 0) one) 0 0 5 Confirmed
    ∷ judged (grid (pos 0) one) 0 1 5 Undecided
    -- the same with no depth
    ∷ settled (grid (pos 0) one) 0x3f60000000000000 1000 Undecided 5
    ∷ settled (grid (pos 0) one) 0x3f70000000000000 1000 Refuted 1
    ∷ settled (grid (pos 0) one) 0 0 Confirmed 1
    -- M = 700000000, e = 1: estimates of 671391288, 766786714, 771205547, 771224701 and 771224724 units, each of which another
    -- depth is the first to refute; and 771226702 units; and at M = H 843314863 units
    ∷ settled (grid (pos 700000000) one) 0x4004024f1c000000 1000 Refuted 1
    ∷ settled (grid (pos 700000000) one) 0x4006da1e4d000000 1000 Refuted 2
    ∷ settled (grid (pos 700000000) one) 0x4006fbd4d5800000 1000 Refuted 3
    ∷ settled (grid (pos 700000000) one) 0x4006fbfa3e800000 1000 Refuted 4
    ∷ settled (grid (pos 700000000) one) 0x4006fbfa4a000000 1000 Refuted 5
    ∷ settled (grid (pos 700000000) one) 0x4006fbfe27000000 1000 Confirmed 4
    ∷ settled (grid (pos H_units) one) 0x400921fb57800000 10 Confirmed 5
    -- e = 0, 0.5, 0.9, 0.99 and 0.999; the last A that has a least N, and the next; the last below 2^28, and 2^28
    ∷ figures 0 2 1
    ∷ figures 134217728 65 65
    ∷ figures 241591910 577 577
    ∷ figures 265751101 6337 6337
    ∷ figures 268167020 63937 63937
    ∷ figures 268173559 65535 65535
    ∷ figures 268173560 65536 0
    ∷ figures 268435455 17179869121 0
    ∷ figures one 0 0
    -- a width above 2 + 8 e / (1 - e), and a width of 1 at a small A
    ∷ ends (grid (pos 808404641) 17526361) 5 done (pos 810539270) (pos 810539273)
    ∷ ends (grid (pos 144272510) 1) 5 done (pos 144272510) (pos 144272511)
    -- the estimate of 259103838 units lies inside its enclosure, and N = 1 is too small for it, as the least N is 2
    ∷ ends (grid (pos 257812739) 1570330) 5 done (pos 259103838) (pos 259103840)
    ∷ judged (grid (pos 257812739) 1570330) 0x3feee338bc000000 1 5 Undecided
    ∷ judged (grid (pos 257812739) 1570330) 0x3feee338bc000000 2 5 Confirmed
    -- the estimate of 220152628 units lies N + 3 units below its lower end, too near to be refuted
    ∷ ends (grid (pos 73434105) 200644510) 5 done (pos 220152631) (pos 220152638)
    ∷ judged (grid (pos 73434105) 200644510) 0x3fea3e8668000000 0 5 Undecided
    -- minus zero is 0 for every M; the least double of either sign, 2^-1074 and its negative
    ∷ judged (grid (pos 0) one) 0x8000000000000000 0 5 Confirmed
    ∷ judge_code (grid (minus 1) one) 0x8000000000000000 done
    ∷ judge_code (grid (minus 1) one) 0 done
    ∷ judge_code (grid (pos 0) one) 0x8000000000000001 (failed BadEstimate)
    ∷ judge_code (grid (minus 1) one) 0x8000000000000001 done
    ∷ judge_code (grid (minus 1) one) 1 (failed BadEstimate)
    -- doubles: e = 1, and M of H units in size, the next double, pi, a NaN and an infinity
    ∷ code (bits 0x400921fb54000000 0x3ff0000000000000) (pos T_units) done
    ∷ code (bits 0x400921fb54000001 0x3ff0000000000000) (pos T_units) (failed BadM)
    ∷ code (bits 0xc00921fb54000000 0x3ff0000000000000) (minus T_units) done
    ∷ code (bits 0xc00921fb54000001 0x3ff0000000000000) (minus T_units) (failed BadM)
    ∷ code (bits 0x400921fb54442d18 0x3ff0000000000000) (pos T_units) (failed BadM)
    ∷ code (bits 0x7ff8000000000000 0x3ff0000000000000) (pos T_units) (failed BadM)
    ∷ code (bits 0xfff0000000000000 0x3ff0000000000000) (pos T_units) (failed BadM)
    -- M = 0, and e the next double above 1, the greatest below 0, minus zero, a NaN and an infinity
    ∷ code (bits 0 0x3ff0000000000001) (pos T_units) (failed BadA)
    ∷ code (bits 0 0x8000000000000001) (pos T_units) (failed BadA)
    ∷ code (bits 0 0x8000000000000000) (pos T_units) done
    ∷ code (bits 0 0x7ff8000000000000) (pos T_units) (failed BadA)
    ∷ code (bits 0 0x7ff0000000000000) (pos T_units) (failed BadA)
    -- the sign of M is the double's own: -1e-300, and minus zero
    ∷ code (bits 0x81a56e1fc2f8f359 0) (pos 1) (failed BadX)
    ∷ code (bits 0x81a56e1fc2f8f359 0) (minus 1) done
    ∷ code (bits 0x8000000000000000 0) (pos 1) done
    ∷ code (bits 0x8000000000000000 0) (minus 1) (failed BadX)
    ∷ judge_code (bits 0x81a56e1fc2f8f359 0) 1 (failed BadEstimate)
    -- M = half a unit, e = 1: the cell reaches from M = 0 to M = 1, and so from the lower end of 0 to the upper end of 1
    ∷ ends (bits 0x3e20000000000000 0x3ff0000000000000) 1 done (pos 0) (pos 952744)
    ∷ ends (bits 0xbe20000000000000 0x3ff0000000000000) 1 done (minus 952744) (pos 0)
    -- and an estimate near its root, which M rounded to 1 refutes
    ∷ judged (bits 0x3e20000000000000 0x3ff0000000000000) 0x3f62515fd0117e41 1000 5 Undecided
    ∷ judged (grid (pos 1) one) 0x3f62515fd0117e41 1000 5 Refuted
    -- how far off 2^-9, 0, minus zero and 2^-1074 are at M = 0, e = 1, and -2^-9 at M = -1
    ∷ off (grid (pos 0) one) 0x3f60000000000000 524288 524288
    ∷ off (grid (pos 0) one) 0 0 0
    ∷ off (grid (pos 0) one) 0x8000000000000000 0 0
    ∷ off (grid (pos 0) one) 1 0 1
    ∷ off (grid (minus 1) one) 0xbf60000000000000 231865 428456
    -- estimates of 259103838, 259103836.5 and 259103841.25 units, whose enclosure stands above, and the mirror of the second
    ∷ off (grid (pos 257812739) 1570330) 0x3feee338bc000000 0 2
    ∷ off (grid (pos 257812739) 1570330) 0x3feee338b9000000 1 4
    ∷ off (grid (pos 257812739) 1570330) 0x3feee338c2800000 1 4
    ∷ off (grid (minus 257812739) 1570330) 0xbfeee338b9000000 1 4
    -- an estimate of 218439883.5 units that is Confirmed with N = 11, and may be farther off by what the search finds
    ∷ judged (grid (pos 23322495) 268435404) 0x3fea0a4197000000 11 4 Confirmed
    ∷ off (grid (pos 23322495) 268435404) 0x3fea0a4197000000 0 13
    -- M = half a unit, e = 1 and the estimate near its root
    ∷ off (bits 0x3e20000000000000 0x3ff0000000000000) 0x3f62515fd0117e41 0 600240
    -- a NaN beside a bad M and a bad A; estimates that oppose M
    ∷ off_code (grid (pos (H_units + 1)) (one + 1)) 0x7ff8000000000000 (failed BadM)
    ∷ off_code (grid (pos 0) (one + 1)) 0x7ff8000000000000 (failed BadA)
    ∷ off_code (grid (pos 0) one) 0x8000000000000001 (failed BadEstimate)
    ∷ off_code (grid (minus 1) one) 1 (failed BadEstimate)
    -- the bytes as they stand in the buffer
    ∷ batch (claim1 ++ claim2) (0x00 ∷ 0x00 ∷ []) 2 (0x10 ∷ 0x12 ∷ [])
    ∷ batch (claim3 ++ claim4) (0x00 ∷ 0x00 ∷ []) 2 (0x10 ∷ 0x01 ∷ [])
    ∷ []

pub record Starred : Type 0 where
  -- R57: the starred rows, one statement
  pub list : AllHold Holds starred
  pub beside : AllHold Holds others
  -- R13: at T both bounds lie below zero
  pub below_zero : sine_rule T_units depths ≡ record { code = number done; lo = negsuc 68; hi = negsuc 56 }
  -- R32
  pub circle : (m : ℤ) (d : ℕ) → nat_abs m ≤ H_units → 1 ≤ d → d ≤ depths
      → enclosure_rule (grid m 0) d ≡ record { code = number done; lower = m; upper = m }
