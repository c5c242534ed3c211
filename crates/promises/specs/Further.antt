-- What the rules promise further, beside the demands: of sums, ends, searches, tables, estimates, settled claims, figures,
-- distances, cosine, steps, mirrors, doubles and the program.
use Rattle.std.specs.Prelude.{◌≡◌, Bool, true, false, List, [], ◌↔◌, ℕ, suc, ◌+◌, ◌*◌, ◌/◌, ◌%◌, ◌^◌, ◌≤◌, ◌<◌, T, ℤ, pos, negsuc, nat_abs, ◌*ℤ◌, ◌≤ℤ◌, Float, length, Ok, IfOk}
use Rattle.std.specs.Float.{binary64}
use Rattle.std.specs.Float.Ieee.{round, of_bits, fits, mul, neg}
use Rattle.std.specs.Float.Ieee.Positive.{den}
use Rattle.whole.specs.Sign.{negative}
use Rattle.grid.specs.Grid.{one, H_units, T_units, depths}
use Rattle.grid.specs.Codes.{Passed, number, done, failed, code_in}
use Rattle.grid.specs.declared.codes.Refusal.TheVariants.{NoUpperEnd}
use Rattle.series.specs.Terms.{Series}
use Rattle.series.specs.Bounds.{greatest_low, least_high, Spent}
use Rattle.series.specs.Exact as exact
use Rattle.series.specs.Factorial.{factorial}
use Rattle.series.specs.Sine.{sine, Lo, Hi, last_spent}
use Rattle.series.specs.Entry.{sine_rule}
use Rattle.orbit.specs.Cell.{orbit_at, grid_cell}
use Rattle.orbit.specs.Mirror.{mirror, mirror_end}
use Rattle.orbit.specs.Given.{Given, grid, doubles, mirrored_of, cell_of, exact_of, Possible, checks_of, problem_checks}
use Rattle.orbit.specs.Cell.{Cell}
use Rattle.ends.specs.Ends.{below_at, above_at, below_by, above_by}
use Rattle.ends.specs.Entry.{flagged, end_rule, lower_rule, upper_rule}
use Rattle.ends.specs.Exact.{ExactAt}
use Rattle.enclosure.specs.Halving.{last_bracket}
use Rattle.enclosure.specs.Enclosure.{enclosure_rule}
use Rattle.rotations.specs.Atan.{atan}
use Rattle.rotations.specs.Table.{entries, table, entry, RoundedDown, G, Scaled}
use Rattle.rotations.specs.declared.State.{State}
use Rattle.proposal.specs.Certify.{low_at, high_at, certifies, certificate, widths, Smallest}
use Rattle.proposal.specs.Propose.{concluded}
use Rattle.units.specs.Units.{is_below_zero, product, coded_estimate}
use Rattle.units.specs.Exact.{radian, Value, InUnits, Rounded}
use Rattle.judge.specs.Verdict.{verdict_number}
use Rattle.judge.specs.Judge.{claim_of, verdict, judge_rule}
use Rattle.judge.specs.Settle.{settle_rule}
use Rattle.judge.specs.declared.Verdict.TheVariants.{Undecided}
use Rattle.claims.specs.Form.{twenty}
use Rattle.claims.specs.Record.{answer_at}
use Rattle.claims.specs.Batch.{up_to}
use Rattle.claim_file.specs.File.{most_bytes, output}
use Rattle.promises.specs.Alike.{Same, Mirrors}
use Rattle.promises.specs.Figures.{Figures}
use Rattle.promises.specs.Distance.{Distance}
use Rattle.promises.specs.Cosine.{CosineSums}
use Rattle.promises.specs.Step.{Steps}
use Rattle.promises.specs.Flybys.{Flybys}

pub record Sums : Type 0 where
  -- R8: 2^28 t_n is X^(2n+1) over (2^56)^n (2n+1)!
  pub denominator : (n : ℕ) → exact.den sine n ≡ (one * one) ^ n * factorial (2 * n + 1)
  pub numerator : (X n : ℕ) → exact.num sine X n ≡ X ^ (2 * n + 1)
  -- R9: while x^2 <= 20
  pub odd_never_falls : (X i k : ℕ) → X * X ≤ one * one * 20 → i ≤ k
      → (exact.S sine X (suc (2 * i)) *ℤ pos (exact.den sine (suc (2 * k))))
      ≤ℤ (exact.S sine X (suc (2 * k)) *ℤ pos (exact.den sine (suc (2 * i))))
  pub even_never_rises : (X i k : ℕ) → X * X ≤ one * one * 20 → i ≤ k
      → (exact.S sine X (2 * k) *ℤ pos (exact.den sine (2 * i))) ≤ℤ (exact.S sine X (2 * i) *ℤ pos (exact.den sine (2 * k)))
  -- R13: a greater depth has no worse bounds
  pub low_rises : (X d other : ℕ) → d ≤ other → Lo X d ≤ℤ Lo X other
  pub high_falls : (X d other : ℕ) → d ≤ other → Hi X other ≤ℤ Hi X d
  -- R61: from spent terms on the best bounds are the same numbers at every greater depth, of any series
  pub spent_low : (s : Series) (X n d : ℕ) → Spent s X n → 1 ≤ n → n ≤ d → greatest_low s X d ≡ greatest_low s X n
  pub spent_high : (s : Series) (X n d : ℕ) → Spent s X n → 1 ≤ n → n ≤ d → least_high s X d ≡ least_high s X n
  -- R61: and sine's are spent exactly up to these angles
  pub spent_angles : (X n : ℕ) → 1 ≤ n → n ≤ depths → Spent sine X n ↔ X ≤ last_spent n
  -- R61: so the entry answers alike
  pub spent_sine : (X n d : ℕ) → Spent sine X n → 1 ≤ n → n ≤ d → d ≤ depths → sine_rule X d ≡ sine_rule X n

pub record Ends : Type 0 where
  -- R17, R18: a cell's test holds exactly where the grid's holds at both corners, by any bound
  pub lower_corners : (c : Cell) (X : ℕ) (b : ℤ)
      → T (below_by c X b) ↔ T (below_at (orbit_at c.m.floor c.a.floor) X b) × T (below_at (orbit_at c.m.floor c.a.ceiling) X b)
  pub upper_corners : (c : Cell) (X : ℕ) (b : ℤ)
      → T (above_by c X b) ↔ T (above_at (orbit_at c.m.ceiling c.a.floor) X b) × T (above_at (orbit_at c.m.ceiling c.a.ceiling) X b)
  -- R17, R18: on the grid they are one corner, for every M and A
  pub lower_grid : (m a X : ℕ) (b : ℤ) → below_by (grid_cell m a) X b ≡ below_at (orbit_at m a) X b
  pub upper_grid : (m a X : ℕ) (b : ℤ) → above_by (grid_cell m a) X b ≡ above_at (orbit_at m a) X b
  -- R22
  pub lower_deeper : (x : ℤ) (g : Given) (d other : ℕ) → d ≤ other → other ≤ depths → lower_rule x g d ≡ flagged true → lower_rule x g other ≡ flagged true
  pub upper_deeper : (x : ℤ) (g : Given) (d other : ℕ) → d ≤ other → other ≤ depths → upper_rule x g d ≡ flagged true → upper_rule x g other ≡ flagged true
  -- R61: from spent terms on both tests answer alike
  pub spent_ends : (upper : Bool) (x : ℤ) (g : Given) (n d : ℕ) → Spent sine (nat_abs x) n → 1 ≤ n → n ≤ d → d ≤ depths
      → end_rule upper x g d ≡ end_rule upper x g n
  -- R23: as a lower end 0 is always accepted and T never, and for a negative M 0 and -T as an upper end
  pub zero_always : (g : Given) (d : ℕ) → Passed (problem_checks g d) → end_rule (mirror_end (mirrored_of g) false) (pos 0) g d ≡ flagged true
  pub T_never : (g : Given) (d : ℕ) → Passed (problem_checks g d)
      → end_rule (mirror_end (mirrored_of g) false) (mirror (mirrored_of g) (pos T_units)) g d ≡ flagged false

pub record Searches : Type 0 where
  -- R25: the last bracket of a search is closed, for any test and any top up to 2^30
  pub closed : (test : ℕ → Bool) (top : ℕ) → 0 < top → top ≤ 2 ^ 30 → (last_bracket test top).q ≡ (last_bracket test top).p + 1
  -- R28
  pub never_6 : (g : Given) (d : ℕ) → 4 ≤ d → (enclosure_rule g d).code ≡ number (failed NoUpperEnd) → ⊥

pub record Proposals : Type 0 where
  -- R33: 25 entries, each the floor of its fraction, and no fraction over 0
  pub count : length table ≡ entries
  pub table_right : (k : ℕ) → k < entries → RoundedDown k (entry k)
  pub over_0 : (k last : ℕ) → 0 < (atan k last).den
  -- R34
  pub G_right : Scaled G
  -- R39: a smallest width exists for every E from 0 to T, and after any rotations its ends meet R19's inequalities
  pub exists : (c : Cell) (E : ℕ) → c.m.ceiling ≤ H_units → E ≤ T_units → Smallest (certifies c E) widths (certificate c E)
  pub lower_true : (g : Given) (s : State) → (cell_of g).m.ceiling ≤ H_units
      → let r = concluded (cell_of g) s in ExactAt false g (low_at (nat_abs r.angle) r.j)
  pub upper_true : (g : Given) (s : State) → (cell_of g).m.ceiling ≤ H_units
      → let r = concluded (cell_of g) s in ExactAt true g (high_at (nat_abs r.angle) r.j)

pub record Estimates : Type 0 where
  -- R41: binary64's product of an estimate in range with 2^28 is exact
  pub exact : (x : Float) → T (fits binary64 x) → code_in (coded_estimate x) ≡ number done → Value (mul binary64 x radian) (product x) (den x)
  -- R41: f and c are its floor and its ceiling
  pub rounded : (x : Float) → IfOk (coded_estimate x) (λ u. Rounded (product x) (den x) u.floor u.ceiling)
  -- R41: minus zero, by its bits
  pub minus_zero : coded_estimate (of_bits binary64 0x8000000000000000) ≡ Ok (record { floor = 0; ceiling = 0 })

pub record Settles : Type 0 where
  -- R62: code and verdict are the judge's at depth 5
  pub at_last : (g : Given) (x : Float) (n : ℕ)
      → judge_rule (claim_of g x n depths) ≡ record { code = (settle_rule g x n).code; verdict = (settle_rule g x n).verdict }
  -- R62: the depth is one of 1 to 5
  pub some : (g : Given) (x : Float) (n : ℕ) → (settle_rule g x n).code ≡ number done → 1 ≤ (settle_rule g x n).depth
  pub few : (g : Given) (x : Float) (n : ℕ) → (settle_rule g x n).code ≡ number done → (settle_rule g x n).depth ≤ depths
  -- R62: no lesser depth decides
  pub lesser : (g : Given) (x : Float) (n : ℕ) → (settle_rule g x n).code ≡ number done
      → (d : ℕ) → 1 ≤ d → d < (settle_rule g x n).depth → judge_rule (claim_of g x n d) ≡ verdict Undecided
  -- R62: from that depth on every depth has the verdict that is answered
  pub from : (g : Given) (x : Float) (n : ℕ) → (settle_rule g x n).code ≡ number done
      → (d : ℕ) → (settle_rule g x n).depth ≤ d → d ≤ depths
      → judge_rule (claim_of g x n d) ≡ record { code = number done; verdict = (settle_rule g x n).verdict }
  -- R62: where none decides it is 5
  pub undecided : (g : Given) (x : Float) (n : ℕ) → (settle_rule g x n).code ≡ number done
      → (settle_rule g x n).verdict ≡ verdict_number Undecided → (settle_rule g x n).depth ≡ depths

pub record Mirrored : Type 0 where
  -- R59: the answers to -M are the mirror of those to M, whatever M and A, or M and e
  pub on_grid : (m a : ℕ) → Mirrors (grid (negsuc m) a) (grid (pos (suc m)) a)
  pub of_doubles : (m e : Float) → is_below_zero m ≡ true → Mirrors (doubles m e) (doubles (neg m) e)

-- R60: the double nearest to a whole number of units
abbrev pub units_double : ℤ → Float
units_double z = round binary64 (negative z) (nat_abs z) one

pub record Doubles : Type 0 where
  -- R60: the exact M and A of doubles within their limits are what the doubles are
  pub values : (m e : Float) → Passed (checks_of (doubles m e))
      → let o = exact_of (doubles m e) in InUnits m o.p o.q × InUnits e (pos o.r) o.s
  -- R60: and the exact M and A of whatever is given are possible: they lie in its cell
  pub possible : (g : Given) → Possible g (exact_of g)
  -- R60: doubles on the grid are answered as the grid's numbers are, for every M and A
  pub on_grid : (m e : Float) (M : ℤ) (A : ℕ) → InUnits m M 1 → InUnits e (pos A) 1 → Same (doubles m e) (grid M A)
  -- R60: and each has such a double, up to the greatest number of 32 bits and beyond
  pub every : (M : ℤ) → nat_abs M < 2 ^ 53 → T (fits binary64 (units_double M)) × InUnits (units_double M) M 1

pub record Program : Type 0 where
  -- R53: the answer bytes, one for each claim
  pub complete : (input : List ℕ) → length input ≤ most_bytes → length input % twenty.width ≡ 0
      → output input ≡ up_to (answer_at twenty input) (length input / twenty.width)
  -- R53: nothing for a longer input, or for one that ends within a record
  pub longer : (input : List ℕ) → most_bytes < length input → output input ≡ []
  pub cut : (input : List ℕ) → length input ≤ most_bytes → (length input % twenty.width ≡ 0 → ⊥) → output input ≡ []

pub record Further : Type 0 where
  pub sums : Sums
  pub ends : Ends
  pub searches : Searches
  pub proposals : Proposals
  pub estimates : Estimates
  pub settles : Settles
  pub figures : Figures
  pub distance : Distance
  pub cosine_sums : CosineSums
  pub steps : Steps
  pub flybys : Flybys
  pub mirrored : Mirrored
  pub doubles : Doubles
  pub program : Program
