-- The further promises of the rules are kept. Assumes nothing.
use mathlib.Core.Path.{◌≡◌, refl, sym, ap, ap₂, ◌∙◌, subst}
use mathlib.Core.Bool.{Bool, true, false}
use mathlib.Core.List.{[], ◌∷◌, ◌++◌}
use Prim.Native.Nat.{ℕ, ◌+◌, ◌^◌, ◌≤◌, ◌<◌}
use native.Mathlib.Omega.{arith}
use lib.IntN.{ℤ, nat_abs}
use lib.Ieee.{binary64, of_bits}
use Rattle.std.specs.Prelude.{Result, Ok, Err, IfOk}
use Rattle.grid.specs.Grid.{T_units, depths}
use Rattle.grid.specs.Codes.{Check, number, done, checked, depth_check, x_check, signed_x_check}
use Rattle.grid.specs.declared.codes.Refusal.TheVariants.{BadDepth}
use Rattle.grid.specs.declared.codes.Refusal.{Refusal}
use Rattle.grid.proofs.FirstCode.{split, join}
use Rattle.grid.proofs.Refuses.{gives_value}
use Rattle.grid.proofs.Fits.{depth_passes}
use Rattle.series.proofs.Factorial.{den_is, num_is}
use Rattle.series.proofs.Between.{greatest_le_least}
use Rattle.series.proofs.Falling.{odd_never_falls, even_never_rises, square_within, sine_odd_never_falls, sine-even_never_rises}
use Rattle.series.specs.Terms.{Series}
use Rattle.series.specs.Bounds.{Spent}
use Rattle.series.specs.Sine.{sine}
use Rattle.series.specs.Entry.{no_bounds, bounds_of, bounds_rule}
use Rattle.series.specs.declared.Bounds.{Bounds}
use Rattle.series.proofs.Deeper.{greatest_rises, least_falls, Lo_rises, Hi_falls}
use Rattle.series.proofs.Stays.{low_stays, high_stays, spent_angles}
use Rattle.cosine.specs.Cosine.{cosine}
use Rattle.cosine.proofs.OfCosine.{cosine_divides, cosine_fall, T_fall}
use Rattle.cosine.proofs.CosineLaws.{den_c_is, num_c_is}
use Rattle.orbit.specs.Mirror.{mirror, mirror_end}
use Rattle.orbit.specs.Given.{Given, checks_of, mirrored_of, cell_of}
use Rattle.orbit.proofs.Posed.{problem_in}
use Rattle.ends.specs.Entry.{end_refused, flagged, end_rule}
use Rattle.ends.proofs.Corners as tests
use Rattle.ends.proofs.Known.{zero_lower, T_never}
use Rattle.enclosure.specs.Halving.{widest, last_bracket}
use Rattle.enclosure.proofs.Halving.{thirty_end, turns_inside}
use Rattle.enclosure.proofs.Encloses.{never_six}
use Rattle.rotations.specs.Table.{table}
use Rattle.rotations.proofs.Table.{entry_right, den_pos, G_right}
use Rattle.proposal.proofs.Certificate.{certified, concluded-true}
use Rattle.units.specs.Units.{off_range, floor_and_ceiling, estimate_check, coded_estimate}
use Rattle.units.specs.declared.Units.{Units}
use Rattle.units.proofs.Rounding.{made_exact, made_rounded}
use Rattle.claim_file.proofs.Output as program
use Rattle.judge.proofs.SettleAnswers as settle
use Rattle.promises.specs.Cosine.{CosineSums}
use Rattle.promises.specs.Further.{Sums, Ends, Searches, Proposals, Estimates, Further}
use Rattle.promises.proofs.Figures.{figures}
use Rattle.promises.proofs.Distance.{distance}
use Rattle.promises.proofs.Step.{steps_met}
use Rattle.promises.proofs.Flybys.{flybys}
use Rattle.promises.proofs.Alike.{mirrored, doubles_met}
use Rattle.promises.proofs.Mirror.{at_0}
use Rattle.promises.proofs.Ends.{accepted_says, accepts, accepts_at, declines_at}

-- the check of a depth within its limits is that of another
same_check : (d e : ℕ) → 1 ≤ d → d ≤ depths → 1 ≤ e → e ≤ depths → depth_check d ≡ depth_check e
same_check d e i j k m =
    ap (λ (t : Bool). record { fails = t; code = BadDepth }) (depth_passes d i j ∙ sym (depth_passes e k m))

spent_bounds : (s : Series) (X n d : ℕ) → Spent s X n → 1 ≤ n → n ≤ d → d ≤ depths → bounds_rule s X d ≡ bounds_rule s X n
unfolding bounds_rule
spent_bounds s X n d h some k few =
    let e : bounds_of s X d ≡ bounds_of s X n = ap₂ (λ (low high : ℤ). record { code = number done; lo = low; hi = high }) (low_stays h some d k) (high_stays h some d k) in
    ap₂ (λ (c : Check) (r : Bounds). checked (c ∷ x_check X ∷ []) no_bounds r)
    (same_check d n (omega arith) few some (omega arith)) e

sums : Sums
sums =
    record {
      denominator = den_is;
      numerator = num_is;
      odd_never_falls = sine_odd_never_falls;
      even_never_rises = sine-even_never_rises;
      low_rises = Lo_rises;
      high_falls = Hi_falls;
      spent_low = λ s X n d h some k. low_stays h some d k;
      spent_high = λ s X n d h some k. high_stays h some d k;
      spent_angles = spent_angles;
      spent_sine = spent_bounds sine;
    }

cosine_sums : CosineSums
cosine_sums =
    record {
      denominator = den_c_is;
      numerator = num_c_is;
      odd_never_falls = λ X i k x. odd_never_falls cosine X (cosine_fall X x) i k;
      even_never_rises = λ X i k x. even_never_rises cosine X (cosine_fall X x) i k;
      within_12 = λ X h. square_within X 12 h tt;
      low_rises = greatest_rises cosine;
      high_falls = least_falls cosine;
      low_below_high = λ X d e h. greatest_le_least cosine cosine_divides X (T_fall X h) d e;
      spent = spent_bounds cosine;
    }

-- ---- the end tests

-- at a greater depth, for either end
deeper : (upper : Bool) (x : ℤ) (g : Given) (d e : ℕ) → d ≤ e → e ≤ depths
    → end_rule upper x g d ≡ flagged true → end_rule upper x g e ≡ flagged true
deeper upper x g d e h few s =
    let (f, t) = accepted_says upper x g d s in
    let some = f.problem.depth.some in
    let (cell, depth) = split (checks_of g) (depth_check d ∷ []) f.checks in
    accepts upper x g e (join (checks_of g) (depth_check e ∷ []) cell (depth_passes e (omega arith) few, tt)) f.side
    (tests.deeper (mirror_end (mirrored_of g) upper) (cell_of g) (nat_abs x) h t)

spent_ends : (upper : Bool) (x : ℤ) (g : Given) (n d : ℕ) → Spent sine (nat_abs x) n → 1 ≤ n → n ≤ d → d ≤ depths
    → end_rule upper x g d ≡ end_rule upper x g n
spent_ends upper x g n d h some k few =
    ap₂ (λ (c : Check) (t : Bool). checked ((checks_of g ++ c ∷ []) ++ signed_x_check (mirror (mirrored_of g) x) ∷ []) end_refused (flagged t))
    (same_check d n (omega arith) few some (omega arith))
    (tests.spent_alike (mirror_end (mirrored_of g) upper) (cell_of g) (nat_abs x) h some d k)

end_laws : Ends
end_laws =
    record {
      lower_corners = tests.below_corners;
      upper_corners = tests.above_corners;
      lower_grid = tests.below_grid;
      upper_grid = tests.above_grid;
      lower_deeper = deeper false;
      upper_deeper = deeper true;
      spent_ends = spent_ends;
      zero_always = λ g d p.
          subst (λ (x : ℤ). end_rule (mirror_end (mirrored_of g) false) x g d ≡ flagged true) (at_0 (mirrored_of g))
          (accepts_at false 0 g d p (omega arith) (zero_lower (cell_of g) d));
      T_never = λ g d p.
          let i = problem_in g d p in
          declines_at false T_units g d p (omega arith) (T_never (cell_of g) d i.cell i.depth.few);
    }

-- ---- the searches

closed : (test : ℕ → Bool) (top : ℕ) → 0 < top → top ≤ 2 ^ 30 → (last_bracket test top).q ≡ (last_bracket test top).p + 1
closed test top some few =
    let narrow = thirty_end test top few in
    let inside = (turns_inside test 30 (widest top) some).order in
    omega arith

searches : Searches
searches = record { closed = closed; never_6 = never_six }

proposals : Proposals
unfolding table
proposals =
    record {
      count = refl;
      table_right = entry_right;
      over_0 = den_pos;
      G_right = G_right;
      exists = λ c E m x. certified c E m x;
      lower_true = λ g s m. (concluded-true g s m).0;
      upper_true = λ g s m. (concluded-true g s m).1;
    }

-- ---- an estimate

where_made : {P : Units → Type 0} (r : Result Units Refusal) → ((u : Units) → r ≡ Ok u → P u) → IfOk r P
where_made (Ok u) f = f u refl
where_made (Err e) f = tt

minus_zero : coded_estimate (of_bits binary64 0x8000000000000000) ≡ Ok (record { floor = 0; ceiling = 0 })
unfolding off_range of_bits
minus_zero = refl

estimates : Estimates
estimates =
    record {
      exact = λ x t e.
          made_exact x (floor_and_ceiling x) (gives_value (floor_and_ceiling x) (estimate_check x ∷ []) tt e) t;
      rounded = λ x. where_made (coded_estimate x) (λ u e. made_rounded x u e);
      minus_zero = minus_zero;
    }

pub further : Further
further =
    record {
      sums = sums;
      ends = end_laws;
      searches = searches;
      proposals = proposals;
      estimates = estimates;
      settles =
          record {
            at_last = settle.at_last;
            some = settle.some;
            few = settle.few;
            lesser = settle.lesser;
            from = λ g x n z d h k. settle.from_there g x n z d h k ∙ rw z refl;
            undecided = settle.none_decides;
          };
      figures = figures;
      distance = distance;
      cosine_sums = cosine_sums;
      steps = steps_met;
      flybys = flybys;
      mirrored = mirrored;
      doubles = doubles_met;
      program = record { complete = program.complete; longer = program.longer; cut = program.cut };
    }
