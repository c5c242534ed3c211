-- An estimate that passes its check has an exact product, which is rounded down and up; the two differ by one at most, and
-- neither is above T. Assumes nothing.
use Rattle.std.proofs.Common.{◌≡◌, refl, ℕ, ◌*◌, ◌<◌, ◌≤◌, false, T, [], ◌∷◌, subst, le_of_eq, le_antisymm, arith, lit≤}
use lib.Ieee.{Float, binary64, mul, fits}
use lib.Ieee.Positive.{den, den_pos}
use Rattle.std.specs.Prelude.{Ok}
use Rattle.whole.specs.Round.{down, up}
use Rattle.whole.proofs.Round.{down_le, lt-down, le_up, up_lt, down-le-up, up_whole, up-le_next}
use Rattle.grid.specs.Grid.{T_units}
use Rattle.grid.specs.declared.codes.Refusal.{Refusal}
use Rattle.grid.specs.declared.codes.Refusal.TheVariants.{BadEstimate}
use Rattle.grid.specs.Codes.{allowed}
use Rattle.grid.proofs.FirstCode.{made}
use Rattle.units.specs.Units.{product, floor_and_ceiling, coded_units, range_check, estimate_check, coded_estimate}
use Rattle.units.specs.Exact.{radian, Value, RoundedUpTo, Rounded}
use Rattle.units.specs.Limits.{UnitsUpTo, UnitsIn}
use Rattle.units.specs.declared.Units.{Units}
use Rattle.units.proofs.Range.{passed_in_range, floor_fits, ceiling_fits, product_value}

-- a number in units is an answer by one check
pub by_check : (x : Float) (limit : ℕ) (code : Refusal)
    → coded_units x limit code ≡ allowed (range_check x limit code ∷ []) (floor_and_ceiling x)
by_check x limit code = refl

-- any number up to its limit
pub range_fits : (x : Float) (limit : ℕ) (code : Refusal) → (range_check x limit code).fails ≡ false → UnitsUpTo limit (floor_and_ceiling x)
range_fits x limit code h =
    let r = passed_in_range limit x h in
    record { floor = floor_fits r; ceiling = ceiling_fits r; next = up-le_next (product x) (den x) (den_pos x) }

pub estimate_fits : (x : Float) → (estimate_check x).fails ≡ false → UnitsIn (floor_and_ceiling x)
estimate_fits x = range_fits x T_units BadEstimate

rounded : (limit a d : ℕ) → 0 < d → up a d ≤ limit → RoundedUpTo limit a d (down a d) (up a d)
rounded limit a d D h =
    let least = down_le a d in
    let above = le_up a d D in
    record {
      floor_least = least;
      floor_most = let k = lt-down a d D in omega arith;
      ceiling_least = above;
      ceiling_most = up_lt a d D;
      ordered = down-le-up a d D;
      next = up-le_next a d D;
      exactly = (λ e. le_antisymm (subst (λ (n : ℕ). a ≤ n * d) e above) least, λ e. up_whole a d D (le_of_eq e));
      limit = h;
    }

pub range_rounded : (x : Float) (limit : ℕ) (code : Refusal) → (range_check x limit code).fails ≡ false
    → RoundedUpTo limit (product x) (den x) (floor_and_ceiling x).floor (floor_and_ceiling x).ceiling
range_rounded x limit code h = rounded limit (product x) (den x) (den_pos x) (range_fits x limit code h).ceiling

pub passed_rounded : (x : Float) → (estimate_check x).fails ≡ false
    → Rounded (product x) (den x) (floor_and_ceiling x).floor (floor_and_ceiling x).ceiling
passed_rounded x = range_rounded x T_units BadEstimate

-- ---- whatever is made

module _ (x : Float) (u : Units) (e : coded_estimate x ≡ Ok u) where
  pub made_passed : (estimate_check x).fails ≡ false
  made_passed = (made (floor_and_ceiling x) (estimate_check x ∷ []) e).0.0

  pub made_exact : T (fits binary64 x) → Value (mul binary64 x radian) (product x) (den x)
  made_exact t = product_value T_units x (lit≤ tt) t (passed_in_range T_units x made_passed)

  pub made_rounded : Rounded (product x) (den x) u.floor u.ceiling
  made_rounded = rw ((made (floor_and_ceiling x) (estimate_check x ∷ []) e).1) (passed_rounded x made_passed)
