-- R5's table of codes in inequalities: when each check of an entry fails.
use Rattle.std.specs.Prelude.{◌≡◌, Bool, true, false, not, List, ◌⊎◌, ◌↔◌, ℕ, ◌+◌, ◌*◌, ◌%◌, ◌/◌, ◌<◌, T, ℤ, pos, nat_abs, ◌<ℤ◌, Float, get_or}
use Rattle.std.specs.Float.{nan, inf, fin}
use Rattle.std.specs.Float.Ieee.Positive.{den}
use Rattle.grid.specs.Grid.{one, H_units, T_units, depths, N_units}
use Rattle.grid.specs.Codes.{Check, limit_check, span_check, a_check, depth_check, x_check, signed_x_check, n_check, method_check}
use Rattle.grid.specs.declared.codes.Refusal.TheVariants.{BadM, BadA, BadEstimate}
use Rattle.grid.specs.Flyby.{M_top, B_top, X_top, X_check}
use Rattle.orbit.specs.Mirror.{mirror}
use Rattle.orbit.specs.Given.{Given, grid, doubles, is_bad_m, is_bad_a}
use Rattle.orbit.specs.Cell.{Cell}
use Rattle.ends.specs.Ends.{upper_end}
use Rattle.enclosure.specs.Enclosure.{T_check}
use Rattle.units.specs.Units.{mirror_double, product, range_check, estimate_check}
use Rattle.flyby.specs.Ends.{end_at}
use Rattle.flyby_enclosure.specs.Enclosure.{top_check}
use Rattle.claims.specs.Form.{twenty}
use Rattle.claims.specs.Record.{reserved_check}
use Rattle.claims.specs.Batch.{length_check, answers_check}

-- R5: code 10, an angle on the other side of 0 than M: 0 itself opposes nothing
abbrev pub Opposes : Bool → ℤ → Type 0
Opposes false x = x <ℤ pos 0
Opposes true x = pos 0 <ℤ x

-- R5: a NaN, infinite, or above a limit in size, which is product / den units
abbrev pub Oversize : ℕ → Float → Type 0
Oversize limit nan = Unit {0}
Oversize limit (inf s) = Unit {0}
Oversize limit (fin s m exp) = limit * den (fin s m exp) < product (fin s m exp)

-- R5: with a sign and not zero; s is `true` for a minus sign
abbrev pub HasSign : Bool → Float → Type 0
HasSign minus nan = ⊥
HasSign minus (inf s) = ⊥
HasSign minus (fin s m exp) = (s ≡ minus) × (0 < m)

-- R5: code 1
abbrev pub BeyondM : Given → Type 0
BeyondM (grid m a) = H_units < nat_abs m
BeyondM (doubles m e) = Oversize H_units m

-- R5: code 2: e = 1 is `one` units
abbrev pub BeyondA : Given → Type 0
BeyondA (grid m a) = one < a
BeyondA (doubles m e) = HasSign true e ⊎ Oversize one e

-- R5: a check fails exactly when its condition holds
abbrev pub Exactly : Check → Type 0 → Type 0
Exactly c condition = c.fails ≡ true ↔ condition

pub record Conditions : Type 0 where
  -- code 1
  pub m : (g : Given) → is_bad_m g ≡ true ↔ BeyondM g
  -- code 2, of what is given and of an eccentricity
  pub a : (g : Given) → is_bad_a g ≡ true ↔ BeyondA g
  pub eccentricity : (a : ℕ) → Exactly (a_check a) (one < a)
  -- code 3
  pub depth : (d : ℕ) → Exactly (depth_check d) ((d < 1) ⊎ (depths < d))
  -- code 4, of an estimate that is mirrored with M
  pub estimate : (mirrored : Bool) (x : Float)
      → Exactly (estimate_check (mirror_double mirrored x)) (HasSign (not mirrored) x ⊎ Oversize T_units x)
  -- code 5
  pub n : (n : ℕ) → Exactly (n_check n) (N_units < n)
  -- code 6
  pub top : (c : Cell) (d : ℕ) → Exactly (T_check c d) (T (upper_end c d T_units) → ⊥)
  -- code 7
  pub bad_length : (bytes : ℕ) → Exactly (length_check twenty bytes) (bytes % twenty.width ≡ 0 → ⊥)
  -- code 8
  pub short_answers : (bytes room : ℕ) → Exactly (answers_check twenty bytes room) (room < bytes / twenty.width)
  -- code 9: the reserved byte
  pub reserved : (claims : List ℕ) (start : ℕ)
      → Exactly (reserved_check twenty claims start) (get_or claims (start + twenty.reserved.at) 0 ≡ 0 → ⊥)
  -- code 10, of an angle of sine and cosine; and of a tested one, which is mirrored with M
  pub x : (x : ℕ) → Exactly (x_check x) (T_units < x)
  pub tested : (mirrored : Bool) (x : ℤ) → Exactly (signed_x_check (mirror mirrored x)) (Opposes mirrored x ⊎ (T_units < nat_abs x))
  -- codes 1, 2, 10, 4 and 15 of a flyby
  pub flyby_m : (m : ℕ) → Exactly (limit_check m M_top BadM) (M_top < m)
  pub flyby_b : (b : ℕ) → Exactly (span_check b one B_top BadA) ((b < one) ⊎ (B_top < b))
  pub flyby_x : (x : ℕ) → Exactly (X_check x) (X_top < x)
  pub flyby_estimate : (x : Float) → Exactly (range_check x X_top BadEstimate) (HasSign true x ⊎ Oversize X_top x)
  pub flyby_top : (m b : ℕ) → Exactly (top_check m b) (T (end_at true m b X_top) → ⊥)
  -- code 21
  pub method : (method : ℕ) → Exactly (method_check method) ((method ≡ 1 → ⊥) × (method ≡ 2 → ⊥))
