-- The figures are what R63 and R64 allow, R66; and all that is promised of them. Assumes nothing.
use mathlib.Core.Path.{◌≡◌, refl}
use mathlib.Core.Logic.{◌↔◌}
use Prim.Native.Nat.{ℕ, ◌+◌, ◌-◌, ◌*◌, ◌≤◌, ◌<◌}
use native.Mathlib.Omega.{arith}
use native.Mathlib.Nat.{mul-le-mul_right}
use borrow.Author.Tests.{lt-ltb, le-ltb}
use lib.Dec.{leb, nleb→lt}
use Rattle.whole.specs.Round.{down, up}
use Rattle.whole.proofs.Round.{down_le, le_down, le_up, up_le}
use Rattle.whole.proofs.Parts.{by_test}
use Rattle.grid.specs.Grid.{one, N_units}
use Rattle.promises.specs.Figures.{greatest_width, tolerable, least_n, Figures}
use Rattle.promises.proofs.Widths.{width, width_most, half_most}
use Rattle.promises.proofs.FarAndNear.{limits, enclosed, confirmed, refuted_below, refuted_above, rounded}

-- ---- R66: the figures

-- what holds of each N from a first one on, within the limit
tolerable_from : (first n : ℕ) {Q : Type 0} → n ≤ N_units → 0 < first → (Q → first ≤ n) → (first ≤ n → Q)
    → Q ↔ (0 < tolerable first) × (tolerable first ≤ n)
tolerable_from first n {Q} few some f g =
    by_test (λ (z : ℕ). Q ↔ (0 < z) × (z ≤ n)) (leb first N_units) first _ (λ t. (λ q. (some, f q), λ p. g p.1))
    (λ t.
    let k = nleb→lt first N_units t in
    (λ q. absurd (let h = f q in let y : ⊥ = omega arith in y), λ p. absurd (let h = p.0 in let y : ⊥ = omega arith in y)))

module _ (a : ℕ) (under : a < one) where
  greatest : (w : ℕ) → 2 < w → (w - 2) * (one - a) < 64 * a ↔ w ≤ greatest_width a
  greatest w some =
      rw (lt-ltb a one under) (
        λ h. let k = le_down (w - 2) (64 * a - 1) (one - a) (omega arith) (omega arith) in omega arith,
        λ h.
            let k = down_le (64 * a - 1) (one - a) in
            let j : w - 2 ≤ down (64 * a - 1) (one - a) = omega arith in
            let i : 1 ≤ w - 2 = omega arith in
            omega (arith, mul-le-mul_right (one - a) j, mul-le-mul_right (one - a) i),
      )

  two_least : 2 ≤ greatest_width a
  two_least = rw (lt-ltb a one under) (omega arith)

  least : (n : ℕ) → 1 ≤ n → n ≤ N_units → 64 * a ≤ (n - 1) * (one - a) ↔ (0 < least_n a) × (least_n a ≤ n)
  least n some few =
      rw (lt-ltb a one under)
      (tolerable_from (1 + up (64 * a) (one - a)) n few (omega arith)
      (λ h. let k = up_le (n - 1) (64 * a) (one - a) (omega arith) h in omega arith)
      (λ h.
      let k = le_up (64 * a) (one - a) (omega arith) in
      let j : up (64 * a) (one - a) ≤ n - 1 = omega arith in
      omega (arith, mul-le-mul_right (one - a) j)))

none : (a : ℕ) → one ≤ a → (greatest_width a ≡ 0) × (least_n a ≡ 0)
none a h = rw (le-ltb a one h) (refl, refl)

-- ---- all of them

pub figures : Figures
figures =
    record {
      width = λ m a under z. width m a z under;
      half = λ m a h z. width_most m a z (omega arith) 65 (omega arith) (λ w some law. half_most a w h some law);
      confirmed = λ m a x n under z. confirmed m a x n z under;
      refuted_below = λ m a x n under z. refuted_below m a x n z under;
      refuted_above = λ m a x n under z. refuted_above m a x n z under;
      enclosed = enclosed;
      rounded = rounded;
      greatest = λ a w under some. greatest a under w some;
      least = λ a n under some few. least a under n some few;
      none = none;
      narrow = λ m a under z.
          width_most m a z under (greatest_width a) (two_least a under) (λ w some law. (greatest a under w some).0 law);
      enough = λ m a x n under z low high some enough.
          confirmed m a x n z under low high (omega arith)
          ((least a under n (omega arith) (limits m a x n z).tolerance).1 (some, enough));
    }
