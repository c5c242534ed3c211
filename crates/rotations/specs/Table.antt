-- The arctangent table and G, R33 and R34: the numbers, and the rules that they keep.
use Rattle.std.specs.Prelude.{ℕ, zero, suc, ◌+◌, ◌*◌, ◌^◌, ◌≤◌, ◌<◌, List, [], ◌∷◌, pos, ◌*ℤ◌, ◌≤ℤ◌, ◌<ℤ◌, get_or}
use Rattle.grid.specs.Grid.{one}
use Rattle.rotations.specs.Atan.{atan}

-- R33: how many entries there are
abbrev pub entries : ℕ
entries = 25

-- R33: the entries, from k = 0 on
unfoldable pub table : List ℕ
table =
    210828714 ∷ 124459457 ∷ 65760959 ∷ 33381289 ∷ 16755421
    ∷ 8385878 ∷ 4193962 ∷ 2097109 ∷ 1048570 ∷ 524287
    ∷ 262143 ∷ 131071 ∷ 65535 ∷ 32767 ∷ 16383
    ∷ 8191 ∷ 4095 ∷ 2047 ∷ 1023 ∷ 511
    ∷ 255 ∷ 127 ∷ 63 ∷ 31 ∷ 15 ∷ []

-- R33: entry k; 0 beyond the table, where no rotation goes
unfoldable pub entry : ℕ → ℕ
entry k = get_or table k 0

-- R33: 14 terms end in a subtracted one
abbrev pub last_below : ℕ
last_below = 13

-- R33: 15 terms end in an added one
abbrev pub last_above : ℕ
last_above = 14

-- R33: n is 2^28 atan 2^-k rounded down, multiplied out: n ≤ 2^28 · (the sum below) and 2^28 · (the sum above) < n + 1
pub record RoundedDown (k n : ℕ) : Type 0 where
  pub low : (pos n *ℤ pos (atan k last_below).den) ≤ℤ (pos one *ℤ (atan k last_below).num)
  pub high : (pos one *ℤ (atan k last_above).num) <ℤ (pos (n + 1) *ℤ pos (atan k last_above).den)

-- R34: G; `Scaled` says what it is
unfoldable pub G : ℕ
G = 98987219

-- R34: the product of f 0 to f (n - 1)
unfoldable pub product : (ℕ → ℕ) → ℕ → ℕ
product f zero = 1
product f (suc n) = product f n * f n

-- R34: the product is `numerator / denominator`
abbrev pub numerator : ℕ
numerator = product (λ k. 4 ^ k) entries

-- R34: its lower part
abbrev pub denominator : ℕ
denominator = product (λ k. 4 ^ k + 1) entries

-- R34: g is 2^28 numerator / denominator rounded down, multiplied out by the denominator
pub record Scaled (g : ℕ) : Type 0 where
  pub low : g * denominator ≤ one * numerator
  pub high : one * numerator < (g + 1) * denominator
