-- Little-endian numbers digit by digit: a byte more, how large they can be, and that bytes read from the highest on make them.
-- Assumes nothing.
use mathlib.Core.Path.{◌≡◌, refl}
use mathlib.Core.List.{List, reverse, reverse-cons}
use Prim.Native.Nat.{ℕ, zero, suc, ◌+◌, ◌*◌, ◌^◌, ◌%◌, ◌≤◌, ◌<◌}
use native.Mathlib.Nat.{add-zero, lt_of_lt_of_le}
use native.Mathlib.Numerals.{add-one}
use native.Mathlib.Omega.{arith}
use lib.Dec.{lit≤}
use lib.ListN.{get_or, length, take, drop}
use lib.Pow.{pow-add, pow_mono, shl_exact}
use Rattle.std.specs.Int.Bits.{bit_or}
use Rattle.std.specs.List.{fold}
use Rattle.std.proofs.Math.Seq.{drop-cons}
use Rattle.std.proofs.lemmas.List.Sums.{fold-append}
use Rattle.std.proofs.lemmas.Nat.{or_shifted}
use Rattle.little.specs.LittleEndian.{little_endian}

-- eight bits more
eight_more : (width : ℕ) → 2 ^ (8 * suc width) ≡ 256 * 2 ^ (8 * width)
eight_more width = let e : 8 * suc width ≡ 8 + 8 * width = omega arith in rw (e, pow-add)

-- a byte put below those of a number, as the code does it in 64 bits
abbrev pub below : ℕ → ℕ → ℕ
below number byte = bit_or (number * 2 ^ 8 % 2 ^ 64) byte

-- no bit is lost, and none is met
put-below : (number byte : ℕ) → number < 2 ^ 56 → byte < 256 → below number byte ≡ byte + 256 * number
put-below number byte room small = rw (shl_exact {a = number} 56 8 64 room (lit≤ tt), or_shifted) (omega arith)

pub one_byte : (bytes : List ℕ) (at : ℕ) → little_endian bytes at 1 ≡ get_or bytes at 0
unfolding little_endian
one_byte bytes at = omega arith

-- the byte after a number's bytes stands above them
pub one_more : (bytes : List ℕ) (at width : ℕ)
    → little_endian bytes at (suc width) ≡ little_endian bytes at width + get_or bytes (at + width) 0 * 2 ^ (8 * width)
unfolding little_endian
one_more bytes at zero = rw (add-zero at) (omega arith)
one_more bytes at (suc width) =
    let later : at + 1 + width ≡ at + suc width = omega arith in
    let rest = one_more bytes (at + 1) width in
    rw (eight_more, ← later) (omega arith)

module _ (bytes : List ℕ) (small : (i : ℕ) → get_or bytes i 0 < 256) where
  -- so many bytes hold no greater number
  pub little_small : (at width : ℕ) → little_endian bytes at width < 2 ^ (8 * width)
  unfolding little_endian
  little_small at zero = omega arith
  little_small at (suc width) =
      let byte = small at in
      let rest = little_small (at + 1) width in
      rw eight_more (omega arith)

  -- and fit a word of as many bits
  pub little_fits : (at width bits : ℕ) → 8 * width ≤ bits → little_endian bytes at width < 2 ^ bits
  little_fits at width bits h = lt_of_lt_of_le (little_small at width) (pow_mono h)

  -- the bytes read from the highest on, each put below those read before it
  pub from_high : (at width : ℕ) → at + width ≤ length bytes → width ≤ 8
      → fold below 0 (reverse (take width (drop at bytes))) ≡ little_endian bytes at width
  unfolding little_endian
  from_high at zero h few = refl
  from_high at (suc width) h few =
      let here : at < length bytes = omega arith in
      let rest : fold below 0 (reverse (take width (drop (suc at) bytes))) ≡ little_endian bytes (at + 1) width =
      rw (← add-one at) (from_high (at + 1) width (omega arith) (omega arith)) in
      rw (drop-cons bytes at 0, reverse-cons, fold-append, rest)
      (put-below _ _ (little_fits (at + 1) width 56 (omega arith)) (small at))
