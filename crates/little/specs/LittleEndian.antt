-- The number that bytes in a row stand for, and a word in two's complement, R49.
use Rattle.std.specs.Prelude.{ℕ, zero, suc, ◌+◌, ◌*◌, cond, List, ltb, ℤ, pos, ◌-ℤ◌, get_or}

-- R49: the number of `width` bytes from the place `at` on, the first of them the lowest
unfoldable pub little_endian : List ℕ → ℕ → ℕ → ℕ
little_endian bytes at zero = 0
little_endian bytes at (suc width) = get_or bytes at 0 + 256 * little_endian bytes (at + 1) width

-- R49: the number whose two's complement a word of 32 bits is: from 2^31 on it lies 2^32 lower
abbrev pub twos_complement : ℕ → ℤ
twos_complement word = cond (ltb word 2147483648) (pos word) (pos word -ℤ pos 4294967296)
