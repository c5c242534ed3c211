-- Which bit patterns are a NaN's, by one comparison, and what the reader makes of those. Assumes nothing.
use mathlib.Core.Path.{◌≡◌, refl, sym, ◌∙◌, subst}
use mathlib.Core.Bool.{Bool, true, not}
use Prim.Native.Nat.{ℕ, ◌*◌, ◌%◌, ◌≤◌, ◌<◌}
use borrow.Author.Tests.{lt-ltb, le-ltb}
use lib.Dec.{T}
use lib.Ieee.{Float, nan, inf, fin, binary64, of_bits, is_nan, nan_bits, div, ones, hid, top}
use lib.Ieee.Bits.{nan_bits_is, nan_bits_above}

only_nan : (x : Float) → is_nan x ≡ true → x ≡ nan
unfolding is_nan
only_nan nan e = refl
only_nan (inf s) e = absurd (subst T (sym e) tt)
only_nan (fin s m e) f = absurd (subst T (sym f) tt)

-- above infinity, the sign taken off
pub nan_pattern : (n : ℕ) → ones binary64 * hid binary64 < n % top binary64 → of_bits binary64 n ≡ nan
nan_pattern n h =
    only_nan (of_bits binary64 n) (sym (nan_bits_is binary64 n) ∙ nan_bits_above binary64 n ∙ lt-ltb _ _ h)

pub no_nan_pattern : (n : ℕ) → n % top binary64 ≤ ones binary64 * hid binary64 → T (not (nan_bits binary64 n))
no_nan_pattern n h =
    subst (λ (b : Bool). T (not b)) (sym (nan_bits_above binary64 n ∙ le-ltb _ _ h)) tt

-- 0 by 0
pub zero_by_zero : div binary64 (of_bits binary64 0) (of_bits binary64 0) ≡ nan
unfolding div of_bits
zero_by_zero = refl

-- the library's NaN, by its pattern
pub library_nan : of_bits binary64 9221120237041090560 ≡ nan
unfolding of_bits
library_nan = refl
