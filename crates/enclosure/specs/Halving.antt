-- The searches, R25 to R27, over any test `acc` of whole numbers and any top: T is an orbit's.
use Rattle.std.specs.Prelude.{ℕ, zero, suc, ◌+◌, ◌-◌, ◌/◌, Bool, not, cond, ltb}
use Rattle.enclosure.specs.declared.Bracket.{Bracket}
use Rattle.enclosure.specs.declared.Found.{Found}

-- R25: where a search begins
abbrev pub widest : ℕ → Bracket
widest top = record { p = 0; q = top }

-- R25: the middle, rounded down
abbrev pub middle : Bracket → ℕ
middle b = (b.p + b.q) / 2

-- R25: the middle in the place of p
abbrev pub replace_p : Bracket → Bracket
replace_p b = record { p = middle b; q = b.q }

-- R25: the middle in the place of q
abbrev pub replace_q : Bracket → Bracket
replace_q b = record { p = b.p; q = middle b }

-- R25: one turn: where q - p is above 1 the middle replaces p if it passes the test, and q if not
unfoldable pub halve : (ℕ → Bool) → Bracket → Bracket
halve acc b = cond (ltb 1 (b.q - b.p)) (cond (acc (middle b)) (replace_p b) (replace_q b)) b

-- R25: n turns of it
unfoldable pub turns : (ℕ → Bool) → ℕ → Bracket → Bracket
turns acc zero b = b
turns acc (suc n) b = turns acc n (halve acc b)

-- R25: 30 turns end the search for any top up to 2^30: from there on q - p is 1
abbrev pub last_bracket : (ℕ → Bool) → ℕ → Bracket
last_bracket acc top = turns acc 30 (widest top)

-- R26: p is always accepted and q never; the last p is the answer
abbrev pub lower_search : (ℕ → Bool) → ℕ → ℕ
lower_search acc top = (last_bracket acc top).p

-- R27: 0 where it is accepted already; else p is never accepted and q always, so the test is turned round, and the last q is
-- the answer
abbrev pub upper_search : (ℕ → Bool) → ℕ → ℕ
upper_search acc top = cond (acc 0) 0 (last_bracket (λ X. not (acc X)) top).q

-- R26, R27: both, by the tests of lower and of upper ends
abbrev pub searched : (ℕ → Bool) → (ℕ → Bool) → ℕ → Found
searched lower upper top = record { a = lower_search lower top; b = upper_search upper top }
