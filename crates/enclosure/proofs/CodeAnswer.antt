-- The rule's answer by what the tests said, for the code's returns: of any tests and any top, and of an orbit's. Assumes nothing.
use mathlib.Core.Path.{◌≡◌, refl, sym, ◌∙◌}
use mathlib.Core.Bool.{Bool, true, false, not}
use mathlib.Core.List.{[], ◌∷◌}
use Prim.Native.Nat.{ℕ, ◌≤◌, ◌<◌}
use native.Mathlib.Omega.{arith}
use lib.Dec.{lit<}
use borrow.Author.Tests.{not-true, not-false}
use Rattle.whole.proofs.Parts.{by_test}
use Rattle.grid.specs.Grid.{T_units}
use Rattle.grid.specs.Codes.{number, failed, checked}
use Rattle.grid.specs.declared.codes.Refusal.{Refusal}
use Rattle.orbit.specs.Cell.{Cell}
use Rattle.ends.specs.Ends.{lower_end, upper_end}
use Rattle.enclosure.specs.declared.Enclosure.{Enclosure}
use Rattle.enclosure.specs.declared.Bracket.{Bracket}
use Rattle.enclosure.specs.declared.Found.{Found}
use Rattle.enclosure.specs.Halving.{widest, last_bracket, lower_search, upper_search, searched}
use Rattle.enclosure.specs.Enclosure.{T_check, refusal, found_lower, found_upper, found_ends, enclosed}
use Rattle.enclosure.specs.Moves.{EndsIn}
use Rattle.enclosure.proofs.Halving.{turns_inside}

-- ---- of any tests and any top

-- what a search comes to lies from 0 to the top
pub bracket_in : (acc : ℕ → Bool) (top : ℕ) → 0 < top → {b : Bracket} → b ≡ last_bracket acc top → (b.p ≤ top) × (b.q ≤ top)
bracket_in acc top some e =
    let i = turns_inside acc 30 (widest top) some in
    let o = i.order in
    let h = i.high in
    rw e (omega arith, h)

module _ (lower upper : ℕ → Bool) (top : ℕ) where
  -- so do the ends found, whatever is accepted
  pub searched_in : 0 < top → (lower_search lower top ≤ top) × (upper_search upper top ≤ top)
  searched_in some = (
    (bracket_in lower top some refl).0,
    by_test (λ (b : ℕ). b ≤ top) (upper 0) 0 _ (λ t. omega arith) (λ t. (bracket_in (λ X. not (upper X)) top some refl).1),
  )

  module _ {z : Bool} (at_0 : z ≡ upper 0) {s : Bracket} (low : s ≡ last_bracket lower top) where
    pub searched-zero : z ≡ true → ◌≡◌ {A = Found} record { a = s.p; b = 0 } (searched lower upper top)
    searched-zero y = simp (sym at_0 ∙ y, low)

    pub searched_both : z ≡ false → {u : Bracket} → u ≡ last_bracket (λ X. not (upper X)) top
        → ◌≡◌ {A = Found} record { a = s.p; b = u.q } (searched lower upper top)
    searched_both n high = simp (sym at_0 ∙ n, low, high)

-- ---- an answer by one check, that of the top, where t is what its test said
module _ {A : Type 0} (zeros : ℕ → A) (given : A) (k : Refusal) {t test : Bool} (at_top : t ≡ test) where
  pub without_top : not t ≡ true → {e : A} → e ≡ zeros (number (failed k)) → e ≡ checked (record { fails = not test; code = k } ∷ []) zeros given
  without_top n e = rw (sym at_top ∙ not-true t n) e

  pub with_top : not t ≡ false → {e : A} → e ≡ given → e ≡ checked (record { fails = not test; code = k } ∷ []) zeros given
  with_top a e = rw (sym at_top ∙ not-false t a) e

-- ---- of an orbit's

-- the answer from the check of T on
abbrev pub from_T : Bool → Cell → ℕ → Enclosure
from_T mirrored c d = checked (T_check c d ∷ []) refusal (enclosed mirrored c d)

-- both ends lie from 0 to T, whatever the depth accepts
pub ends_in : (c : Cell) (d : ℕ) → EndsIn (found_lower c d) (found_upper c d)
unfolding found_lower found_upper
ends_in c d =
    let w = searched_in (lower_end c d) (upper_end c d) T_units (lit< tt) in
    record { lower = w.0; upper = w.1 }

module _ (c : Cell) (d : ℕ) {z : Bool} (at_0 : z ≡ upper_end c d 0) {s : Bracket} (low : s ≡ last_bracket (lower_end c d) T_units) where
  pub from_zero : z ≡ true → ◌≡◌ {A = Found} record { a = s.p; b = 0 } (found_ends c d)
  unfolding found_lower found_upper
  from_zero y = searched-zero (lower_end c d) (upper_end c d) T_units at_0 low y

  pub from_searches : z ≡ false → {u : Bracket} → u ≡ last_bracket (λ X. not (upper_end c d X)) T_units
      → ◌≡◌ {A = Found} record { a = s.p; b = u.q } (found_ends c d)
  unfolding found_lower found_upper
  from_searches n high = searched_both (lower_end c d) (upper_end c d) T_units at_0 low n high
