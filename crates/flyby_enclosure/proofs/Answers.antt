-- What the entry's answer says: its code, and with code 0 the ends that the searches found. Assumes nothing.
use mathlib.Core.Path.{◌≡◌, refl, subst}
use mathlib.Core.Bool.{true, false}
use mathlib.Core.List.{[], ◌∷◌}
use Prim.Native.Nat.{ℕ, ◌≤◌}
use native.Mathlib.Omega.{arith}
use lib.Dec.{T, lit≤, lit<}
use Rattle.whole.proofs.Bools.{not_failed}
use Rattle.grid.specs.Flyby.{X_top, flyby_checks}
use Rattle.grid.specs.Refuses.{Refuses}
use Rattle.grid.proofs.FirstCode.{goes, split}
use Rattle.grid.proofs.Refuses.{makes}
use Rattle.enclosure.specs.declared.Enclosure.{Enclosure}
use Rattle.enclosure.specs.Halving.{searched}
use Rattle.enclosure.specs.Enclosure.{refusal}
use Rattle.enclosure.specs.Moves.{EndsIn}
use Rattle.enclosure.proofs.CodeAnswer.{searched_in}
use Rattle.enclosure.proofs.Searches.{LowerFound, UpperFound, lower_found, upper_found}
use Rattle.flyby.specs.Ends.{end_at}
use Rattle.flyby.specs.Posed.{FlybyIn}
use Rattle.flyby.proofs.Posed.{flyby_in}
use Rattle.flyby.proofs.Exact.{apart, zero_lower, top_never}
use Rattle.flyby_enclosure.specs.Enclosure.{top_check, enclosure_checks, found_lower, found_upper, found_ends, enclosed, enclosure_rule}

pub enclosures : (m b : ℕ) → Refuses (enclosure_checks m b) (λ (e : Enclosure). e.code) refusal (enclosure_rule m b)
unfolding enclosure_rule
enclosures m b = makes (enclosure_checks m b) (λ (e : Enclosure). e.code) refusal (enclosed m b) refl (λ k. refl) tt

-- both searches find both ends, which lie from 0 to T, whatever is accepted
pub found_is : (m b : ℕ) → searched (end_at false m b) (end_at true m b) X_top ≡ found_ends m b
unfolding found_lower found_upper
found_is m b = refl

pub ends_in : (m b : ℕ) → EndsIn (found_lower m b) (found_upper m b)
unfolding found_lower found_upper
ends_in m b =
    let w = searched_in (end_at false m b) (end_at true m b) X_top (lit< tt) in
    let l = w.0 in
    let u = w.1 in
    record { lower = omega arith; upper = omega arith }

-- R88: what code 0 says: M and B are within their limits, and the top is an upper end
pub record CodeZero (m b : ℕ) : Type 0 where
  pub flyby : FlybyIn (record { mean = m; shape = b })
  pub top : T (end_at true m b X_top)
  pub ends : enclosure_rule m b ≡ enclosed m b

pub code_zero : (m b : ℕ) → (enclosure_rule m b).code ≡ 0 → CodeZero m b
unfolding enclosure_rule
code_zero m b z =
    let all = (enclosures m b).passed.0 z in
    let (posed, rest) = split (flyby_checks m b) (top_check m b ∷ []) all in
    record {
      flyby = flyby_in m b posed;
      top = not_failed (end_at true m b X_top) (λ n. subst T rest.0 n);
      ends = goes (enclosure_checks m b) all refusal (enclosed m b);
    }

-- R88: so both searches start fairly: each end found is accepted and the next one in is not, and they are in order
pub record Encloses (m b : ℕ) : Type 0 where
  pub lower : LowerFound (end_at false m b) X_top (found_lower m b)
  pub upper : UpperFound (end_at true m b) X_top (found_upper m b)
  pub order : found_lower m b ≤ found_upper m b

pub encloses : (m b : ℕ) → (enclosure_rule m b).code ≡ 0 → Encloses m b
unfolding found_lower found_upper
encloses m b z =
    let s = code_zero m b z in
    let one-least = s.flyby.least in
    let l = lower_found (end_at false m b) X_top (lit< tt) (lit≤ tt) (zero_lower m b) (top_never m b one-least s.top) in
    let u = upper_found (end_at true m b) X_top (lit< tt) (lit≤ tt) s.top in
    record { lower = l; upper = u; order = apart m b _ _ one-least l.accepted u.accepted }
