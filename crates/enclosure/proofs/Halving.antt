-- Laws of the searches, for any test and any top. None of them says that acceptance is one unbroken run.
-- Assumes nothing.
use mathlib.Core.Path.{◌≡◌, refl}
use mathlib.Core.Bool.{Bool, not, cond}
use Prim.Native.Nat.{ℕ, zero, suc, ◌-◌, ◌^◌, ◌≤◌, ◌<◌}
use native.Mathlib.Omega.{arith}
use native.Mathlib.Nat.{pow-suc}
use lib.Dec.{T, T_not, ltb, ltb→lt, nltb→le}
use lib.Pow.{pow_pos}
use borrow.Author.Tests.{le-ltb}
use Rattle.whole.proofs.Parts.{by_test}
use Rattle.enclosure.specs.declared.Bracket.{Bracket}
use Rattle.enclosure.specs.Halving.{widest, middle, replace_p, replace_q, halve, turns, last_bracket}

-- how far apart p and q are
abbrev pub width : Bracket → ℕ
width b = b.q - b.p

-- a turn leaves a bracket that is narrow, and moves p or q to the middle of any other
pub halve_by : (P : Bracket → Type 0) (acc : ℕ → Bool) (b : Bracket)
    → (width b ≤ 1 → P b)
    → (1 < width b → T (acc (middle b)) → P (replace_p b))
    → (1 < width b → T (not (acc (middle b))) → P (replace_q b))
    → P (halve acc b)
unfolding halve
halve_by P acc b still up down =
    by_test P (ltb 1 (width b)) (cond (acc (middle b)) (replace_p b) (replace_q b)) b
    (λ w.
    let h = ltb→lt 1 (width b) w in
    by_test P (acc (middle b)) (replace_p b) (replace_q b) (up h) (down h))
    (λ n. still (nltb→le 1 (width b) n))

-- what every turn keeps, all of them keep
pub turns_keep : (P : Bracket → Type 0) (acc : ℕ → Bool)
    → ((b : Bracket) → P b → P (halve acc b)) → (n : ℕ) (b : Bracket) → P b → P (turns acc n b)
unfolding turns
turns_keep P acc k zero b h = h
turns_keep P acc k (suc n) b h = turns_keep P acc k n (halve acc b) (k b h)

pub narrow_still : (acc : ℕ → Bool) (b : Bracket) → width b ≤ 1 → halve acc b ≡ b
unfolding halve
narrow_still acc b h = simp (le-ltb 1 (width b) h)

-- turns leave a narrow bracket
pub still_narrow : (acc : ℕ → Bool) (n : ℕ) (b : Bracket) → width b ≤ 1 → turns acc n b ≡ b
unfolding turns
still_narrow acc zero b h = refl
still_narrow acc (suc n) b h = rw (narrow_still acc b h) (still_narrow acc n b h)

-- a turn halves the width, rounding up
halve_width : (acc : ℕ → Bool) (b : Bracket) (n : ℕ) → width b ≤ 2 ^ suc n → width (halve acc b) ≤ 2 ^ n
halve_width acc b n h =
    let e = pow-suc 2 n in
    let z = pow_pos n in
    halve_by (λ (c : Bracket). width c ≤ 2 ^ n) acc b (λ k. omega arith) (λ w t. omega arith) (λ w t. omega arith)

-- where n turns suffice, one turn more changes nothing
pub enough : (acc : ℕ → Bool) (n : ℕ) (b : Bracket) → width b ≤ 2 ^ n → turns acc n (halve acc b) ≡ turns acc n b
unfolding turns
enough acc zero b h = narrow_still acc b h
enough acc (suc n) b h = enough acc n (halve acc b) (halve_width acc b n h)

-- R25: after n turns q - p is above 1 no more
pub ended : (acc : ℕ → Bool) (n : ℕ) (b : Bracket) → width b ≤ 2 ^ n → width (turns acc n b) ≤ 1
unfolding turns
ended acc zero b h = h
ended acc (suc n) b h = ended acc n (halve acc b) (halve_width acc b n h)

-- 30 turns end the search for any top up to 2^30
pub thirty_end : (acc : ℕ → Bool) (top : ℕ) → top ≤ 2 ^ 30 → width (last_bracket acc top) ≤ 1
thirty_end acc top h = ended acc 30 (widest top) (omega arith)

-- p stays below q, and both stay between the ends they came from
pub record Inside (b c : Bracket) : Type 0 where
  pub low : b.p ≤ c.p
  pub order : c.p < c.q
  pub high : c.q ≤ b.q

halve_inside : (acc : ℕ → Bool) (b c : Bracket) → Inside b c → Inside b (halve acc c)
halve_inside acc b c i =
    halve_by (λ (e : Bracket). Inside b e) acc c (λ k. i)
    (λ w t. record { low = omega arith; order = omega arith; high = omega arith })
    (λ w t. record { low = omega arith; order = omega arith; high = omega arith })

pub turns_inside : (acc : ℕ → Bool) (n : ℕ) (b : Bracket) → b.p < b.q → Inside b (turns acc n b)
turns_inside acc n b h =
    turns_keep (λ (c : Bracket). Inside b c) acc (halve_inside acc b) n b
    (record { low = omega arith; order = h; high = omega arith })

-- R26, R27: every turn leaves p passing the test and q failing it
pub record Kept (acc : ℕ → Bool) (b : Bracket) : Type 0 where
  pub accepted : T (acc b.p)
  pub refused : T (not (acc b.q))

halve_kept : (acc : ℕ → Bool) (b : Bracket) → Kept acc b → Kept acc (halve acc b)
halve_kept acc b k =
    halve_by (Kept acc) acc b (λ w. k) (λ w t. record { accepted = t; refused = k.refused })
    (λ w t. record { accepted = k.accepted; refused = t })

-- how a search ends that starts with 0 accepted and the top not: on neighbours, with p accepted and q not
pub record Found (acc : ℕ → Bool) (top : ℕ) (b : Bracket) : Type 0 where
  pub accepted : T (acc b.p)
  pub refused : T (not (acc b.q))
  pub next : b.q ≡ suc b.p
  pub high : b.q ≤ top

pub found : (acc : ℕ → Bool) (n top : ℕ) → 0 < top → top ≤ 2 ^ n → T (acc 0) → T (not (acc top))
    → Found acc top (turns acc n (widest top))
found acc n top some fits a r =
    let k = turns_keep (Kept acc) acc (halve_kept acc) n (widest top) (record { accepted = a; refused = r }) in
    let i = turns_inside acc n (widest top) some in
    let e = ended acc n (widest top) (omega arith) in
    let o = i.order in
    let h = i.high in
    record { accepted = k.accepted; refused = k.refused; next = omega arith; high = h }

-- p and q of one bracket are at most those of another
pub record Before (b c : Bracket) : Type 0 where
  pub p_le : b.p ≤ c.p
  pub q_le : b.q ≤ c.q

-- a turn moves p or q of a bracket that is not narrow
wide_by : (P : Bracket → Type 0) (acc : ℕ → Bool) (b : Bracket) → 1 < width b
    → (T (acc (middle b)) → P (replace_p b))
    → (T (not (acc (middle b))) → P (replace_q b))
    → P (halve acc b)
wide_by P acc b w up down =
    halve_by P acc b (λ k. absurd (let z : ⊥ = omega arith in z)) (λ k. up) (λ k. down)

-- A test that accepts no more gives a bracket that is not above: both searches have the same middles until the first
-- that only the other test accepts, where one goes on below it and the other above.
pub less_accepts : (f g : ℕ → Bool) → ((x : ℕ) → T (f x) → T (g x))
    → (n : ℕ) (b : Bracket) → b.p < b.q → Before (turns f n b) (turns g n b)
unfolding turns
less_accepts f g fg zero b h = record { p_le = omega arith; q_le = omega arith }
less_accepts f g fg (suc n) b h =
    halve_by (λ (c : Bracket). Before (turns f n c) (turns g n (halve g b))) f b
    (λ w. rw (narrow_still g b w) (less_accepts f g fg n b h))
    (λ w t.
    wide_by (λ (c : Bracket). Before (turns f n (replace_p b)) (turns g n c)) g b w
    (λ s. less_accepts f g fg n (replace_p b) (omega arith))
    (λ s. absurd (T_not (g (middle b)) s (fg (middle b) t))))
    (λ w t.
    wide_by (λ (c : Bracket). Before (turns f n (replace_q b)) (turns g n c)) g b w
    (λ s.
    let i = turns_inside f n (replace_q b) (omega arith) in
    let j = turns_inside g n (replace_p b) (omega arith) in
    record { p_le = omega arith; q_le = omega arith })
    (λ s. less_accepts f g fg n (replace_q b) (omega arith)))
