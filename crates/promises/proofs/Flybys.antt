-- What is promised of flybys. Assumes nothing.
use mathlib.Core.Path.{◌≡◌, refl, sym, ap, subst, ◌∙◌}
use mathlib.Core.Bool.{Bool, true, false, not}
use mathlib.Core.Logic.{◌⊎◌, inl, inr, ⊎_elim, ◌↔◌}
use Prim.Native.Nat.{ℕ, suc, ◌+◌, ◌-◌, ◌≤◌, ◌<◌}
use native.Mathlib.Omega.{arith}
use native.Mathlib.Nat.{mul-le-mul, lt_of_not-le}
use native.Mathlib.Decide.{dec_le}
use native.Mathlib.Numerals.{add-one}
use borrow.Author.Tests.{le-ltb}
use lib.Dec.{T, T_not}
use lib.IntN.{pos, nat_abs}
use lib.Ieee.{neg}
use Rattle.whole.proofs.Bools.{fails}
use Rattle.whole.proofs.Parts.{is_pos, is_mul_right}
use Rattle.whole.proofs.Order.{le_parts}
use Rattle.grid.specs.Grid.{one}
use Rattle.grid.specs.Codes.{Passed}
use Rattle.grid.specs.declared.codes.Refusal.TheVariants.{BadA}
use Rattle.grid.specs.Flyby.{M_top, B_top, X_top, flyby_checks}
use Rattle.grid.proofs.Fits.{span_passes}
use Rattle.grid.proofs.FirstCode.{only_last}
use Rattle.series.proofs.Factorial.{den_is, num_is}
use Rattle.units.specs.Units.{off_range, floor_and_ceiling}
use Rattle.units.specs.declared.Units.{Units}
use Rattle.judge.specs.Verdict.{low_end, high_end_to, confirmed_by, refuted_by}
use Rattle.judge.specs.Judge.{verdict}
use Rattle.judge.proofs.Verdicts as verdicts
use Rattle.ends.specs.Entry.{flagged}
use Rattle.sinh.specs.Sinh.{low, high, S, t9, den_s}
use Rattle.sinh.specs.Entry.{sinh_rule}
use Rattle.sinh.proofs.Answers.{sinh_within}
use Rattle.sinh.proofs.Limits.{low-zero, high_zero, low-lt-high, high_small}
use Rattle.sinh.proofs.Exact.{low-true, high-true}
use Rattle.flyby.specs.Ends.{end_at, Meets}
use Rattle.flyby.specs.Entry.{end_rule}
use Rattle.flyby.specs.Posed.{FlybyIn}
use Rattle.flyby.proofs.Posed.{flyby_in}
use Rattle.flyby.proofs.Answered.{accepted_says, declined_says, accepts, declines}
use Rattle.flyby.proofs.Exact.{end_true, e_rises, apart, lower_run, upper_run, zero_lower, zero_upper, not_both}
use Rattle.flyby_enclosure.specs.Enclosure.{top_check, found_lower, found_upper, enclosure_rule}
use Rattle.flyby_enclosure.proofs.Answers.{enclosures, code_zero, encloses}
use Rattle.flyby_judge.specs.Judge.{Claim, tests_of, claim_of, claim_checks, judge_rule}
use Rattle.flyby_judge.proofs.Answered.{tests_in_order, case_in, answered, judged_passed}
use Rattle.flyby_judge.proofs.Wider.{wider, narrower}
use Rattle.step.specs.Step.{plus_zero}
use Rattle.judge.specs.declared.Verdict.TheVariants.{Confirmed, Refuted}
use Rattle.promises.specs.Flybys.{SinhTrue, further, FlybyEnd, FlybyEnds, Within, Flybys}
use Rattle.promises.proofs.Rules.{rules}

-- ---- the second demand

pub sinh_true : (x : ℕ) → (sinh_rule x).code ≡ 0 → SinhTrue x (sinh_rule x)
sinh_true x e =
    let w = rules.flyby_sinh x e in
    rw w
    (record {
      low = (le_parts (is_mul_right den_s (is_pos (low x))) (is_pos (S x))).1 (omega (arith, low-true x));
      high = (le_parts (is_pos (S x + t9 x)) (is_mul_right den_s (is_pos (high x)))).1 (omega (arith, high-true x));
    })

pub exact_says : (upper : Bool) (x m b : ℕ) → end_rule upper x m b ≡ flagged true → Meets upper m b x
exact_says upper x m b e = end_true m b x upper (accepted_says upper x m b e).1

-- an end found, whose test one unit further in fails, or that has no such unit
end_found : (upper : Bool) (m b X : ℕ) → FlybyIn (record { mean = m; shape = b }) → X ≤ X_top → further upper X ≤ X_top
    → T (end_at upper m b X) → ((upper ≡ true) × (X ≡ 0)) ⊎ T (not (end_at upper m b (further upper X))) → FlybyEnd upper m b X
end_found upper m b X i h k t next =
    record {
      exact = end_true m b X upper t;
      accepted = accepts upper X m b (record { flyby = i; top = h }) t;
      next =
          ⊎_elim (λ z. inl z)
          (λ n. inr (declines upper (further upper X) m b (record { flyby = i; top = k }) (T_not (end_at upper m b (further upper X)) n))) next;
    }

pub ends_true : (m b : ℕ) → (enclosure_rule m b).code ≡ 0 → FlybyEnds m b (enclosure_rule m b)
ends_true m b e =
    let z = code_zero m b e in
    let found = encloses m b e in
    let l = found.lower in
    let u = found.upper in
    let w = l.within in
    let v = u.within in
    rw z.ends
    (record {
      lower_sign = refl;
      upper_sign = refl;
      lower = end_found false m b (found_lower m b) z.flyby (omega arith) (omega arith) l.accepted (inr (rw add-one l.next));
      upper =
          end_found true m b (found_upper m b) z.flyby v (omega arith) u.accepted
          (⊎_elim (λ n. inl (refl, n)) (λ n. inr n) u.next);
      order = found.order;
    })

-- ---- the third demand

pub ends_apart : (x y m b : ℕ) → end_rule false x m b ≡ flagged true → end_rule true y m b ≡ flagged true → x ≤ y
ends_apart x y m b p q =
    let (a, t) = accepted_says false x m b p in apart m b x y a.flyby.least t (accepted_says true y m b q).1

pub never_both : (m b : ℕ) (u : Units) (n : ℕ) → one ≤ b → u.ceiling ≤ X_top
    → T (confirmed_by (tests_of m b) u n) → T (refuted_by (tests_of m b) u n) → ⊥
never_both m b u n e top =
    let order = tests_in_order m b e in verdicts.never_both (tests_of m b) (tests_of m b) u n refl order order top

-- ---- what holds of flybys alone

within_in : (m b : ℕ) → Within m b → FlybyIn (record { mean = m; shape = b })
within_in m b w = record { mean = w.mean; least = w.least; shape = w.shape }

-- R86: accepted ends are runs
lowers : (x y m b : ℕ) → y ≤ x → end_rule false x m b ≡ flagged true → end_rule false y m b ≡ flagged true
lowers x y m b h e =
    let (a, t) = accepted_says false x m b e in
    let top = a.top in
    accepts false y m b (record { flyby = a.flyby; top = omega arith }) (lower_run m b a.flyby.least x y h t)

uppers : (x y m b : ℕ) → y ≤ x → x ≤ X_top → end_rule true y m b ≡ flagged true → end_rule true x m b ≡ flagged true
uppers x y m b h top e =
    let (a, t) = accepted_says true y m b e in
    accepts true x m b (record { flyby = a.flyby; top = top }) (upper_run m b a.flyby.least x y h t)

-- R87
zero_is_upper : (m b : ℕ) → Within m b → end_rule true 0 m b ≡ flagged true ↔ m ≡ 0
zero_is_upper m b w = (
  λ e. (zero_upper m b).0 (accepted_says true 0 m b e).1,
  λ z. accepts true 0 m b (record { flyby = within_in m b w; top = omega arith }) ((zero_upper m b).1 z),
)

one_side : (x m b : ℕ) → 0 < x → end_rule true x m b ≡ flagged true → end_rule false x m b ≡ flagged false
one_side x m b h e =
    let (a, t) = accepted_says true x m b e in
    let least = a.flyby.least in
    declines false x m b a (not_both m b x (omega arith) h t)

-- R88
fifteen : (m b : ℕ) → (enclosure_rule m b).code ≡ 15 ↔ end_rule true X_top m b ≡ flagged false
unfolding enclosure_rule
fifteen m b =
    let coded = (enclosures m b).coded 15 (λ z. omega arith) in (
      λ e.
          let (p, q) = only_last 15 (flyby_checks m b) (top_check m b) tt (coded.0 e) in
          declines true X_top m b (record { flyby = flyby_in m b p; top = omega arith }) (T_not (end_at true m b X_top) (subst T (sym q) tt)),
      λ e.
          let (a, n) = declined_says true X_top m b e in
          let i = a.flyby in
          coded.1
          (inr (
            le-ltb M_top m i.mean,
            inr (span_passes b one B_top BadA i.least i.shape, inl (sym (ap not (fails (end_at true m b X_top) n)), refl)),
          )),
    )

-- an end that is accepted lies within the run that the enclosure ends
module _ (m b x : ℕ) (e : (enclosure_rule m b).code ≡ 0) where
  all_lower : end_rule false x m b ≡ flagged true → x ≤ nat_abs (enclosure_rule m b).lower
  all_lower h =
      let z = code_zero m b e in
      let (a, t) = accepted_says false x m b h in
      rw z.ends
      (elim (dec_le x (found_lower m b)) [
        | yes k ↦ k
        | no n ↦
            absurd
            (T_not (end_at false m b (suc (found_lower m b))) (encloses m b e).lower.next
            (lower_run m b z.flyby.least x (suc (found_lower m b)) (lt_of_not-le n) t))
      ])

  all_upper : end_rule true x m b ≡ flagged true → nat_abs (enclosure_rule m b).upper ≤ x
  all_upper h =
      let z = code_zero m b e in
      let (a, t) = accepted_says true x m b h in
      rw z.ends
      (elim (dec_le (found_upper m b) x) [
        | yes k ↦ k
        | no n ↦
            let less = lt_of_not-le n in
            ⊎_elim (λ none. omega arith)
            (λ next.
            absurd
            (T_not (end_at true m b (found_upper m b - 1)) next
            (upper_run m b z.flyby.least (found_upper m b - 1) x (omega arith) t)))
            (encloses m b e).upper.next
      ])

-- R89
inside : (k : Claim) → (enclosure_rule k.m k.b).code ≡ 0 → Passed (claim_checks k)
    → nat_abs (enclosure_rule k.m k.b).lower ≤ (floor_and_ceiling k.estimate).floor
    → (floor_and_ceiling k.estimate).ceiling ≤ nat_abs (enclosure_rule k.m k.b).upper
    → nat_abs (enclosure_rule k.m k.b).upper ≤ nat_abs (enclosure_rule k.m k.b).lower + k.n
    → judge_rule k ≡ verdict Confirmed
inside k e p below above near =
    let m = k.m in
    let b = k.b in
    let t = tests_of m b in
    let u = floor_and_ceiling k.estimate in
    let z = code_zero m b e in
    let found = encloses m b e in
    let w = found.upper.within in
    let lower = rw z.ends at below in
    let upper = rw z.ends at above in
    let width = rw z.ends at near in
    answered k p
    ∙ ap verdict
    (verdicts.verdict-confirmed t u k.n
    ((verdicts.confirmed_by_lem t u k.n).1 (
      lower_run m b z.flyby.least (found_lower m b) (low_end u k.n) (omega arith) found.lower.accepted,
      upper_run m b z.flyby.least (high_end_to X_top u k.n) (found_upper m b) (omega arith) found.upper.accepted,
    )))

-- R41
zeros_alike : (m b n : ℕ) → judge_rule (claim_of m b (neg plus_zero) n) ≡ judge_rule (claim_of m b plus_zero n)
unfolding judge_rule off_range neg
zeros_alike m b n = refl

nothing : sinh_rule 0 ≡ record { code = 0; lo = pos 0; hi = pos 0 }
nothing = sinh_within 0 (omega arith) ∙ simp (low-zero, high_zero)

pub flybys : Flybys
flybys =
    record {
      denominator = den_is 9;
      numerator = λ X. num_is X 9;
      nothing = nothing;
      below = low-lt-high;
      most = high_small;
      level = λ m X h k. omega arith;
      product = λ b X h k. omega (arith, mul-le-mul h (high_small X k));
      rises = e_rises;
      lower_run = lowers;
      upper_run = uppers;
      zero_lower = λ m b w. accepts false 0 m b (record { flyby = within_in m b w; top = omega arith }) (zero_lower m b);
      top_never = λ m b. one_side X_top m b (omega arith);
      zero_upper = zero_is_upper;
      one_side = one_side;
      fifteen = fifteen;
      all_lower = all_lower;
      all_upper = all_upper;
      wider = λ k n h few. wider k n few h;
      narrower = λ k n h e. let few = (case_in k (judged_passed k Refuted e)).tolerance in narrower k n (omega arith) h e;
      inside = inside;
      either_zero = zeros_alike;
    }
