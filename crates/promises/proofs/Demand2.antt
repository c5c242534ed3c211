-- The second demand is met. Assumes nothing.
use mathlib.Core.Path.{◌≡◌, refl, sym, ap, ◌∙◌}
use mathlib.Core.Bool.{Bool, true, false, not, true≢false}
use mathlib.Core.List.{[], ◌∷◌}
use mathlib.Core.Logic.{◌⊎◌, inl, inr, ⊎_elim}
use Prim.Native.Nat.{ℕ, ◌+◌, ◌-◌, ◌^◌, ◌≤◌, ◌<◌}
use native.Mathlib.Omega.{arith}
use native.Mathlib.Nat.{min-le_right, eq-or-lt_of_le}
use native.Mathlib.Numerals.{add-one}
use lib.Dec.{T}
use lib.IntN.{pos, ◌+ℤ◌}
use lib.Signed.{◌≤ℤ◌}
use Rattle.whole.proofs.Bools.{both_parts}
use Rattle.whole.proofs.CodeRoom.{size_sign}
use Rattle.grid.specs.Grid.{H_units, T_units, depths}
use Rattle.grid.specs.Codes.{Passed, depth_check}
use Rattle.grid.specs.declared.codes.Refusal.TheVariants.{BadX}
use Rattle.grid.proofs.FirstCode.{split, join}
use Rattle.grid.proofs.Fits.{limit_fits, depth_fits}
use Rattle.series.specs.Terms.{Series}
use Rattle.series.specs.Sine.{sine}
use Rattle.series.specs.Entry.{bounds_checks, bounds_rule, sine_rule}
use Rattle.series.proofs.Answers.{bounded}
use Rattle.series.proofs.BoundsTrue.{Lo-true, Hi-true}
use Rattle.series.proofs.Width.{width_5}
use Rattle.cosine.specs.Cosine.{cosine, cosine_rule}
use Rattle.cosine.proofs.CosineLaws.{CosLo-true, CosHi-true, cosine_width}
use Rattle.orbit.specs.Mirror.{mirror, mirror_end}
use Rattle.orbit.specs.Given.{Given, grid, checks_of, mirrored_of, cell_of, problem_checks}
use Rattle.orbit.proofs.Posed.{cell_in}
use Rattle.ends.specs.Ends.{end_at, lower_end, upper_end}
use Rattle.ends.proofs.Mirror.{twice, end_true}
use Rattle.enclosure.specs.Enclosure.{T_check, found_lower, found_upper, enclosed}
use Rattle.enclosure.proofs.Encloses.{Encloses, code_zero, encloses}
use Rattle.rotations.specs.Rotate.{brought}
use Rattle.rotations.specs.declared.State.{State}
use Rattle.rotations.proofs.Brought.{brought_within}
use Rattle.proposal.specs.Certify.{low_at, high_at, certifies, certificate}
use Rattle.proposal.specs.Propose.{concluded, mirror_candidate, proposal_as, proposal_rule}
use Rattle.proposal.proofs.Certificate.{certificate_only, concluded_smallest, concluded-true}
use Rattle.judge.specs.Judge.{claim_of}
use Rattle.judge.specs.declared.Verdict.TheVariants.{Confirmed, Refuted}
use Rattle.judge.proofs.Answered.{confirmed_says, refuted_says}
use Rattle.judge.proofs.SettleAnswers.{confirmed-true, refuted-true}
use Rattle.claims.specs.Form.{twenty}
use Rattle.claims.specs.Record.{claim_at}
use Rattle.promises.specs.Demand2.{BoundsTrue, EndTrue, EndsTrue, AcceptedAt, Certified, Demand2}
use Rattle.promises.proofs.Demand1.{demand_1}
use Rattle.promises.proofs.Mirror.{at_0, each_end, in_order, further, inward_mirrored}
use Rattle.promises.proofs.Ends.{exact_says, spare_says, accepts_at, declines_at}
use Rattle.promises.proofs.Rules.{rules}
use Rattle.promises.proofs.Bytes.{after_judged}
use Rattle.promises.proofs.Step.{judged_says}
use Rattle.flyby_judge.proofs.Answered as flyby_judged
use Rattle.promises.proofs.Flybys as flyby
use Rattle.promises.proofs.Flybys.{sinh_true}

-- ---- the bounds of sine and of cosine

-- an angle and a depth that were answered with code 0 are within their limits
module _ (s : Series) (x d : ℕ) (e : (bounds_rule s x d).code ≡ 0) where
  passed : Passed (bounds_checks x d)
  unfolding bounds_rule
  passed = (bounded s x d).passed.0 e

  angle_in : x ≤ T_units
  angle_in = limit_fits x T_units BadX passed.1.0

  few_pairs : d ≤ depths
  few_pairs = (depth_fits d passed.0).few

sine-true : (x d : ℕ) → (sine_rule x d).code ≡ 0 → BoundsTrue sine x (sine_rule x d)
sine-true x d e =
    let h = angle_in sine x d e in
    let few = few_pairs sine x d e in
    rw (rules.sine x d e) (record { low = Lo-true x d h few; high = Hi-true x d h few })

sine_width : (x : ℕ) → (sine_rule x depths).code ≡ 0 → (sine_rule x depths).hi ≤ℤ ((sine_rule x depths).lo +ℤ pos 32)
sine_width x e = rw (rules.sine x depths e) (width_5 x (angle_in sine x depths e))

cosine-true : (x d : ℕ) → (cosine_rule x d).code ≡ 0 → BoundsTrue cosine x (cosine_rule x d)
cosine-true x d e =
    let h = angle_in cosine x d e in
    let few = few_pairs cosine x d e in
    rw (rules.cosine x d e) (record { low = CosLo-true x d h few; high = CosHi-true x d h few })

cosine_width_met : (x : ℕ) → (cosine_rule x depths).code ≡ 0 → (cosine_rule x depths).hi ≤ℤ ((cosine_rule x depths).lo +ℤ pos 26)
cosine_width_met x e = rw (rules.cosine x depths e) (cosine_width x (angle_in cosine x depths e))

-- ---- the enclosure

module _ (g : Given) (d : ℕ) (few : d ≤ depths) (checks : Passed (problem_checks g d)) where
  -- an end found, whose test one unit further in fails, or that has no such unit
  end_found : (upper : Bool) (X : ℕ) → X ≤ T_units → further upper X ≤ T_units → T (end_at upper (cell_of g) d X)
      → ((upper ≡ true) × (X ≡ 0)) ⊎ ((upper ≡ true → 0 < X) × T (not (end_at upper (cell_of g) d (further upper X))))
      → EndTrue (mirror_end (mirrored_of g) upper) g d (mirror (mirrored_of g) (pos X))
  end_found upper X h k t next =
      let m = mirrored_of g in
      record {
        exact = end_true upper g X h d few t;
        accepted = accepts_at upper X g d checks h t;
        next =
            ⊎_elim (λ z. inl (twice m upper ∙ z.0, ap (λ (n : ℕ). mirror m (pos n)) z.1 ∙ at_0 m))
            (λ n. inr (rw (inward_mirrored m upper X n.0) (declines_at upper (further upper X) g d checks k n.1))) next;
      }

  ends_true : Encloses (cell_of g) d → EndsTrue g d (enclosed (mirrored_of g) (cell_of g) d)
  ends_true found =
      let a = found_lower (cell_of g) d in
      let b = found_upper (cell_of g) d in
      let l = found.lower in
      let u = found.upper in
      let w = l.within in
      let v = u.within in
      let (lower, upper) =
      each_end a b (mirrored_of g) (λ side X. EndTrue side g d X)
      (end_found false a (omega arith) (omega arith) l.accepted (inr (λ e. absurd (true≢false (sym e)), rw add-one l.next)))
      (end_found true b v (omega arith) u.accepted
      (⊎_elim (λ z. inl (refl, z)) (λ n. upper_next b (let h : 0 ≤ b = omega arith in eq-or-lt_of_le h) n) u.next)) in
      record { lower = lower; upper = upper; order = in_order a b (mirrored_of g) found.order }
    where
      -- at 0 there is no unit further in
      upper_next : (b : ℕ) → (0 ≡ b) ⊎ (0 < b) → T (not (end_at true (cell_of g) d (b - 1)))
          → ((true ≡ true) × (b ≡ 0)) ⊎ ((true ≡ true → 0 < b) × T (not (end_at true (cell_of g) d (b - 1))))
      upper_next b s n = ⊎_elim (λ z. inl (refl, sym z)) (λ h. inr (λ e. h, n)) s

-- ---- the proposal

module _ (g : Given) (checks : Passed (problem_checks g depths)) (s : State) where
  both_accepted : (E j : ℕ) → E ≤ T_units → T (certifies (cell_of g) E j) → AcceptedAt false g (low_at E j) × AcceptedAt true g (high_at E j)
  unfolding certifies
  both_accepted E j h t =
      let (p, q) = both_parts (lower_end (cell_of g) depths (low_at E j)) (upper_end (cell_of g) depths (high_at E j)) t in (
        accepts_at false (low_at E j) g depths checks (omega arith) p,
        accepts_at true (high_at E j) g depths checks (min-le_right (E + 2 ^ j) T_units) q,
      )

  certified : (cell_of g).m.ceiling ≤ H_units → Certified g (proposal_as (mirror_candidate (mirrored_of g) (concluded (cell_of g) s)))
  unfolding concluded
  certified mean =
      let E = brought s.angle in
      let h = brought_within s.angle in
      let smallest = concluded_smallest (cell_of g) s mean in
      let exact = concluded-true g s mean in
      let (p, q) = both_accepted E (certificate (cell_of g) E) h smallest.here in
      let size = size_sign (not (mirrored_of g)) (pos E) in
      record {
        within = rw size h;
        sign = ap (λ (n : ℕ). mirror (mirrored_of g) (pos n)) (sym size);
        lower = rw size exact.0;
        upper = rw size exact.1;
        low_accepted = rw size p;
        high_accepted = rw size q;
        smallest = rw size smallest;
        only = rw size (certificate_only (cell_of g) E mean h);
      }

pub demand_2 : Demand2
unfolding proposal_rule
demand_2 =
    record {
      sine = sine-true;
      width = sine_width;
      cosine = cosine-true;
      cosine_width = cosine_width_met;
      lower = exact_says false;
      upper = exact_says true;
      lower_spare = spare_says false;
      upper_spare = spare_says true;
      enclose = λ g d e.
          let (p, q) = split (problem_checks g d) (T_check (cell_of g) d ∷ []) ((demand_1.enclose g d).passed.0 e) in
          rw (rules.enclose g d e) (ends_true g d (code_zero g d e).problem.depth.few p (encloses g d e));
      propose = λ g e.
          let p = (demand_1.propose g).passed.0 e in
          rw (rules.propose g e)
          (certified g (join (checks_of g) (depth_check depths ∷ []) p (refl, tt)) _ (cell_in g p).mean);
      confirmed = confirmed_says;
      refuted = refuted_says;
      settled_confirmed = confirmed-true;
      settled_refuted = refuted-true;
      step_confirmed = λ m a x method n d e.
          let (same, says) = judged_says m a x method n d Confirmed e in rw same (confirmed_says (claim_of (grid m a) _ n d) says);
      step_refuted = λ m a x method n d e.
          let (same, says) = judged_says m a x method n d Refuted e in rw same (refuted_says (claim_of (grid m a) _ n d) says);
      byte_confirmed = λ claims answers i h e. confirmed_says (claim_at twenty claims i) (after_judged claims answers i Confirmed h e);
      byte_refuted = λ claims answers i h e. refuted_says (claim_at twenty claims i) (after_judged claims answers i Refuted h e);
      flyby_sinh = sinh_true;
      flyby_lower = flyby.exact_says false;
      flyby_upper = flyby.exact_says true;
      flyby_enclose = flyby.ends_true;
      flyby_confirmed = flyby_judged.confirmed_exact;
      flyby_refuted = flyby_judged.refuted_exact;
      rules = rules;
    }
