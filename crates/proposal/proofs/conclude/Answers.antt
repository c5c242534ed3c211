-- `proposal::conclude` meets its contract: the search of the widths stops at the first that holds, as the last one does, and the
-- rotations leave numbers that can be mirrored.
use Rattle.std.proofs.Common.{◌≡◌, ℕ, ◌<◌, ◌≤◌, Bool, true, false, not, T, Option, FitsSigned, w32, w64, refl, sym, ap, subst, rules, arith}
use Rattle.std.specs.Prelude.{Some, None}
use Rattle.std.specs.Option.{MatchOption, IsSome}
use Rattle.std.proofs.lemmas.Iterator.{first_from_Range}
use lib.Dec.{T_not}
use mir.Facts.{to_z-of_z}
use Rattle.whole.proofs.CodeRoom.{read}
use Rattle.grid.specs.Grid.{H_units, T_units}
use Rattle.orbit.specs.Cell.{Cell}
use Rattle.rotations.specs.Room.{RoomyState}
use Rattle.rotations.specs.declared.State.{State}
use Rattle.rotations.proofs.CodeReach.{rotated_roomy}
use Rattle.rotations.proofs.Brought.{brought_within}
use Rattle.proposal.specs.Certify.{widths, certifies, certificate}
use Rattle.proposal.specs.Propose.{concluded, mirror_candidate}
use Rattle.proposal.proofs.Certificate.{last_width, certificate_only}
use Rattle.proposal.proofs.conclude.Goals as goal
use Rattle.proposal.proofs.conclude.Goals.{After-rotate-s, After-find}

-- where a search of the widths stops: at the first that passes the test, or past all of them
abbrev StopsAt : (ℕ → Bool) → Option ℕ → Type 0
StopsAt test r =
    MatchOption r ((k : ℕ) → 0 ≤ k → k < widths → T (not (test k)))
    (λ i. (0 ≤ i) × (i < widths) × T (test i) × ((k : ℕ) → 0 ≤ k → k < i → T (not (test k))))

-- of a cell and an E within their limits it stops at the certificate
module _ (cell : Cell) (E : ℕ) (mean : cell.m.ceiling ≤ H_units) (angle : E ≤ T_units) where
  some : (r : Option ℕ) → StopsAt (certifies cell E) r → IsSome r
  some None none = absurd (T_not (certifies cell E 30) (none 30 (omega arith) (omega arith)) (last_width cell E mean angle))
  some (Some j) stop = refl

  the_certificate : (j : ℕ) → StopsAt (certifies cell E) (Some j) → j ≡ certificate cell E
  the_certificate j stop =
      certificate_only cell E mean angle j
      (record { within = stop.1; here = stop.2; before = λ k b. stop.3 k (omega arith) b })

stops : (c : After-find) → StopsAt (certifies c.args.posed.of c.bring-angle.result) c.find.result
stops c =
    let test : ℕ → Bool = certifies c.args.posed.of c.bring-angle.result in
    first_from_Range _ _ _ c.find.result (λ j. T (test j)) (λ j. T (not (test j))) c.find.ensures.ran
    (λ j q h. let e : true ≡ test j = search rules in subst T e tt)
    (λ j q h. let e : false ≡ test j = search rules in (search rules, subst (λ (t : Bool). T (not t)) e tt))

mean : (c : After-find) → c.args.posed.of.m.ceiling ≤ H_units
mean c = rw (← c.cell.view_is) c.cell.invariant.mean

within : (c : After-find) → c.bring-angle.result ≤ T_units
within c = rw c.bring-angle.ensures (brought_within _)

roomy : (c : After-rotate-s) → RoomyState c.rotate-s.result
roomy c =
    let i = c.cell.invariant in
    subst RoomyState (sym c.rotate-s.ensures) (rotated_roomy _ _ (omega (arith, i.shapes, i.shape)))

pub unwrap-j-requires : goal.unwrap-j-requires
unwrap-j-requires c = some c.args.posed.of c.bring-angle.result (mean c) (within c) _ (stops c)

pub mirror-requires : goal.mirror-requires
mirror-requires c =
    let s = roomy (goal.at.mirror-requires c).After-rotate-s in
    rw (read s.sine) s.sine

pub returns : goal.returns
unfolding concluded
returns c =
    let s = roomy (goal.at.returns c).After-rotate-s in
    let d = (goal.at.returns c).After-find in
    let j : c.unwrap-j.result ≡ certificate c.args.posed.of c.bring-angle.result =
    the_certificate c.args.posed.of c.bring-angle.result (mean d) (within d) c.unwrap-j.result
    (subst (StopsAt (certifies c.args.posed.of c.bring-angle.result)) c.unwrap-j.ensures (stops d)) in
    let y = rw (read s.sine) at c.mirror.ensures in
    let e = rw (read s.angle) at c.bring-angle.ensures in
    let a : FitsSigned w32 c.mirror_angle.result = record { sfits = c.mirror_angle.type_inv } in
    let b : FitsSigned w64 c.mirror.result = record { sfits = c.mirror.type_inv } in
    rw (
      to_z-of_z a,
      to_z-of_z b,
      c.mirror_angle.ensures,
      y,
      j,
      e,
      read s.cosine,
    ) (ap (λ (r : State). mirror_candidate c.args.posed.mirrored (concluded c.args.posed.of r)) (rw (← c.cell.view_is) c.rotate-s.ensures))
