-- When two problems that are given have the same answers at every entry, or one the mirror of the other's.
use Rattle.std.specs.Prelude.{◌≡◌, Bool, true, not, ℕ, ℤ, neg_ℤ, Float}
use Rattle.std.specs.Float.Ieee.{neg}
use Rattle.orbit.specs.Given.{Given}
use Rattle.ends.specs.Entry.{end_rule}
use Rattle.enclosure.specs.Enclosure.{enclosure_rule}
use Rattle.enclosure.specs.declared.Enclosure.{Enclosure}
use Rattle.proposal.specs.Propose.{mirror_proposal, proposal_rule}
use Rattle.judge.specs.Judge.{claim_of, judge_rule}
use Rattle.judge.specs.Settle.{settle_rule}
use Rattle.distance.specs.Distance.{distance_rule}

-- R60: whatever X, estimate, N and depth
pub record Same (g h : Given) : Type 0 where
  pub ends : (upper : Bool) (x : ℤ) (d : ℕ) → end_rule upper x g d ≡ end_rule upper x h d
  pub enclose : (d : ℕ) → enclosure_rule g d ≡ enclosure_rule h d
  pub propose : proposal_rule g ≡ proposal_rule h
  pub judge : (x : Float) (n d : ℕ) → judge_rule (claim_of g x n d) ≡ judge_rule (claim_of h x n d)
  pub settle : (x : Float) (n : ℕ) → settle_rule g x n ≡ settle_rule h x n
  pub distance : (x : Float) → distance_rule g x ≡ distance_rule h x

-- R59: an enclosure with its ends negated and exchanged
abbrev pub exchanged : Enclosure → Enclosure
exchanged r = record { code = r.code; lower = neg_ℤ r.upper; upper = neg_ℤ r.lower }

-- R59: the answers to g are the mirror of those to h, whatever X, estimate, N and depth
pub record Mirrors (g h : Given) : Type 0 where
  pub ends : (upper : Bool) (x : ℤ) (d : ℕ) → end_rule upper x g d ≡ end_rule (not upper) (neg_ℤ x) h d
  pub enclose : (d : ℕ) → enclosure_rule g d ≡ exchanged (enclosure_rule h d)
  pub propose : proposal_rule g ≡ mirror_proposal true (proposal_rule h)
  pub judge : (x : Float) (n d : ℕ) → judge_rule (claim_of g x n d) ≡ judge_rule (claim_of h (neg x) n d)
  pub settle : (x : Float) (n : ℕ) → settle_rule g x n ≡ settle_rule h (neg x) n
  pub distance : (x : Float) → distance_rule g x ≡ distance_rule h (neg x)
