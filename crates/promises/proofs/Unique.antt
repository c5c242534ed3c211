-- Every public entry has one result for each input. Assumes nothing.
use mathlib.Core.Path.{◌≡◌, sym, ap₂, ◌∙◌}
use mathlib.Core.List.{List}
use Prim.Native.Nat.{ℕ}
use Rattle.promises.specs.Unique.{OneResult, Left, Unique}

-- a contract that says what the result is
one : {A : Type 0} (rule : A) → OneResult (λ (r : A). r ≡ rule)
one rule r s e f = e ∙ sym f

-- a result and the answers buffer that is left
both : {A : Type 0} {r s : Left A} → r.result ≡ s.result → r.answers ≡ s.answers → r ≡ s
both {A} = ap₂ (λ (b : A) (l : List ℕ). record { result = b; answers = l })

pub unique : Unique
unique =
    record {
      sine = λ x d. one _;
      cosine = λ x d. one _;
      lower_end = λ x g d. one _;
      upper_end = λ x g d. one _;
      enclose = λ g d. one _;
      propose = λ g. one _;
      judge = λ c. one _;
      settle = λ g x n. one _;
      distance = λ g x. one _;
      step = λ m a x method. one _;
      step_judged = λ m a x method n d. one _;
      flyby_sinh = λ x. one _;
      flyby_lower_end = λ x m b. one _;
      flyby_upper_end = λ x m b. one _;
      flyby_enclose = λ m b. one _;
      flyby_judge = λ m b x n. one _;
      judge_claims = λ claims before r s e f. both (e.result ∙ sym f.result) (e.answers ∙ sym f.answers);
      angle_to = λ top n. one _;
      angle = λ n. one _;
      signed_angle = λ z. one _;
      eccentricity = λ n. one _;
      depth = λ n. one _;
      cell = λ g. one _;
      problem = λ g d. one _;
      posed_flyby = λ m b. one _;
      flyby_angle = λ n. one _;
      tolerance = λ n. one _;
      method = λ n. one _;
      in_units = λ R x limit refusal. one _;
      units_of = λ n. one _;
      is_below_zero = λ x. one _;
      answer_file = λ input before r s e f. both (e.result ∙ sym f.result) (e.answers ∙ sym f.answers);
      judge_records = λ form claims before r s e f. both (e.result ∙ sym f.result) (e.answers ∙ sym f.answers);
      limited = λ R n limit refusal. one _;
      spanned = λ R n least limit refusal. one _;
      code = λ refusal. one _;
      message = λ refusal. one _;
      earlier = λ code next. one _;
      ask = λ x d. one _;
      series_begin = λ s x. one _;
      best = λ w. one _;
      spent = λ w. one _;
      bounds_at = λ s x d. one _;
      bound_value = λ n. one _;
      biased_values = λ b. one _;
      lo_and_hi = λ s x d. one _;
      lows_at = λ x. one _;
      sinh_low = λ x. one _;
      sinh_high = λ x. one _;
      on_grid = λ m a. one _;
      step_down = λ x n. one _;
      step_up = λ x n top. one _;
      last_depth = λ d. one _;
      find_ends = λ lower upper top. one _;
      enclosed = λ lower upper top none. one _;
      case_decide = λ test top u n d. one _;
      decide = λ c. one _;
      flag = λ t. one _;
      flyby_accepted = λ upper m b x. one _;
      bounds_of = λ known. one _;
      end_of = λ known. one _;
      judged_of = λ known. one _;
      settled_of = λ known. one _;
      enclosure_of = λ known. one _;
      proposal_of = λ known. one _;
      off_of = λ known. one _;
      stepped_of = λ known. one _;
      judged_step_of = λ known. one _;
      batch_of = λ known. one _;
      no_enclosure = λ k. one _;
      rotate = λ m a. one _;
      bring = λ z. one _;
      number_of = λ v. one _;
      signed = λ z plus. one _;
      negative = λ z. one _;
      size = λ z. one _;
      mirror = λ z mirrored. one _;
      mirror_angle = λ units mirrored. one _;
      mirror_end = λ upper mirrored. one _;
      mirror_double = λ x mirrored. one _;
      signed_word = λ word. one _;
    }
