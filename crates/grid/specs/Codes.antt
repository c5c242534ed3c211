-- The codes, their order, and how a call is answered by its checks, R5 to R7.
use Rattle.std.specs.Prelude.{ℕ, ◌≡◌, Bool, true, false, not, ◌||◌, cond, List, [], ◌∷◌, ltb, eqb, ℤ, nat_abs, Result, Ok, Err}
use Rattle.whole.specs.Sign.{negative}
use Rattle.grid.specs.Grid.{one, H_units, T_units, depths, N_units}
use Rattle.grid.specs.declared.codes.Refusal.{Refusal}
use Rattle.grid.specs.declared.codes.Refusal.TheVariants.{BadM, BadA, BadDepth, BadEstimate, BadN, NoUpperEnd, BadLength, ShortAnswers, BadReserved, BadX, NoFlybyEnd, BadMethod}

-- R5: what a code says: that all is done, or why nothing is
pub data Code : Type 0 where
  done : Code
  failed : Refusal → Code

-- R5: the number of a code
abbrev pub number : Code → ℕ
number done = 0
number (failed BadM) = 1
number (failed BadA) = 2
number (failed BadDepth) = 3
number (failed BadEstimate) = 4
number (failed BadN) = 5
number (failed NoUpperEnd) = 6
number (failed BadLength) = 7
number (failed ShortAnswers) = 8
number (failed BadReserved) = 9
number (failed BadX) = 10
number (failed NoFlybyEnd) = 15
number (failed BadMethod) = 21

-- R6: the order in which an entry has the checks of its own inputs
abbrev pub order : List Refusal
order =
    BadLength ∷ ShortAnswers ∷ BadReserved ∷ BadM ∷ BadA ∷ BadDepth
    ∷ BadX ∷ BadEstimate ∷ BadN ∷ NoUpperEnd ∷ NoFlybyEnd ∷ BadMethod ∷ []

-- R5: the refusal of a list that has a number
abbrev pub numbered_in : List Refusal → ℕ → Refusal
numbered_in [] k = BadMethod
numbered_in (r ∷ rs) k = cond (eqb k (number (failed r))) r (numbered_in rs k)

-- R5: a code's condition, computed from one call's input, beside the code
pub record Check : Type 0 where
  pub fails : Bool
  pub code : Refusal

-- R5: the one condition or the other
abbrev pub or : Bool → Bool → Bool
or true b = true
or false b = b

-- R5: a number beyond its limit
abbrev pub limit_check : ℕ → ℕ → Refusal → Check
limit_check n limit code = record { fails = ltb limit n; code = code }

-- R5: a number below its least or beyond its limit
abbrev pub span_check : ℕ → ℕ → ℕ → Refusal → Check
span_check n least limit code = record { fails = or (ltb n least) (ltb limit n); code = code }

-- R5: code 1, M of a size beyond H
abbrev pub m_check : ℤ → Check
m_check m = limit_check (nat_abs m) H_units BadM

-- R5: code 2, e beyond 1
abbrev pub a_check : ℕ → Check
a_check a = limit_check a one BadA

-- R5: code 3, a depth other than 1 to 5
abbrev pub depth_check : ℕ → Check
depth_check d = span_check d 1 depths BadDepth

-- R5: code 10, an angle beyond T
abbrev pub x_check : ℕ → Check
x_check x = limit_check x T_units BadX

-- R5: code 10, of a number that has a sign: below 0, or beyond T
abbrev pub signed_x_check : ℤ → Check
signed_x_check x = record { fails = or (negative x) (ltb T_units (nat_abs x)); code = BadX }

-- R5: code 5, a tolerance beyond its limit
abbrev pub n_check : ℕ → Check
n_check n = limit_check n N_units BadN

-- R5: code 21, a method other than 1 and 2
abbrev pub method_check : ℕ → Check
method_check method = record { fails = not (eqb method 1 || eqb method 2); code = BadMethod }

-- R5: none of a call's checks fails
abbrev pub Passed : List Check → Type 0
Passed [] = Unit {0}
Passed (c ∷ cs) = (c.fails ≡ false) × Passed cs

-- R5, R6: a call's code: that of the first of its checks that fails, and `done` where none does
abbrev pub first_code : List Check → Code
first_code [] = done
first_code (c ∷ cs) = cond c.fails (failed c.code) (first_code cs)

-- R6: the code of checks that have the code `code`, and `next` of those after them
abbrev pub earlier : ℕ → ℕ → ℕ
earlier code next = cond (eqb code (number done)) next code

-- R5 to R7: what is answered by a call's checks: a refusal with the number of the first that fails, and `given` where none does
abbrev pub checked : {A : Type 0} → List Check → (ℕ → A) → A → A
checked [] zeros given = given
checked (c ∷ cs) zeros given = cond c.fails (zeros (number (failed c.code))) (checked cs zeros given)

-- R5, R6: the same of a value that is made on the way to an answer: the refusal of the first check that fails, or the value
abbrev pub allowed : {A : Type 0} → List Check → A → Result A Refusal
allowed [] given = Ok given
allowed (c ∷ cs) given = cond c.fails (Err c.code) (allowed cs given)

-- R5: the code of a value that was made so
abbrev pub code_in : {A : Type 0} → Result A Refusal → ℕ
code_in (Ok value) = number done
code_in (Err refusal) = number (failed refusal)

-- R7: nothing but a code
abbrev pub only_code : {A : Type 0} → ℕ → Result A Refusal
only_code k = Err (numbered_in order k)

-- R5 to R7: a value that was made so as an entry answers it: what is given for it, or the zeros beside its code
abbrev pub answer : {A B : Type 0} → (ℕ → B) → (A → B) → Result A Refusal → B
answer zeros given (Ok value) = given value
answer zeros given (Err refusal) = zeros (number (failed refusal))
