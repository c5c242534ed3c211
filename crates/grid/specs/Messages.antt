-- What a refusal says of itself to a person. No entry's contract cites this: C has the codes, and texts of its own.
use Rattle.std.specs.Prelude.{ℕ, List, codes}
use Rattle.grid.specs.declared.codes.Refusal.{Refusal}
use Rattle.grid.specs.declared.codes.Refusal.TheVariants.{BadM, BadA, BadDepth, BadEstimate, BadN, NoUpperEnd, BadLength, ShortAnswers, BadReserved, BadX, NoFlybyEnd, BadMethod}

-- R5: in words
abbrev pub refusal_text : Refusal → List ℕ
refusal_text BadM = codes "the mean anomaly is out of its limits"
refusal_text BadA = codes "the eccentricity is out of its limits"
refusal_text BadDepth = codes "the depth is not 1 to 5"
refusal_text BadEstimate = codes "the estimate is out of its limits"
refusal_text BadN = codes "the tolerance is above its limit"
refusal_text NoUpperEnd = codes "the largest angle is not accepted as an upper end"
refusal_text BadLength = codes "the claims are no whole number of records"
refusal_text ShortAnswers = codes "there is no room for the answers"
refusal_text BadReserved = codes "a reserved byte is not 0"
refusal_text BadX = codes "the angle is out of its limits"
refusal_text NoFlybyEnd = codes "the largest X is not accepted as an upper end"
refusal_text BadMethod = codes "the method is neither 1 nor 2"
