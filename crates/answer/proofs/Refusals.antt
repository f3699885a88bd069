-- A refusal's number is not 0, so that a result's number says whether it is accepted.
use mathlib.Core.Path.{◌≡◌, refl, ap, ◌∙◌}
use mathlib.Core.Bool.{false}
use lib.Dec.{eqb}
use borrow.Author.Tests.{eqb-false}
use Rattle.std.specs.Prelude.{Result, Err, IsErrAnd}
use Rattle.std.proofs.lemmas.Result.{err_from_is_err_and}
use Rattle.answer.specs.declared.Refusal.{Refusal}
use Rattle.answer.specs.declared.Refusal.TheVariants.{BadField, BadSize, BadLength, BadPosition, BadNoise, BadDelta, WindowPastEnd, NotElement, WrongEnd, RecordEnds, BadNumber, BytesAfter, BufferShort, NoCaller, ShareSpent, SharesAbove, BadCircuit, TooFewTriples, AmountOutOfRange, LabelNotAbove, LabelNotInUse}
use Rattle.answer.specs.Refused.{number_of}

pub refusal-counts : (r : Refusal) → eqb (number_of r) 0 ≡ false
refusal-counts BadField = refl
refusal-counts BadSize = refl
refusal-counts BadLength = refl
refusal-counts BadPosition = refl
refusal-counts BadNoise = refl
refusal-counts BadDelta = refl
refusal-counts WindowPastEnd = refl
refusal-counts NotElement = refl
refusal-counts WrongEnd = refl
refusal-counts RecordEnds = refl
refusal-counts BadNumber = refl
refusal-counts BytesAfter = refl
refusal-counts BufferShort = refl
refusal-counts NoCaller = refl
refusal-counts ShareSpent = refl
refusal-counts SharesAbove = refl
refusal-counts BadCircuit = refl
refusal-counts TooFewTriples = refl
refusal-counts AmountOutOfRange = refl
refusal-counts LabelNotAbove = refl
refusal-counts LabelNotInUse = refl

pub refusal-some : (r : Refusal) → number_of r ≡ 0 → ⊥
refusal-some r = eqb-false (number_of r) 0 (refusal-counts r)

-- at the exit of a `?`: the refusal is passed on as it is
pub passed_on : {A : Type 0} {e : Refusal} (r : Result A Refusal) → IsErrAnd r (λ x. x ≡ e) → r ≡ Err e
passed_on r p = let q = err_from_is_err_and r p in q.1 ∙ ap Err q.2
