-- What a refused call of messages gives: the number of its first fault, zero, and all that is lent as it was.
use mathlib.Core.Path.{◌≡◌}
use mathlib.Core.Bool.{false}
use Prim.Native.Nat.{ℕ}
use lib.Dec.{eqb}
use lib.ListN.{length}
use Rattle.answer.specs.Tests.{first_fault}
use Rattle.answer.specs.Outcome.{refused_one}
use Rattle.answer.proofs.Answers.{refused-one}
use Rattle.pads.specs.Messages.Calls.{CorrectionLent, MaskLent, UnmaskLent, correction_tests, mask_tests, unmask_tests}
use Rattle.pads.specs.Messages.Calls.{correction_bits, mask_messages, unmask_messages}

module _ (count n : ℕ) (h : eqb n 0 ≡ false) where
  pub correction-refused : (l : CorrectionLent) → n ≡ first_fault (correction_tests count l.choices l.wanted (length l.bits))
      → refused_one l n ≡ correction_bits count l
  unfolding correction_bits
  correction-refused l e = refused-one l _ n e h _

  pub mask-refused : (l : MaskLent) → n ≡ first_fault (mask_tests count l.bits l.pads l.messages (length l.answers))
      → refused_one l n ≡ mask_messages count l
  unfolding mask_messages
  mask-refused l e = refused-one l _ n e h _

  pub unmask-refused : (l : UnmaskLent) → n ≡ first_fault (unmask_tests count l.wanted l.pads l.answers (length l.messages))
      → refused_one l n ≡ unmask_messages count l
  unfolding unmask_messages
  unmask-refused l e = refused-one l _ n e h _
