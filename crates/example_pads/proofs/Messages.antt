-- The batch, by computation; that it opens, by `Messages` itself.
use mathlib.Core.Path.{refl}
use Prim.Native.Nat.{zero, suc}
use native.Mathlib.Omega.{arith}
use lib.Dec.{lit≤}
use Rattle.algebra.specs.Coding.{flat, over}
use Rattle.answer.specs.Bytes.{any_above, AreBits}
use Rattle.answer.specs.Outcome.{by_number, answered}
use Rattle.answer.specs.Tests.{is_met, first_fault}
use Rattle.pads.specs.Messages.Calls.{correction_bits, answer_of, mask_messages, opened_of, unmask_messages}
use Rattle.pads.specs.Messages.Opening.{BatchFits}
use Rattle.claims.proofs.Messages.{messages}
use Rattle.example_pads.specs.Messages.{batch, MessagesExample}
use Rattle.example_pads.proofs.Pads.{first_dealing, first_taken}

wanted-bits : AreBits 2 batch.wanted
wanted-bits zero h = lit≤ tt
wanted-bits (suc zero) h = lit≤ tt
wanted-bits (suc (suc k)) h = absurd (omega arith)

fits : BatchFits batch
fits =
    record {
      batch = lit≤ tt;
      choices-length = refl;
      wanted-length = refl;
      noise_pads-length = refl;
      scalar_pads-length = refl;
      messages-length = refl;
      wanted-bits = wanted-bits;
      bits-room = lit≤ tt;
      answers-room = lit≤ tt;
      messages-room = lit≤ tt;
    }

pub messages_example : MessagesExample
unfolding flat over any_above is_met first_fault by_number answered correction_bits answer_of mask_messages opened_of unmask_messages
messages_example =
    record {
      dealing = first_dealing;
      input = refl;
      fits = fits;
      taken = first_taken;
      bits = refl;
      answers = refl;
      opened = refl;
      opens = messages first_dealing batch fits first_taken;
    }
