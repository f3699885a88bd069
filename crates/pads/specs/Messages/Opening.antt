-- The three calls in turn open the message wanted (document 02, 1), for any pads of which the noise end's 16 bytes are those
-- of the pad that the choice names: no rule of pads is in this.
use Rattle.std.specs.Prelude.{◌≡◌, List, ℕ, ◌*◌, ◌≤◌, ◌<◌, length, get_or, take}
use Rattle.answer.specs.Bytes.{AreBits}
use Rattle.answer.specs.Outcome.{Outcome}
use Rattle.pads.specs.Choice.{pad_at, one_of_two_at}
use Rattle.pads.specs.Messages.Calls.{CorrectionLent, MaskLent, UnmaskLent, lent_correction, lent_mask, lent_unmask}
use Rattle.pads.specs.Messages.Calls.{correction_bits, mask_messages, unmask_messages}

-- one batch at both ends: its count; choices, wanted bits and pads of the noise end; pads and messages of the scalar end; and
-- the buffers lent for the bits, the answers and the messages opened
pub record Batch : Type 0 where
  pub count : ℕ
  pub choices : List ℕ
  pub wanted : List ℕ
  pub noise_pads : List ℕ
  pub scalar_pads : List ℕ
  pub messages : List ℕ
  pub bits_out : List ℕ
  pub answers_out : List ℕ
  pub messages_out : List ℕ

-- a batch of at most 4,096 outputs, whose slices have the lengths that it calls for, wanted bits 0 or 1, and room enough
pub record BatchFits (B : Batch) : Type 0 where
  pub batch : B.count ≤ 4096
  pub choices-length : length B.choices ≡ B.count
  pub wanted-length : length B.wanted ≡ B.count
  pub noise_pads-length : length B.noise_pads ≡ 16 * B.count
  pub scalar_pads-length : length B.scalar_pads ≡ 32 * B.count
  pub messages-length : length B.messages ≡ 32 * B.count
  pub wanted-bits : AreBits B.count B.wanted
  pub bits-room : B.count ≤ length B.bits_out
  pub answers-room : 32 * B.count ≤ length B.answers_out
  pub messages-room : 16 * B.count ≤ length B.messages_out

-- ---- the three calls in turn; what is sent is the front that a call wrote, of the returned length

abbrev pub corrected_batch : Batch → Outcome ℕ CorrectionLent
corrected_batch B = correction_bits B.count (lent_correction B.choices B.wanted B.bits_out)

abbrev pub sent_correction_bits : Batch → List ℕ
sent_correction_bits B = take (corrected_batch B).written (corrected_batch B).lent.bits

abbrev pub masked_batch : Batch → Outcome ℕ MaskLent
masked_batch B = mask_messages B.count (lent_mask (sent_correction_bits B) B.scalar_pads B.messages B.answers_out)

abbrev pub sent_answers : Batch → List ℕ
sent_answers B = take (masked_batch B).written (masked_batch B).lent.answers

abbrev pub opened_batch : Batch → Outcome ℕ UnmaskLent
opened_batch B = unmask_messages B.count (lent_unmask B.wanted B.noise_pads (sent_answers B) B.messages_out)

-- the noise end's choice at its place k is 0 or 1, and its 16 bytes there are those of the pad that the choice names of the two at the
-- scalar end's place k'
pub record NamedAt (choices noise_pads scalar_pads : List ℕ) (k k' : ℕ) : Type 0 where
  pub bit : get_or choices k 0 ≤ 1
  pub pad : pad_at noise_pads 0 k ≡ one_of_two_at scalar_pads 0 k' (get_or choices k 0)

-- all three calls are accepted, and what is opened at each k is exactly the message wanted there; messages lie as pads do, so `pad_at`
-- and `one_of_two_at` take their 16 bytes too
pub record Opens (B : Batch) : Type 0 where
  pub corrected_accepted : (corrected_batch B).number ≡ 0
  pub masked-accepted : (masked_batch B).number ≡ 0
  pub opened-accepted : (opened_batch B).number ≡ 0
  pub opens : (k : ℕ) → k < B.count
      → pad_at (opened_batch B).lent.messages 0 k ≡ one_of_two_at B.messages 0 k (get_or B.wanted k 0)

abbrev pub Opening : Type 0
Opening =
    (B : Batch) → BatchFits B → ((k : ℕ) → k < B.count → NamedAt B.choices B.noise_pads B.scalar_pads k k) → Opens B
