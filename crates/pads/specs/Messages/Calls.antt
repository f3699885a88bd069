-- The three calls of the correction step (document 02, 1): from everything lent to everything that stands on return, the
-- input slices too. They test 3 (a batch above 4,096, or wrong lengths), 8 (a bit byte above 1), 13, in that order.
use Rattle.std.specs.Prelude.{◌≡◌, ◌↔◌, List, [], ◌∷◌, ℕ, ◌-◌, ◌*◌, length, get_or}
use Rattle.std.specs.Int.Bits.{bit_xor}
use Rattle.algebra.specs.Coding.{over}
use Rattle.answer.specs.Numbers.{bad_length, not_element, buffer_short}
use Rattle.answer.specs.Tests.{Test, ◌is◌, ◌at_most◌, all_at_most, ◌or◌, AllMet}
use Rattle.answer.specs.Outcome.{Outcome, answered, refused_one, wrote}
use Rattle.pads.specs.Messages.Bytes.{Sixteen, Two, byte, sixteen, thirty_two, one_of, one_of_two, masked}

-- ---- the noise end sends one bit per output

-- what is lent: the choices, the wanted bits, and the output buffer
pub record CorrectionLent : Type 0 where
  pub choices : List ℕ
  pub wanted : List ℕ
  pub bits : List ℕ

abbrev pub lent_correction : List ℕ → List ℕ → List ℕ → CorrectionLent
lent_correction choices wanted bits = record { choices = choices; wanted = wanted; bits = bits }

-- its tests: choices and wanted bits have a byte each, and as many bytes of room are asked for
abbrev pub correction_tests : ℕ → List ℕ → List ℕ → ℕ → List Test
correction_tests count choices wanted room =
    count at_most 4096 or bad_length
    ∷ length choices is count or bad_length
    ∷ length wanted is count or bad_length
    ∷ all_at_most 1 choices or not_element
    ∷ all_at_most 1 wanted or not_element
    ∷ count at_most room or buffer_short
    ∷ []

-- choice exclusive-or wanted bit
abbrev pub correction_bit : List ℕ → List ℕ → ℕ → ℕ
correction_bit choices wanted k = bit_xor (get_or choices k 0) (get_or wanted k 0)

-- the call: a byte an output
unfoldable pub correction_bits : ℕ → CorrectionLent → Outcome ℕ CorrectionLent
correction_bits count l =
    answered (correction_tests count l.choices l.wanted (length l.bits)) (refused_one l)
    (wrote count (lent_correction l.choices l.wanted (over byte count (correction_bit l.choices l.wanted) l.bits)))

-- ---- the scalar end answers with two blocks

-- what is lent: the bits, the pads, the messages, and the output buffer
pub record MaskLent : Type 0 where
  pub bits : List ℕ
  pub pads : List ℕ
  pub messages : List ℕ
  pub answers : List ℕ

abbrev pub lent_mask : List ℕ → List ℕ → List ℕ → List ℕ → MaskLent
lent_mask bits pads messages answers = record { bits = bits; pads = pads; messages = messages; answers = answers }

-- its tests: the bits have a byte an output, pads and messages 32, and room is asked for as many
abbrev pub mask_tests : ℕ → List ℕ → List ℕ → List ℕ → ℕ → List Test
mask_tests count bits pads messages room =
    count at_most 4096 or bad_length
    ∷ length bits is count or bad_length
    ∷ length pads is 32 * count or bad_length
    ∷ length messages is 32 * count or bad_length
    ∷ all_at_most 1 bits or not_element
    ∷ 32 * count at_most room or buffer_short
    ∷ []

-- message 0 masked by the pad that the bit names, message 1 by the other
unfoldable pub answer_of : List ℕ → List ℕ → List ℕ → ℕ → Two
answer_of bits pads messages k =
    record {
      block0 = masked (one_of_two messages k 0) (one_of_two pads k (get_or bits k 0));
      block1 = masked (one_of_two messages k 1) (one_of_two pads k (1 - get_or bits k 0));
    }

-- the call: 32 bytes an output
unfoldable pub mask_messages : ℕ → MaskLent → Outcome ℕ MaskLent
mask_messages count l =
    answered (mask_tests count l.bits l.pads l.messages (length l.answers)) (refused_one l)
    (wrote (32 * count)
    (lent_mask l.bits l.pads l.messages (over thirty_two count (answer_of l.bits l.pads l.messages) l.answers)))

-- ---- the noise end unmasks the one it wants

-- what is lent: the wanted bits, the pads, the answers, and the output buffer
pub record UnmaskLent : Type 0 where
  pub wanted : List ℕ
  pub pads : List ℕ
  pub answers : List ℕ
  pub messages : List ℕ

abbrev pub lent_unmask : List ℕ → List ℕ → List ℕ → List ℕ → UnmaskLent
lent_unmask wanted pads answers messages = record { wanted = wanted; pads = pads; answers = answers; messages = messages }

-- its tests: the wanted bits have a byte an output, pads 16 and answers 32, and room is asked for 16
abbrev pub unmask_tests : ℕ → List ℕ → List ℕ → List ℕ → ℕ → List Test
unmask_tests count wanted pads answers room =
    count at_most 4096 or bad_length
    ∷ length wanted is count or bad_length
    ∷ length pads is 16 * count or bad_length
    ∷ length answers is 32 * count or bad_length
    ∷ all_at_most 1 wanted or not_element
    ∷ 16 * count at_most room or buffer_short
    ∷ []

-- the wanted block of the answer, masked again by the noise end's pad
unfoldable pub opened_of : List ℕ → List ℕ → List ℕ → ℕ → Sixteen
opened_of wanted pads answers k = masked (one_of_two answers k (get_or wanted k 0)) (one_of pads k)

-- the call: 16 bytes an output
unfoldable pub unmask_messages : ℕ → UnmaskLent → Outcome ℕ UnmaskLent
unmask_messages count l =
    answered (unmask_tests count l.wanted l.pads l.answers (length l.messages)) (refused_one l)
    (wrote (16 * count)
    (lent_unmask l.wanted l.pads l.answers (over sixteen count (opened_of l.wanted l.pads l.answers) l.messages)))

-- ---- a call returns 0 exactly if its tests are all met

pub record Accepts : Type 0 where
  pub correction : (count : ℕ) (l : CorrectionLent)
      → AllMet (correction_tests count l.choices l.wanted (length l.bits)) ↔ (correction_bits count l).number ≡ 0
  pub mask : (count : ℕ) (l : MaskLent)
      → AllMet (mask_tests count l.bits l.pads l.messages (length l.answers)) ↔ (mask_messages count l).number ≡ 0
  pub unmask : (count : ℕ) (l : UnmaskLent)
      → AllMet (unmask_tests count l.wanted l.pads l.answers (length l.messages)) ↔ (unmask_messages count l).number ≡ 0
