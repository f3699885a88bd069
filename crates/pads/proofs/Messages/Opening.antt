-- The three calls in turn open the message wanted: the bit sent turns the message wanted to the pad that the choice names.
use mathlib.Core.Path.{◌≡◌, refl, sym, ap, ◌∙◌}
use mathlib.Core.List.{List}
use Prim.Native.Nat.{ℕ, zero, suc, ◌+◌, ◌-◌, ◌*◌, ◌≤◌, ◌<◌}
use native.Mathlib.Omega.{arith}
use native.Mathlib.Nat.{mul-one, mul_comm}
use lib.Bits.{bit_xor, xor_comm, xor_zero_r, xor_lt}
use lib.ListN.{length, get_or, take, drop}
use lib.Seq.{get_or-drop, get_or-take}
use Rattle.algebra.specs.Coding.{over}
use Rattle.algebra.proofs.Written.{flat-same, over-value, taken-length, taken_word}
use Rattle.field.proofs.Xor.{xor-back}
use Rattle.pads.specs.Choice.{pad_at, one_of_two_at}
use Rattle.answer.specs.Outcome.{Outcome}
use Rattle.answer.proofs.Above.{bits-all}
use Rattle.answer.proofs.Answers.{outcome_is}
use Rattle.pads.specs.Messages.Bytes.{Two, byte, sixteen, thirty_two}
use Rattle.pads.specs.Messages.Calls.{CorrectionLent, MaskLent, UnmaskLent, correction_bit, answer_of, opened_of, correction_bits, mask_messages, unmask_messages}
use Rattle.pads.specs.Messages.Opening.{Batch, BatchFits, NamedAt, Opening, corrected_batch, sent_correction_bits, masked_batch, sent_answers, opened_batch}
use Rattle.pads.proofs.Messages.Accepts.{accepts}
use Rattle.pads.proofs.Messages.Turns.{wide-byte, wide-sixteen, wide-two}
use Rattle.pads.proofs.Messages.Fronts.{take-flat, byte_0, byte_1}

-- ---- bits

-- the exclusive or of bits is a bit
bit-xor : (a b : ℕ) → a ≤ 1 → b ≤ 1 → bit_xor a b ≤ 1
bit-xor a b h k = omega (arith, xor_lt 1 a b (omega arith) (omega arith))

-- a mask taken off again
xor_twice : (a b : ℕ) → bit_xor (bit_xor a b) b ≡ a
xor_twice a b = xor_comm (bit_xor a b) b ∙ xor-back a b

-- the bit sent, turned by a wanted 1, is the choice
bit-back : (u : ℕ) → u ≤ 1 → 1 - bit_xor u 1 ≡ u
bit-back zero h = refl
bit-back (suc zero) h = refl
bit-back (suc (suc u)) h = absurd (omega arith)

-- ---- the bytes of output k, counted from 0

pub pad-from_0 : (l : List ℕ) (k : ℕ) → pad_at l 0 k ≡ take 16 (drop (16 * k) l)
pad-from_0 l k = let z : k - 0 ≡ k = omega arith in rw z

pub message_from_0 : (l : List ℕ) (k u : ℕ) → one_of_two_at l 0 k u ≡ take 16 (drop (32 * k + 16 * u) l)
message_from_0 l k u = let z : k - 0 ≡ k = omega arith in rw z

-- equal blocks are equal byte by byte
pub block-bytes : (l r : List ℕ) (a b : ℕ) → take 16 (drop a l) ≡ take 16 (drop b r) → (i : ℕ) → i < 16 → get_or l (a + i) 0 ≡ get_or r (b + i) 0
block-bytes l r a b e i h =
    sym (get_or-drop a l i 0)
    ∙ sym (get_or-take 16 (drop a l) i 0 h)
    ∙ ap (λ (x : List ℕ). get_or x i 0) e
    ∙ get_or-take 16 (drop b r) i 0 h
    ∙ get_or-drop b r i 0

-- where the noise end's pad is that which the choice names, so is each of its bytes
pub named-byte : (choices noise_pads scalar_pads : List ℕ) (k k' : ℕ) → NamedAt choices noise_pads scalar_pads k k' → (i : ℕ) → i < 16
    → get_or noise_pads (16 * k + i) 0 ≡ get_or scalar_pads (32 * k' + 16 * get_or choices k 0 + i) 0
named-byte choices noise_pads scalar_pads k k' N =
    block-bytes noise_pads scalar_pads (16 * k) (32 * k' + 16 * get_or choices k 0)
    (sym (pad-from_0 noise_pads k) ∙ N.pad ∙ message_from_0 scalar_pads k' (get_or choices k 0))

-- ---- the front that each call sends

module _ (B : Batch) (F : BatchFits B) (N : (k : ℕ) → k < B.count → NamedAt B.choices B.noise_pads B.scalar_pads k k) where
  corrected_zero : (corrected_batch B).number ≡ 0
  corrected_zero =
      let choices-all = bits-all B.count B.choices F.choices-length (λ k h. (N k h).bit) in
      let wanted-all = bits-all B.count B.wanted F.wanted-length F.wanted-bits in
      (accepts.correction B.count _).0 (record { all = search })

  bits_are : sent_correction_bits B ≡ take (B.count * 1) (over byte B.count (correction_bit B.choices B.wanted) B.bits_out)
  unfolding correction_bits
  bits_are =
      ap (λ (o : Outcome ℕ CorrectionLent). take o.written o.lent.bits) (outcome_is _ _ _ _ _ corrected_zero)
      ∙ rw (mul-one B.count)

  bits-length : length (sent_correction_bits B) ≡ B.count
  bits-length =
      ap length bits_are ∙ taken-length byte wide-byte B.count (correction_bit B.choices B.wanted) B.bits_out (omega (arith, F.bits-room))
      ∙ mul-one B.count

  bit_is : (k : ℕ) → k < B.count → get_or (sent_correction_bits B) k 0 ≡ bit_xor (get_or B.choices k 0) (get_or B.wanted k 0)
  bit_is k h =
      let i : k ≡ k * 1 + 0 = omega arith in
      ap (λ (l : List ℕ). get_or l k 0) bits_are
      ∙ ap (λ (n : ℕ). get_or (take (B.count * 1) (over byte B.count (correction_bit B.choices B.wanted) B.bits_out)) n 0) i
      ∙ taken_word byte wide-byte B.count (correction_bit B.choices B.wanted) B.bits_out k 0 h (omega arith)

  masked-zero : (masked_batch B).number ≡ 0
  masked-zero =
      let bits-all = bits-all B.count (sent_correction_bits B) bits-length (λ k h. rw (bit_is k h) (bit-xor _ _ (N k h).bit (F.wanted-bits k h))) in
      (accepts.mask B.count _).0 (record { all = search bits-length })

  abbrev answer_at : ℕ → Two
  answer_at = answer_of (sent_correction_bits B) B.scalar_pads B.messages

  answers_are : sent_answers B ≡ take (B.count * 32) (over thirty_two B.count answer_at B.answers_out)
  unfolding mask_messages
  answers_are =
      ap (λ (o : Outcome ℕ MaskLent). take o.written o.lent.answers) (outcome_is _ _ _ _ _ masked-zero)
      ∙ rw (mul_comm 32 B.count)

  answers-length : length (sent_answers B) ≡ 32 * B.count
  answers-length =
      ap length answers_are ∙ taken-length thirty_two wide-two B.count answer_at B.answers_out (omega (arith, F.answers-room))
      ∙ mul_comm B.count 32

  -- a byte of the answer of output k
  answer-byte : (k j : ℕ) → k < B.count → j < 32 → get_or (sent_answers B) (32 * k + j) 0 ≡ get_or (thirty_two.words (answer_at k)) j 0
  answer-byte k j h i =
      ap (λ (l : List ℕ). get_or l (32 * k + j) 0) answers_are
      ∙ ap (λ (n : ℕ). get_or (take (B.count * 32) (over thirty_two B.count answer_at B.answers_out)) (n + j) 0) (mul_comm 32 k)
      ∙ taken_word thirty_two wide-two B.count answer_at B.answers_out k j h i

  opened-zero : (opened_batch B).number ≡ 0
  opened-zero =
      let wanted-all = bits-all B.count B.wanted F.wanted-length F.wanted-bits in
      (accepts.unmask B.count _).0 (record { all = search answers-length })

  opened_are : (opened_batch B).lent.messages ≡ over sixteen B.count (opened_of B.wanted B.noise_pads (sent_answers B)) B.messages_out
  unfolding unmask_messages
  opened_are = ap (λ (o : Outcome ℕ UnmaskLent). o.lent.messages) (outcome_is _ _ _ _ _ opened-zero)

  -- a byte of the block wanted: the message's, masked by the pad that the choice names
  wanted-byte : (k i u w : ℕ) → k < B.count → i < 16 → u ≤ 1 → w ≤ 1 → get_or (sent_correction_bits B) k 0 ≡ bit_xor u w
      → get_or (sent_answers B) (32 * k + 16 * w + i) 0
      ≡ bit_xor (get_or B.messages (32 * k + 16 * w + i) 0) (get_or B.scalar_pads (32 * k + 16 * u + i) 0)
  unfolding answer_of
  wanted-byte k i u zero h j hu hw e =
      let place : 32 * k + 16 * 0 + i ≡ 32 * k + i = omega arith in
      ap (λ (n : ℕ). get_or (sent_answers B) n 0) place
      ∙ answer-byte k i h (omega arith)
      ∙ byte_0 (answer_at k) i j
      ∙ ap (λ (b : ℕ). bit_xor (get_or B.messages (32 * k + 16 * 0 + i) 0) (get_or B.scalar_pads (32 * k + 16 * b + i) 0)) (e ∙ xor_zero_r u)
  wanted-byte k i u (suc zero) h j hu hw e =
      let place : 32 * k + 16 * 1 + i ≡ 32 * k + (16 + i) = omega arith in
      ap (λ (n : ℕ). get_or (sent_answers B) n 0) place
      ∙ answer-byte k (16 + i) h (omega arith)
      ∙ byte_1 (answer_at k) i j
      ∙ ap (λ (b : ℕ). bit_xor (get_or B.messages (32 * k + 16 * 1 + i) 0) (get_or B.scalar_pads (32 * k + 16 * b + i) 0))
      (ap (λ (b : ℕ). 1 - b) e ∙ bit-back u hu)
  wanted-byte k i u (suc (suc w)) h j hu hw e = absurd (omega arith)

  -- a byte opened is the message's
  opened-byte : (k i : ℕ) → k < B.count → i < 16
      → opened_of B.wanted B.noise_pads (sent_answers B) k i ≡ get_or B.messages (32 * k + 16 * get_or B.wanted k 0 + i) 0
  unfolding opened_of
  opened-byte k i h j =
      cc (
        wanted-byte k i (get_or B.choices k 0) (get_or B.wanted k 0) h j (N k h).bit (F.wanted-bits k h) (bit_is k h),
        named-byte B.choices B.noise_pads B.scalar_pads k k (N k h) i j,
        xor_twice (get_or B.messages (32 * k + 16 * get_or B.wanted k 0 + i) 0)
            (get_or B.scalar_pads (32 * k + 16 * get_or B.choices k 0 + i) 0),
      )

  opens_at : (k : ℕ) → k < B.count → pad_at (opened_batch B).lent.messages 0 k ≡ one_of_two_at B.messages 0 k (get_or B.wanted k 0)
  opens_at k h =
      let w = get_or B.wanted k 0 in
      let bit : w ≤ 1 = F.wanted-bits k h in
      let m = F.messages-length in
      let f = opened_of B.wanted B.noise_pads (sent_answers B) in
      pad-from_0 (opened_batch B).lent.messages k
      ∙ rw (opened_are, mul_comm 16 k) (over-value sixteen wide-sixteen B.count f B.messages_out k h)
      ∙ flat-same byte wide-byte 16 (f k) (λ i. get_or B.messages (32 * k + 16 * w + i) 0) (λ i j. opened-byte k i h j)
      ∙ sym (take-flat 16 B.messages (32 * k + 16 * w) (omega arith))
      ∙ sym (message_from_0 B.messages k w)

pub opening : Opening
opening B F N =
    record {
      corrected_accepted = corrected_zero B F N;
      masked-accepted = masked-zero B F N;
      opened-accepted = opened-zero B F N;
      opens = opens_at B F N;
    }
