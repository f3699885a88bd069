-- What the loops write: a bit more, an answer as its two blocks; and the bits that the tests ask for.
use mathlib.Core.Path.{◌≡◌, refl, ap, ◌∙◌}
use mathlib.Core.List.{List}
use Prim.Native.Nat.{ℕ, ◌+◌, ◌-◌, ◌*◌, ◌≤◌, ◌<◌}
use native.Mathlib.Omega.{arith}
use lib.Bits.{bit_xor}
use lib.ListN.{length, get_or, set}
use lib.Seq.{sets}
use Rattle.algebra.specs.Coding.{flat, over}
use Rattle.algebra.specs.Inner.Put.{with_value}
use Rattle.algebra.proofs.Written.{Wide, sets_append, flat-length, front_more}
use Rattle.pads.specs.Messages.Bytes.{byte, sixteen, thirty_two, one_of_two, masked}
use Rattle.pads.specs.Messages.Calls.{mask_tests, unmask_tests, correction_bit, answer_of}
use Rattle.answer.specs.Tests.{AllMet}

-- every value has its coding's width
pub wide-byte : Wide byte
wide-byte b = refl

pub wide-sixteen : Wide sixteen
wide-sixteen b = flat-length byte wide-byte 16 b

pub wide-two : Wide thirty_two
unfolding flat
wide-two t = refl

-- ---- correction bits

pub bits_more : (choices wanted b l : List ℕ) (k count : ℕ) → k < count → count ≤ length b
    → l ≡ over byte k (correction_bit choices wanted) b
    → set l k (bit_xor (get_or choices k 0) (get_or wanted k 0)) ≡ over byte (k + 1) (correction_bit choices wanted) b
unfolding with_value
bits_more choices wanted b l k count h room e =
    front_more byte wide-byte (correction_bit choices wanted) b k k l _ (omega arith) (omega arith) e refl

-- ---- the scalar end's answers

-- both blocks of the answer of output k, as the calls of `mask_block` write them
pub answer-both : (k : ℕ) (bits pads messages l l' l'' : List ℕ)
    → l' ≡ with_value sixteen l (32 * k) (masked (sixteen.read messages (32 * k)) (sixteen.read pads (32 * k + 16 * get_or bits k 0)))
    → l'' ≡ with_value sixteen l' (32 * k + 16) (masked (sixteen.read messages (32 * k + 16)) (sixteen.read pads (32 * k + 16 * (1 - get_or bits k 0))))
    → l'' ≡ with_value thirty_two l (32 * k) (answer_of bits pads messages k)
unfolding answer_of with_value
answer-both k bits pads messages l l' l'' e g =
    let bit = get_or bits k 0 in
    let f0 = masked (one_of_two messages k 0) (one_of_two pads k bit) in
    let w1 = flat byte 16 (masked (one_of_two messages k 1) (one_of_two pads k (1 - bit))) in
    let place : 32 * k ≡ 32 * k + 16 * 0 = omega arith in
    let e0 : l' ≡ sets l (32 * k) (flat byte 16 f0) =
    e ∙ ap (λ (n : ℕ). sets l (32 * k) (flat byte 16 (masked (sixteen.read messages n) (one_of_two pads k bit)))) place in
    g ∙ rw (e0, sets_append l (32 * k) (flat byte 16 f0) w1, wide-sixteen f0)

-- the bit of output k, as the tests ask for it
pub mask-bit : (count : ℕ) (bits pads messages : List ℕ) (room : ℕ) → AllMet (mask_tests count bits pads messages room) → (k : ℕ) → get_or bits k 0 ≤ 1
mask-bit count bits pads messages room a = search

-- ---- the messages opened

-- the bit wanted of output k, as the tests ask for it
pub unmask-bit : (count : ℕ) (wanted pads answers : List ℕ) (room : ℕ) → AllMet (unmask_tests count wanted pads answers room) → (k : ℕ)
    → get_or wanted k 0 ≤ 1
unmask-bit count wanted pads answers room a = search
