-- Both ends' triples match: each pad bit is the far end's pad bit that the choice names, and for all bits so related the
-- third bits combined are the AND of the others, by one computed test.
use mathlib.Core.Path.{◌≡◌, refl, ap, ◌∙◌}
use mathlib.Core.Bool.{Bool, true, ◌&&◌}
use mathlib.Core.List.{List, [], ◌∷◌, ◌++◌}
use Prim.Native.Nat.{ℕ, zero, suc, ◌+◌, ◌*◌, ◌/◌, ◌%◌, ◌≤◌, ◌<◌}
use native.Mathlib.Omega.{arith}
use native.Mathlib.Nat.{mul_comm}
use lib.Bits.{bit_and, bit_xor, xor_lt, and_lt}
use lib.Dec.{eqb}
use lib.ListN.{length, get_or, take, get_or-append}
use lib.Seq.{get_or-append-add}
use borrow.Author.Tests.{eqb-true}
use Rattle.algebra.specs.Coding.{at, over}
use Rattle.answer.specs.Outcome.{Outcome}
use Rattle.answer.proofs.Answers.{outcome_is}
use Rattle.algebra.proofs.Tests.{and_left, and_right}
use Rattle.pads.specs.Messages.Opening.{NamedAt}
use Rattle.algebra.proofs.Written.{taken-length, taken_word}
use Rattle.pads.proofs.Messages.Opening.{named-byte}
use Rattle.pads.specs.Triples.Triple.{Triple, triple_bytes, triple_from, pad_pair_bit, pad_bit, triple_of}
use Rattle.pads.specs.Triples.Call.{TriplesLent, triples}
use Rattle.pads.specs.Triples.Matching.{MatchingAt, Matching, Match, ZeroOrOne, triples_of}
use Rattle.pads.proofs.Triples.Accepts.{accepts}
use Rattle.pads.proofs.Triples.Turns.{wide-triple}

-- ---- a test of all bits

abbrev on_bits : (ℕ → Bool) → Bool
on_bits f = f 0 && f 1

on_bit : (f : ℕ → Bool) → on_bits f ≡ true → (n : ℕ) → n ≤ 1 → f n ≡ true
on_bit f e zero h = and_left (f 0) (f 1) e
on_bit f e (suc zero) h = and_right (f 0) (f 1) e
on_bit f e (suc (suc n)) h = absurd (omega arith)

-- the first of two values for 0, else the second
abbrev named : ℕ → ℕ → ℕ → ℕ
named zero x y = x
named (suc n) x y = y

-- the triples of both ends, where each pad bit is that of the far end's pad that the choice names
abbrev near : ℕ → ℕ → ℕ → ℕ → ℕ → ℕ → Triple
near a a' r q r' q' = triple_from a (named a r' q') r q

abbrev far : ℕ → ℕ → ℕ → ℕ → ℕ → ℕ → Triple
far a a' r q r' q' = triple_from a' (named a' r q) r' q'

abbrev matches : Triple → Triple → Bool
matches t t' = eqb (bit_xor t.bit3 t'.bit3) (bit_and (bit_xor t.bit1 t'.bit1) (bit_xor t.bit2 t'.bit2))

abbrev test : ℕ → ℕ → ℕ → ℕ → ℕ → ℕ → Bool
test a a' r q r' q' = matches (near a a' r q r' q') (far a a' r q r' q')

tested : on_bits (λ a. on_bits (λ a'. on_bits (λ r. on_bits (λ q. on_bits (λ r'. on_bits (λ q'. test a a' r q r' q')))))) ≡ true
unfolding triple_from
tested = refl

bits-match : (a a' r q r' q' : ℕ) → a ≤ 1 → a' ≤ 1 → r ≤ 1 → q ≤ 1 → r' ≤ 1 → q' ≤ 1
    → MatchingAt (near a a' r q r' q') (far a a' r q r' q')
bits-match a a' r q r' q' ha ha' hr hq hr' hq' =
    eqb-true _ _
    (on_bit (test a a' r q r')
    (on_bit (λ r'. on_bits (test a a' r q r'))
    (on_bit (λ q. on_bits (λ r'. on_bits (test a a' r q r')))
    (on_bit (λ r. on_bits (λ q. on_bits (λ r'. on_bits (test a a' r q r'))))
    (on_bit (λ a'. on_bits (λ r. on_bits (λ q. on_bits (λ r'. on_bits (test a a' r q r')))))
    (on_bit (λ a. on_bits (λ a'. on_bits (λ r. on_bits (λ q. on_bits (λ r'. on_bits (test a a' r q r')))))) tested a ha)
    a' ha') r hr) q hq) r' hr') q' hq')

-- triples are equal by their bits
pub triple_eq : {a b c x y z : ℕ} → a ≡ x → b ≡ y → c ≡ z
    → ◌≡◌ {A = Triple} (record { bit1 = a; bit2 = b; bit3 = c }) (record { bit1 = x; bit2 = y; bit3 = z })
triple_eq p q r = cc

-- each byte of a triple of bits is 0 or 1
bits_of : (a h r q : ℕ) → a ≤ 1 → h ≤ 1 → r ≤ 1 → q ≤ 1 → (m : ℕ) → get_or (triple_bytes.words (triple_from a h r q)) m 0 ≤ 1
unfolding triple_from
bits_of a h r q ha hh hr hq =
    let x = xor_lt 1 r q (omega arith) (omega arith) in
    let y = and_lt 1 a (bit_xor r q) (omega arith) x in
    let z = xor_lt 1 (bit_and a (bit_xor r q)) h y (omega arith) in
    let t = xor_lt 1 (bit_xor (bit_and a (bit_xor r q)) h) r z (omega arith) in
    each ha (omega arith) (omega arith)
  where
    each : {b c d : ℕ} → b ≤ 1 → c ≤ 1 → d ≤ 1 → (m : ℕ) → get_or (b ∷ c ∷ d ∷ []) m 0 ≤ 1
    each p q r zero = p
    each p q r (suc zero) = q
    each p q r (suc (suc zero)) = r
    each p q r (suc (suc (suc m))) = omega arith

-- ---- the bits of output k

-- the pad bit is that of the far end's pad that the choice names
pad-bit : (choices pads pad_pairs : List ℕ) (k k' : ℕ) → NamedAt choices pads pad_pairs k k'
    → pad_bit pads k ≡ named (get_or choices k 0) (pad_pair_bit pad_pairs k' 0) (pad_pair_bit pad_pairs k' 1)
pad-bit choices pads pad_pairs k k' N =
    let s : 16 * k ≡ 16 * k + 0 = omega arith in
    ap (λ (n : ℕ). get_or pads n 0 % 2) s
    ∙ ap (λ (n : ℕ). n % 2) (named-byte choices pads pad_pairs k k' N 0 (omega arith))
    ∙ by_choice (get_or choices k 0) N.bit
  where
    by_choice : (u : ℕ) → u ≤ 1 → get_or pad_pairs (32 * k' + 16 * u + 0) 0 % 2 ≡ named u (pad_pair_bit pad_pairs k' 0) (pad_pair_bit pad_pairs k' 1)
    by_choice zero h = let z : 32 * k' + 16 * 0 + 0 ≡ 32 * k' + 16 * 0 = omega arith in ap (λ (n : ℕ). get_or pad_pairs n 0 % 2) z
    by_choice (suc zero) h = let z : 32 * k' + 16 * 1 + 0 ≡ 32 * k' + 16 * 1 = omega arith in ap (λ (n : ℕ). get_or pad_pairs n 0 % 2) z
    by_choice (suc (suc u)) h = absurd (omega arith)

-- ---- the bytes that an accepted call wrote

module _ (l : TriplesLent) (e : (triples l).number ≡ 0) where
  abbrev front : List ℕ
  front = take (length l.choices * 3) (over triple_bytes (length l.choices) (triple_of l.choices l.pads l.pad_pairs) l.triples)

  written_is : triples_of l ≡ front
  unfolding triples
  written_is =
      ap (λ (o : Outcome ℕ TriplesLent). take o.written o.lent.triples) (outcome_is _ _ _ _ _ e)
      ∙ rw (mul_comm 3 (length l.choices))

  byte_is : (k m : ℕ) → k < length l.choices → m < 3
      → get_or (triples_of l) (k * 3 + m) 0 ≡ get_or (triple_bytes.words (triple_of l.choices l.pads l.pad_pairs k)) m 0
  byte_is k m h i =
      ap (λ (s : List ℕ). get_or s (k * 3 + m) 0) written_is
      ∙ taken_word triple_bytes wide-triple (length l.choices) (triple_of l.choices l.pads l.pad_pairs) l.triples k m h i

  -- triple k
  triple_is : (k : ℕ) → k < length l.choices → at triple_bytes (triples_of l) k ≡ triple_of l.choices l.pads l.pad_pairs k
  triple_is k h =
      let z : k * 3 ≡ k * 3 + 0 = omega arith in
      triple_eq (ap (λ (n : ℕ). get_or (triples_of l) n 0) z ∙ byte_is k 0 h (omega arith)) (byte_is k 1 h (omega arith)) (byte_is k 2 h (omega arith))

  choice-bits : (k : ℕ) → get_or l.choices k 0 ≤ 1
  choice-bits = search ((accepts l).1 e)

  -- its bytes are 0 or 1
  byte-bit : (k m : ℕ) → k < length l.choices → get_or (triple_bytes.words (triple_of l.choices l.pads l.pad_pairs k)) m 0 ≤ 1
  unfolding triple_of
  byte-bit k m h =
      bits_of (get_or l.choices k 0) (pad_bit l.pads k) (pad_pair_bit l.pad_pairs k 0) (pad_pair_bit l.pad_pairs k 1)
      (choice-bits k) (omega arith) (omega arith) (omega arith) m

pub zero_or_one : ZeroOrOne
zero_or_one l e j h =
    let k = j / 3 in
    let m = j % 3 in
    let place : k * 3 + m ≡ j = omega arith in
    let b : get_or (triples_of l) (k * 3 + m) 0 ≤ 1 = rw (byte_is l e k m (omega arith) (omega arith)) (byte-bit l e k m (omega arith)) in
    rw place at b

-- what matches is matched by equal triples
pub match_at : (t t' s s' : Triple) → t ≡ s → t' ≡ s' → MatchingAt s s' → MatchingAt t t'
match_at t t' s s' e e' m = rw (e, e') m

pub match : Match
unfolding triple_of
match l l' e e' k k' h h' N N' =
    let a = get_or l.choices k 0 in
    let a' = get_or l'.choices k' 0 in
    let r = pad_pair_bit l.pad_pairs k 0 in
    let q = pad_pair_bit l.pad_pairs k 1 in
    let r' = pad_pair_bit l'.pad_pairs k' 0 in
    let q' = pad_pair_bit l'.pad_pairs k' 1 in
    match_at (at triple_bytes (triples_of l) k) (at triple_bytes (triples_of l') k') (near a a' r q r' q') (far a a' r q r' q')
    (triple_is l e k h ∙ ap (λ (p : ℕ). triple_from a p r q) (pad-bit l.choices l.pads l'.pad_pairs k k' N))
    (triple_is l' e' k' h' ∙ ap (λ (p : ℕ). triple_from a' p r' q') (pad-bit l'.choices l'.pads l.pad_pairs k' k N'))
    (bits-match a a' r q r' q' N.bit N'.bit (omega arith) (omega arith) (omega arith) (omega arith))

-- for equally many outputs, all of them
pub match-all : (l l' : TriplesLent) → length l.choices ≡ length l'.choices → (triples l).number ≡ 0 → (triples l').number ≡ 0
    → ((k : ℕ) → k < length l.choices → NamedAt l.choices l.pads l'.pad_pairs k k)
    → ((k : ℕ) → k < length l.choices → NamedAt l'.choices l'.pads l.pad_pairs k k)
    → Matching (length l.choices) (triples_of l) (triples_of l')
match-all l l' equal e e' N N' k h = match l l' e e' k k h (omega arith) (N k h) (N' k h)

-- ---- triples of several calls, one after the other

-- an accepted call wrote three bytes an output
pub length-triples : (l : TriplesLent) → (triples l).number ≡ 0 → length (triples_of l) ≡ length l.choices * 3
length-triples l e =
    ap length (written_is l e)
    ∙ taken-length triple_bytes wide-triple (length l.choices) (triple_of l.choices l.pads l.pad_pairs) l.triples
    (omega (arith, ((accepts l).1 e).all))

-- the triples of the front of a list, and those past it
pub triple-front : (front rest : List ℕ) (k count : ℕ) → length front ≡ count * 3 → k < count
    → at triple_bytes (front ++ rest) k ≡ at triple_bytes front k
triple-front front rest k count e h =
    triple_eq (get_or-append front rest 0 (k * 3) (omega arith)) (get_or-append front rest 0 (k * 3 + 1) (omega arith))
    (get_or-append front rest 0 (k * 3 + 2) (omega arith))

pub triple_past : (front rest : List ℕ) (k count : ℕ) → length front ≡ count * 3
    → at triple_bytes (front ++ rest) (count + k) ≡ at triple_bytes rest k
triple_past front rest k count e =
    triple_eq (past (k * 3) ((count + k) * 3) (omega arith)) (past (k * 3 + 1) ((count + k) * 3 + 1) (omega arith))
    (past (k * 3 + 2) ((count + k) * 3 + 2) (omega arith))
  where
    past : (i n : ℕ) → n ≡ length front + i → get_or (front ++ rest) n 0 ≡ get_or rest i 0
    past i n z = ap (λ (m : ℕ). get_or (front ++ rest) m 0) z ∙ get_or-append-add front rest i 0
