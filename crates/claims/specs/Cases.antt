-- Document 01's starred cases ('Cases'), gathered in one table with one proposition about it. Of workings: the promise is `Cases` of
-- `page_claims`, over the page.
use Rattle.std.specs.Prelude.{◌≡◌, List, [], ◌∷◌, map, ℕ, zero, suc, ◌-◌, ◌^◌, replicate}
use Rattle.answer.specs.Numbers.{accepted, bad_number}
use Rattle.algebra.specs.Coding.{flat}
use Rattle.algebra.specs.Expansion.{noise, correction}
use Rattle.algebra.specs.Sum.{accumulate}
use Rattle.field.specs.Binary.{binary}
use Rattle.prime.specs.Prime.{modulus, prime, prime_mul, prime_reduce, primes}
use Rattle.aes_sbox.specs.Byte.{s_box}
use Rattle.dealing.specs.Deal.{DealOutcome, deal}
use Rattle.number.specs.Number.{write_number, read_number}
use Rattle.number.specs.Reading.{Parsed, Whole, Refused}
use Rattle.record.specs.Content.{NoiseTree}
use Rattle.record.specs.Writing.{write_trees}

-- a case: what the definitions give, and what document 01 says
pub record Case : Type 0 where
  pub given : List ℕ
  pub said : List ℕ

abbrev case : List ℕ → List ℕ → Case
case given said = record { given = given; said = said }

-- the number that a reading is refused with; 0 if it is whole
abbrev reading_fault : Parsed ℕ → ℕ
reading_fault (Whole r) = 0
reading_fault (Refused k) = k

-- a tree of field 1 at a position, with nothing else in it
abbrev bare : ℕ → NoiseTree
bare p = record { position = p; value = 1; correction = []; siblings = [] }

-- the first at tree 0, the second at every other
abbrev two : {A : Type 0} → A → A → ℕ → A
two a b zero = a
two a b (suc i) = b

-- the accumulated noise of N = 8 places with two trees
abbrev accumulated_binary : List ℕ
accumulated_binary = flat binary.noise_values 8 (accumulate binary.ring.group (noise binary.ring 2 (two 1 4) (two 1 1)))

abbrev accumulated_prime : List ℕ
accumulated_prime =
    flat primes.noise_values 8
    (accumulate primes.ring.group (noise primes.ring 2 (two 1 4) (two (prime 5) (prime (modulus - 2)))))

-- a dealing with d = g = t = ℓ = n = 1, position 0, noise value 1 and Δ = 1, all else zero, into buffers of 96 bytes
abbrev small_dealing : ℕ → DealOutcome
small_dealing field =
    deal
    (record {
      field = field;
      depth = 1;
      branch_bits = 1;
      trees = 1;
      terms = 1;
      outputs = 1;
      roots = replicate 16 0;
      positions = 0 ∷ [];
      values = 1 ∷ [];
      delta = 1 ∷ replicate 15 0;
      code_key = replicate 16 0;
      label = replicate 16 0;
    })
    (replicate 96 0)
    (replicate 96 0)

-- the number, and the lengths of both records
abbrev dealt_lengths : DealOutcome → List ℕ
dealt_lengths d = d.number ∷ d.written.first_written ∷ d.written.second_written ∷ []

-- the starred cases, in document 01's order; records have the 16 bytes of the label (document 02, 8) and the byte of g (document
-- 02, 10) besides
unfoldable pub starred : List Case
starred =
    case (s_box 0x00 ∷ s_box 0x53 ∷ []) (0x63 ∷ 0xed ∷ [])
    ∷ case (write_number 127) (0x7f ∷ [])
    ∷ case (write_number 128) (0x80 ∷ 0x01 ∷ [])
    ∷ case (write_number 300) (0xac ∷ 0x02 ∷ [])
    ∷ case (write_number 16384) (0x80 ∷ 0x80 ∷ 0x01 ∷ [])
    ∷ case (reading_fault (read_number (0x80 ∷ 0x00 ∷ []) 0) ∷ []) (bad_number ∷ [])
    ∷ case (write_trees 1 0 (bare 1 ∷ bare 4 ∷ bare 5 ∷ [])) (1 ∷ 2 ∷ 0 ∷ [])
    ∷ case ((prime_mul (prime (2 ^ 60)) (prime 2)).word ∷ []) (1 ∷ [])
    ∷ case ((prime_mul (prime (modulus - 1)) (prime (modulus - 1))).word ∷ []) (1 ∷ [])
    ∷ case ((prime_reduce (2 ^ 64 - 1)).word ∷ []) (7 ∷ [])
    ∷ case accumulated_binary (0 ∷ 1 ∷ 1 ∷ 1 ∷ 0 ∷ 0 ∷ 0 ∷ 0 ∷ [])
    ∷ case accumulated_prime (0 ∷ 5 ∷ 5 ∷ 5 ∷ 3 ∷ 3 ∷ 3 ∷ 3 ∷ [])
    ∷ case ((correction primes.scaled (prime 3) (prime 7) (prime 5)).word ∷ []) ((modulus - 8) ∷ [])
    ∷ case (dealt_lengths (small_dealing 1)) (accepted ∷ 72 ∷ 71 ∷ [])
    ∷ case (dealt_lengths (small_dealing 2)) (accepted ∷ 72 ∷ 63 ∷ [])
    ∷ []

-- the definitions give what document 01 says, in every starred case
abbrev pub Cases : Type 0
Cases = map (λ c. c.given) starred ≡ map (λ c. c.said) starred
