-- An end's triple of an output (document 02, 6), from the lowest bit of the first byte of each pad.
use Rattle.std.specs.Prelude.{List, [], ◌∷◌, ℕ, ◌+◌, ◌*◌, ◌%◌, get_or}
use Rattle.std.specs.Int.Bits.{bit_and, bit_xor}
use Rattle.algebra.specs.Coding.{Coding}

-- three bits
pub record Triple : Type 0 where
  pub bit1 : ℕ
  pub bit2 : ℕ
  pub bit3 : ℕ

-- a triple is written as three bytes
abbrev pub triple_bytes : Coding Triple
triple_bytes =
    record {
      width = 3;
      words = λ t. t.bit1 ∷ t.bit2 ∷ t.bit3 ∷ [];
      read = λ l k. record { bit1 = get_or l k 0; bit2 = get_or l (k + 1) 0; bit3 = get_or l (k + 2) 0 };
    }

-- the triple of an end whose choice bit and pad bit in the first pairing are a and h, and whose two pad bits in the second
-- are r and q: a, r ⊕ q, and (a AND (r ⊕ q)) ⊕ h ⊕ r
unfoldable pub triple_from : ℕ → ℕ → ℕ → ℕ → Triple
triple_from a h r q =
    record { bit1 = a; bit2 = bit_xor r q; bit3 = bit_xor (bit_xor (bit_and a (bit_xor r q)) h) r }

-- the lowest bit of a byte
abbrev pub lowest : ℕ → ℕ
lowest byte = byte % 2

-- the bit of output k's pad, 16 bytes an output
abbrev pub pad_bit : List ℕ → ℕ → ℕ
pad_bit pads k = lowest (get_or pads (16 * k) 0)

-- the bit of pad 0 or 1 of output k, 32 bytes an output
abbrev pub pad_pair_bit : List ℕ → ℕ → ℕ → ℕ
pad_pair_bit pad_pairs k m = lowest (get_or pad_pairs (32 * k + 16 * m) 0)

-- the triple of output k
unfoldable pub triple_of : List ℕ → List ℕ → List ℕ → ℕ → Triple
triple_of choices pads pad_pairs k =
    triple_from (get_or choices k 0) (pad_bit pads k) (pad_pair_bit pad_pairs k 0) (pad_pair_bit pad_pairs k 1)
