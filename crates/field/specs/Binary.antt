-- Field 1, binary (document 01, 'Two fields'): noise values 0 and 1, elements 16-byte blocks as two LE words, addition
-- exclusive or.
use Rattle.std.specs.Prelude.{true, List, ℕ, zero, suc, ◌+◌, ◌*◌, ◌%◌, ltb}
use Rattle.std.specs.Int.Bits.{bit_xor}
use Rattle.algebra.specs.Group.{Group, Ring, Scaled}
use Rattle.algebra.specs.Field.{Field}
use Rattle.field.specs.declared.block.Block.{Block}
use Rattle.field.specs.Bytes.{low_of, high_of}
use Rattle.algebra.specs.Words.{one_word, two_words}

-- the block of two words
abbrev pub block : ℕ → ℕ → Block
block low high = record { low = low; high = high }

-- the zero of field 1's elements
abbrev pub block_zero : Block
block_zero = block 0 0

-- addition is exclusive or
abbrev pub block_add : Block → Block → Block
block_add a b = block (bit_xor a.low b.low) (bit_xor a.high b.high)

-- the difference is the sum
abbrev pub block_sub : Block → Block → Block
block_sub a b = block_add a b

-- Δ × u is Δ if u is 1, else zero
unfoldable pub block_scale : ℕ → Block → Block
block_scale zero b = block_zero
block_scale (suc zero) b = b
block_scale (suc (suc u)) b = block_zero

-- the block of four columns of four bytes: its first and its last eight bytes as words
abbrev pub block_of : List (List ℕ) → Block
block_of columns = block (low_of columns) (high_of columns)

-- a leaf's element is its block
abbrev pub block_leaf : List (List ℕ) → Block
block_leaf columns = block_of columns

-- the sum and the product of noise values, which are bits
abbrev pub bit_add : ℕ → ℕ → ℕ
bit_add a b = (a + b) % 2

abbrev pub bit_mul : ℕ → ℕ → ℕ
bit_mul a b = (a * b) % 2

-- the group of blocks: every block is an element
abbrev pub block_group : Group
block_group = record { Of = Block; is_element = λ b. true; zero = block_zero; add = block_add; sub = block_sub }

-- the ring of bits: the elements are 0 and 1
abbrev pub bit_ring : Ring
bit_ring =
    record {
      group = record { Of = ℕ; is_element = λ b. ltb b 2; zero = 0; add = bit_add; sub = bit_add };
      one = 1;
      mul = bit_mul;
    }

-- bits scale blocks
abbrev pub blocks : Scaled bit_ring
blocks = record { group = block_group; scale = block_scale }

-- field 1
abbrev pub binary : Field
binary =
    record {
      ring = bit_ring;
      scaled = blocks;
      noise_values = one_word (λ b. b) (λ w. w);
      elements = two_words (λ b. b.low) (λ b. b.high) block;
    }
