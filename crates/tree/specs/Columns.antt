-- Blocks in bytes: byte 4c + r of a block is row r of column c (FIPS 197, 3.4).
use Rattle.std.specs.Prelude.{List, [], ◌∷◌, ◌++◌, ℕ, zero, suc, ◌+◌}
use Rattle.aes128.specs.State.{column}
use Rattle.field.specs.Bytes.{four_at}

-- the block whose sixteen bytes begin at a place
unfoldable pub columns_at : List ℕ → ℕ → List (List ℕ)
columns_at bytes at =
    four_at bytes at [] ∷ four_at bytes (at + 4) [] ∷ four_at bytes (at + 8) [] ∷ four_at bytes (at + 12) [] ∷ []

-- the sixteen bytes of a block
unfoldable pub columns_bytes : List (List ℕ) → List ℕ
columns_bytes s = four_at (column s 0) 0 (four_at (column s 1) 0 (four_at (column s 2) 0 (four_at (column s 3) 0 [])))

-- the bytes of blocks, one after another
unfoldable pub blocks_bytes : List (List (List ℕ)) → List ℕ
blocks_bytes [] = []
blocks_bytes (s ∷ blocks) = columns_bytes s ++ blocks_bytes blocks

-- the n siblings whose bytes begin at a place
unfoldable pub siblings_at : List ℕ → ℕ → ℕ → List (List (List ℕ))
siblings_at bytes at zero = []
siblings_at bytes at (suc n) = columns_at bytes at ∷ siblings_at bytes (at + 16) n
