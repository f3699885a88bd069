-- Inner: no promise cites this file. Round keys as the cipher takes them: forty words. Two hold round key 0 as a block, four each of
-- the round keys 1 to 9 as wide columns, and two round key 10 as a block.
use Rattle.std.specs.Prelude.{List, [], ◌∷◌, ℕ, ◌+◌, get_or}
use Rattle.field.specs.Bytes.{columns_of}
use Rattle.aes_sbox.specs.Inner.Wide.{wide_rows}
use Rattle.aes128.specs.State.{four}

-- the round key that four words hold as wide columns
abbrev pub wide_key : List ℕ → ℕ → List (List ℕ)
wide_key words at = four (λ c. wide_rows (get_or words (at + c) 0))

-- the round key that two words hold as a block
abbrev pub block_key : List ℕ → ℕ → List (List ℕ)
block_key words at = columns_of (get_or words at 0) (get_or words (at + 1) 0)

-- the eleven round keys that forty words hold
unfoldable pub round_keys : List ℕ → List (List (List ℕ))
round_keys words =
    block_key words 0
    ∷ wide_key words 2
    ∷ wide_key words 6
    ∷ wide_key words 10
    ∷ wide_key words 14
    ∷ wide_key words 18
    ∷ wide_key words 22
    ∷ wide_key words 26
    ∷ wide_key words 30
    ∷ wide_key words 34
    ∷ block_key words 38
    ∷ []
