-- Inner: no promise cites this file. A column of four bytes in a word of 64 bits.
use Rattle.std.specs.Prelude.{List, [], ◌∷◌, ℕ, ◌/◌, ◌%◌, ◌^◌}

-- the four rows of a wide column: its bytes stand at bits 0, 24, 32 and 56
unfoldable pub wide_rows : ℕ → List ℕ
wide_rows w = w % 2 ^ 8 ∷ w / 2 ^ 24 % 2 ^ 8 ∷ w / 2 ^ 32 % 2 ^ 8 ∷ w / 2 ^ 56 % 2 ^ 8 ∷ []
