-- Inner: no promise cites this file. The tables that the rounds read, which join the S-box with MixColumns (FIPS 197, 5.1.1 and 5.1.3).
use Rattle.std.specs.Prelude.{◌≡◌, List, [], ◌∷◌, ℕ, zero, suc, ◌+◌, ◌*◌, ◌/◌, ◌%◌, ◌^◌, ◌<◌, get_or}
use Rattle.aes_sbox.specs.Byte.{mul_bytes, s_box}
use Rattle.aes_sbox.specs.Inner.Wide.{wide_rows}

-- what the byte x in a row adds to the rows of its column under SubBytes and MixColumns
abbrev pub mixed : ℕ → ℕ → List ℕ
mixed zero x = mul_bytes 2 (s_box x) ∷ s_box x ∷ s_box x ∷ mul_bytes 3 (s_box x) ∷ []
mixed (suc zero) x = mul_bytes 3 (s_box x) ∷ mul_bytes 2 (s_box x) ∷ s_box x ∷ s_box x ∷ []
mixed (suc (suc zero)) x = s_box x ∷ mul_bytes 3 (s_box x) ∷ mul_bytes 2 (s_box x) ∷ s_box x ∷ []
mixed (suc (suc (suc row))) x = s_box x ∷ s_box x ∷ mul_bytes 3 (s_box x) ∷ mul_bytes 2 (s_box x) ∷ []

-- the wide column of four bytes
abbrev pub wide_column : ℕ → ℕ → ℕ → ℕ → ℕ
wide_column a b c d = a + b * 2 ^ 24 + c * 2 ^ 32 + d * 2 ^ 56

-- a wide column whose rows moved down by two
abbrev pub half_turned : ℕ → ℕ
half_turned w = w % 2 ^ 32 * 2 ^ 32 + w / 2 ^ 32

-- the tables: for each row, those four bytes as a wide column; then the S-box's value at each byte's place in a half word, rows
-- 0 and 1 in the halves of one entry, rows 2 and 3 in those of another
pub record RoundTables (t : List ℕ) : Type 0 where
  pub mix : (row x : ℕ) → row < 4 → x < 256 → wide_rows (get_or t (256 * row + x) 0) ≡ mixed row x
  pub low : (x : ℕ) → x < 256 → get_or t (1024 + x) 0 ≡ s_box x + s_box x * 2 ^ 40
  pub high : (x : ℕ) → x < 256 → get_or t (1280 + x) 0 ≡ s_box x * 2 ^ 16 + s_box x * 2 ^ 56
