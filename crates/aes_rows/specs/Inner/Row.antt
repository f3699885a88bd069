-- Inner: no promise cites this file. What the blocks of x and i have in common in the first two rounds, for one x and every i
-- below 256: after the first AddRoundKey they differ in row 0 of column 2 alone, so after round 1 in column 2 alone, whose rows
-- go to one output column of round 2 each.
use Rattle.std.specs.Prelude.{◌≡◌, List, [], ◌∷◌, ℕ, zero, suc, ◌<◌, get_or}
use Rattle.field.specs.Bytes.{columns_of}
use Rattle.aes_sbox.specs.Byte.{s_box}
use Rattle.aes_sbox.specs.Inner.Wide.{wide_rows}
use Rattle.aes_sbox.specs.Inner.Tables.{mixed}
use Rattle.aes128.specs.State.{column, byte_at, xor_word}
use Rattle.aes128.specs.Cipher.{mix_column, rounds}
use Rattle.aes128.specs.Inner.Words.{round_keys}

-- a column of a round: SubBytes and MixColumns of four bytes, and the round key's column
abbrev pub mixed_column : ℕ → ℕ → ℕ → ℕ → ℕ → List ℕ
mixed_column a b c d k = xor_word (mix_column (s_box a ∷ s_box b ∷ s_box c ∷ s_box d ∷ [])) (wide_rows k)

-- the column of a round of a state to which the byte of column 2 in a row goes, with the round key's column k and with x for that byte
abbrev pub column_of : ℕ → List (List ℕ) → ℕ → ℕ → List ℕ
column_of zero s k x = mixed_column x (byte_at s 1 3) (byte_at s 2 0) (byte_at s 3 1) k
column_of (suc zero) s k x = mixed_column (byte_at s 0 1) x (byte_at s 2 3) (byte_at s 3 0) k
column_of (suc (suc zero)) s k x = mixed_column (byte_at s 0 0) (byte_at s 1 1) x (byte_at s 3 3) k
column_of (suc (suc (suc row))) s k x = mixed_column (byte_at s 0 3) (byte_at s 1 0) (byte_at s 2 1) x k

-- a column lacks only what a byte adds: with that, for any byte, it is the column
unfoldable pub Lacks : (ℕ → List ℕ) → (ℕ → List ℕ) → List ℕ → Type 0
Lacks mixed column w = (x : ℕ) → xor_word w (mixed x) ≡ column x

-- the state of the block of x and i after the first AddRoundKey and n rounds
abbrev pub row_state : List ℕ → ℕ → ℕ → ℕ → List (List ℕ)
row_state keys n x i = rounds (round_keys keys) n (columns_of x i)

-- a state with what the byte b in row 0 of column 2 adds in round 1
unfoldable pub first_of : List (List ℕ) → ℕ → List (List ℕ)
first_of s b = column s 0 ∷ column s 1 ∷ xor_word (column s 2) (mixed 0 b) ∷ column s 3 ∷ []

-- a state with what the bytes of column 2, w, add in round 2
unfoldable pub second_of : List (List ℕ) → List ℕ → List (List ℕ)
second_of s w =
    xor_word (column s 0) (mixed 2 (get_or w 2 0))
    ∷ xor_word (column s 1) (mixed 1 (get_or w 1 0))
    ∷ xor_word (column s 2) (mixed 0 (get_or w 0 0))
    ∷ xor_word (column s 3) (mixed 3 (get_or w 3 0))
    ∷ []

-- two shared states: with what the bytes that differ add, each is the state after its round
pub record IsShared (keys : List ℕ) (x : ℕ) (s : List (List (List ℕ))) : Type 0 where
  pub round1 : (i : ℕ) → i < 256 → first_of (get_or s 0 []) (byte_at (row_state keys 0 x i) 0 2) ≡ row_state keys 1 x i
  pub round2 : (i : ℕ) → i < 256 → second_of (get_or s 1 []) (column (row_state keys 1 x i) 2) ≡ row_state keys 2 x i
