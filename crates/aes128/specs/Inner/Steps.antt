-- Inner: no promise cites this file. What the inner functions compute.
use Rattle.std.specs.Prelude.{List, [], ◌∷◌, ℕ, ◌+◌, ◌%◌}
use Rattle.aes_sbox.specs.Byte.{s_box}
use Rattle.aes128.specs.State.{column, byte_at, xor_word}
use Rattle.aes128.specs.Cipher.{sub_bytes, shift_rows, mix_columns, add_round_key, rot_word, sub_word}

-- column c of a state after SubBytes and ShiftRows
abbrev pub sub_shifted : List (List ℕ) → ℕ → List ℕ
sub_shifted s c =
    s_box (byte_at s 0 c)
    ∷ s_box (byte_at s 1 ((c + 1) % 4))
    ∷ s_box (byte_at s 2 ((c + 2) % 4))
    ∷ s_box (byte_at s 3 ((c + 3) % 4))
    ∷ []

-- the state s after a round with all four steps, under the round key k
abbrev pub full_round : List (List ℕ) → List (List ℕ) → List (List ℕ)
full_round s k = add_round_key (mix_columns (shift_rows (sub_bytes s))) k

-- the round key after k, whose round constant has the first byte x
unfoldable pub next_key : ℕ → List (List ℕ) → List (List ℕ)
next_key x k =
    let w0 = xor_word (column k 0) (xor_word (sub_word (rot_word (column k 3))) (x ∷ 0 ∷ 0 ∷ 0 ∷ [])) in
    let w1 = xor_word (column k 1) w0 in
    let w2 = xor_word (column k 2) w1 in
    let w3 = xor_word (column k 3) w2 in
    w0 ∷ w1 ∷ w2 ∷ w3 ∷ []
