-- FIPS 197 for a key of 128 bits: Cipher (5.1) and KeyExpansion (5.2), with the S-box by its rule.
use Rattle.std.specs.Prelude.{List, [], ◌∷◌, ◌++◌, ℕ, zero, suc, ◌+◌, ◌-◌, ◌*◌, ◌/◌, ◌%◌, eqb, get_or}
use Rattle.std.specs.Int.Bits.{bit_xor}
use Rattle.algebra.specs.Choice.{choose}
use Rattle.aes_sbox.specs.Byte.{xtime, mul_bytes, s_box}
use Rattle.aes128.specs.State.{four, column, byte_at, xor_word, xor_state}

-- FIPS 197, 5.1.1: SubBytes
unfoldable pub sub_bytes : List (List ℕ) → List (List ℕ)
sub_bytes s = four (λ c. four (λ r. s_box (byte_at s r c)))

-- FIPS 197, 5.1.2: ShiftRows: row r moves r places to the left
unfoldable pub shift_rows : List (List ℕ) → List (List ℕ)
shift_rows s = four (λ c. four (λ r. byte_at s r ((c + r) % 4)))

-- FIPS 197, 5.1.3: one column of MixColumns
unfoldable pub mix_column : List ℕ → List ℕ
mix_column s =
    let s0 = get_or s 0 0 in
    let s1 = get_or s 1 0 in
    let s2 = get_or s 2 0 in
    let s3 = get_or s 3 0 in
    bit_xor (bit_xor (bit_xor (mul_bytes 2 s0) (mul_bytes 3 s1)) s2) s3
    ∷ bit_xor (bit_xor (bit_xor s0 (mul_bytes 2 s1)) (mul_bytes 3 s2)) s3
    ∷ bit_xor (bit_xor (bit_xor s0 s1) (mul_bytes 2 s2)) (mul_bytes 3 s3)
    ∷ bit_xor (bit_xor (bit_xor (mul_bytes 3 s0) s1) s2) (mul_bytes 2 s3)
    ∷ []

-- FIPS 197, 5.1.3: MixColumns
unfoldable pub mix_columns : List (List ℕ) → List (List ℕ)
mix_columns s = four (λ c. mix_column (column s c))

-- FIPS 197, 5.1.4: AddRoundKey
abbrev pub add_round_key : List (List ℕ) → List (List ℕ) → List (List ℕ)
add_round_key s k = xor_state s k

-- round key i of the key schedule w
abbrev pub round_key : List (List (List ℕ)) → ℕ → List (List ℕ)
round_key w i = get_or w i []

-- FIPS 197, 5.1: the state after the first AddRoundKey and n rounds
unfoldable pub rounds : List (List (List ℕ)) → ℕ → List (List ℕ) → List (List ℕ)
rounds w zero s = add_round_key s (round_key w 0)
rounds w (suc n) s = add_round_key (mix_columns (shift_rows (sub_bytes (rounds w n s)))) (round_key w (suc n))

-- FIPS 197, 5.1: Cipher: nine rounds, and the last one without MixColumns
unfoldable pub cipher : List (List (List ℕ)) → List (List ℕ) → List (List ℕ)
cipher w s = add_round_key (shift_rows (sub_bytes (rounds w 9 s))) (round_key w 10)

-- FIPS 197, 5.2: RotWord
abbrev pub rot_word : List ℕ → List ℕ
rot_word a = four (λ r. get_or a ((r + 1) % 4) 0)

-- FIPS 197, 5.2: SubWord
abbrev pub sub_word : List ℕ → List ℕ
sub_word a = four (λ r. s_box (get_or a r 0))

-- FIPS 197, 5.2: x^n
unfoldable pub power : ℕ → ℕ
power zero = 1
power (suc n) = xtime (power n)

-- FIPS 197, 5.2: the word Rcon[i], whose first byte is x^(i - 1)
abbrev pub rcon : ℕ → List ℕ
rcon i = power (i - 1) ∷ 0 ∷ 0 ∷ 0 ∷ []

-- FIPS 197, 5.2: what is added to w[i - 4], from w[i - 1]
unfoldable pub temp : ℕ → List ℕ → List ℕ
temp i t = choose (eqb (i % 4) 0) (xor_word (sub_word (rot_word t)) (rcon (i / 4))) t

-- FIPS 197, 5.2: w[i], from the words before it
abbrev pub next_word : ℕ → List (List ℕ) → List ℕ
next_word i w = xor_word (get_or w (i - 4) []) (temp i (get_or w (i - 1) []))

-- FIPS 197, 5.2: the words w[0] to w[n + 3]
unfoldable pub schedule_words : List (List ℕ) → ℕ → List (List ℕ)
schedule_words key zero = key
schedule_words key (suc n) = schedule_words key n ++ (next_word (n + 4) (schedule_words key n) ∷ [])

-- the words 4i to 4i + 3, as round key i
abbrev pub key_of : List (List ℕ) → ℕ → List (List ℕ)
key_of w i = four (λ c. get_or w (4 * i + c) [])

-- the first n round keys
unfoldable pub keys_of : List (List ℕ) → ℕ → List (List (List ℕ))
keys_of w zero = []
keys_of w (suc n) = keys_of w n ++ (key_of w n ∷ [])

-- FIPS 197, 5.2: KeyExpansion: the forty-four words, as eleven round keys
unfoldable pub key_expansion : List (List ℕ) → List (List (List ℕ))
key_expansion key = keys_of (schedule_words key 40) 11

-- E(key, block)
unfoldable pub aes : List (List ℕ) → List (List ℕ) → List (List ℕ)
aes key block = cipher (key_expansion key) block
