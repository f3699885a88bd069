-- FIPS 197's worked examples, A.1, B and C.1, of its key expansion and cipher as `aes128` defines them, computed by the equal ones that
-- look up. Assumes nothing.
use mathlib.Core.Path.{◌≡◌, ap}
use mathlib.Core.List.{[], ◌∷◌}
use lib.ListN.{get_or}
use Rattle.aes_sbox.specs.Byte.{xtime}
use Rattle.aes128.specs.State.{xor_word, xor_state}
use Rattle.aes128.specs.Cipher.{shift_rows, power, keys_of, key_expansion, aes}
use Rattle.example.proofs.Cipher.{looked, looked_from, mix_by, sub_by, round_by, rounds_by, cipher_by, temp_by, words_by, looked_cipher, looked_words, looked_keys, keys_looked}
use Rattle.example.proofs.Made.{looked_aes, aes_looked}

-- A.1: the last round key of the key 2b7e1516 28aed2a6 abf71588 09cf4f3c
a1 : get_or (key_expansion ((0x2b ∷ 0x7e ∷ 0x15 ∷ 0x16 ∷ []) ∷ (0x28 ∷ 0xae ∷ 0xd2 ∷ 0xa6 ∷ []) ∷ (0xab ∷ 0xf7 ∷ 0x15 ∷ 0x88 ∷ []) ∷ (0x09 ∷ 0xcf ∷ 0x4f ∷ 0x3c ∷ []) ∷ [])) 10 [] ≡ ((0xd0 ∷ 0x14 ∷ 0xf9 ∷ 0xa8 ∷ []) ∷ (0xc9 ∷ 0xee ∷ 0x25 ∷ 0x89 ∷ []) ∷ (0xe1 ∷ 0x3f ∷ 0x0c ∷ 0xc8 ∷ []) ∷ (0xb6 ∷ 0x63 ∷ 0x0c ∷ 0xa6 ∷ []) ∷ [])
unfolding looked looked_from temp_by words_by looked_words looked_keys xtime xor_word power keys_of
a1 = ap (λ w. get_or w 10 []) (keys_looked _)

-- B: the cipher example
b : aes ((0x2b ∷ 0x7e ∷ 0x15 ∷ 0x16 ∷ []) ∷ (0x28 ∷ 0xae ∷ 0xd2 ∷ 0xa6 ∷ []) ∷ (0xab ∷ 0xf7 ∷ 0x15 ∷ 0x88 ∷ []) ∷ (0x09 ∷ 0xcf ∷ 0x4f ∷ 0x3c ∷ []) ∷ []) ((0x32 ∷ 0x43 ∷ 0xf6 ∷ 0xa8 ∷ []) ∷ (0x88 ∷ 0x5a ∷ 0x30 ∷ 0x8d ∷ []) ∷ (0x31 ∷ 0x31 ∷ 0x98 ∷ 0xa2 ∷ []) ∷ (0xe0 ∷ 0x37 ∷ 0x07 ∷ 0x34 ∷ []) ∷ []) ≡ ((0x39 ∷ 0x25 ∷ 0x84 ∷ 0x1d ∷ []) ∷ (0x02 ∷ 0xdc ∷ 0x09 ∷ 0xfb ∷ []) ∷ (0xdc ∷ 0x11 ∷ 0x85 ∷ 0x97 ∷ []) ∷ (0x19 ∷ 0x6a ∷ 0x0b ∷ 0x32 ∷ []) ∷ [])
unfolding looked looked_from mix_by sub_by round_by rounds_by cipher_by temp_by words_by looked_cipher looked_words looked_keys looked_aes xtime xor_word xor_state shift_rows power keys_of
b = aes_looked _ _

-- C.1: the example vectors
c1 : aes ((0x00 ∷ 0x01 ∷ 0x02 ∷ 0x03 ∷ []) ∷ (0x04 ∷ 0x05 ∷ 0x06 ∷ 0x07 ∷ []) ∷ (0x08 ∷ 0x09 ∷ 0x0a ∷ 0x0b ∷ []) ∷ (0x0c ∷ 0x0d ∷ 0x0e ∷ 0x0f ∷ []) ∷ []) ((0x00 ∷ 0x11 ∷ 0x22 ∷ 0x33 ∷ []) ∷ (0x44 ∷ 0x55 ∷ 0x66 ∷ 0x77 ∷ []) ∷ (0x88 ∷ 0x99 ∷ 0xaa ∷ 0xbb ∷ []) ∷ (0xcc ∷ 0xdd ∷ 0xee ∷ 0xff ∷ []) ∷ []) ≡ ((0x69 ∷ 0xc4 ∷ 0xe0 ∷ 0xd8 ∷ []) ∷ (0x6a ∷ 0x7b ∷ 0x04 ∷ 0x30 ∷ []) ∷ (0xd8 ∷ 0xcd ∷ 0xb7 ∷ 0x80 ∷ []) ∷ (0x70 ∷ 0xb4 ∷ 0xc5 ∷ 0x5a ∷ []) ∷ [])
unfolding looked looked_from mix_by sub_by round_by rounds_by cipher_by temp_by words_by looked_cipher looked_words looked_keys looked_aes xtime xor_word xor_state shift_rows power keys_of
c1 = aes_looked _ _
