-- The pad rule, computed at index 5 and the zero block. Its first step is AES-128 of the zero block under sixteen bytes FF, whose
-- published result (NIST's known answers for a varying key, the last of 128 bits) is A1F6258C 877D5FCD 89644845 38BFC92C; the
-- pad was computed from that by OpenSSL.
use mathlib.Core.Path.{◌≡◌, ap}
use mathlib.Core.List.{[], ◌∷◌}
use Rattle.aes_sbox.specs.Byte.{xtime}
use Rattle.aes128.specs.State.{xor_word, xor_state}
use Rattle.aes128.specs.Cipher.{shift_rows, power, keys_of}
use Rattle.field.specs.Binary.{block}
use Rattle.field.specs.Bytes.{le_bytes, le_number, columns_of, low_of, high_of}
use Rattle.pads.specs.Bytes.{block_bytes}
use Rattle.pads.specs.Pad.{pad_key, under_pad_key, pad}
use Rattle.example.proofs.Cipher.{looked, looked_from, mix_by, sub_by, round_by, rounds_by, cipher_by, temp_by, words_by, looked_cipher, looked_words, looked_keys}
use Rattle.example.proofs.Made.{looked_aes, looked_under, under_looked, pad_by, looked_pad, pad_looked}

pub first_step : block_bytes.words (under_pad_key (block 0 0))
    ≡ 0xa1 ∷ 0xf6 ∷ 0x25 ∷ 0x8c ∷ 0x87 ∷ 0x7d ∷ 0x5f ∷ 0xcd ∷ 0x89 ∷ 0x64 ∷ 0x48 ∷ 0x45 ∷ 0x38 ∷ 0xbf ∷ 0xc9 ∷ 0x2c ∷ []
unfolding looked looked_from mix_by sub_by round_by rounds_by cipher_by temp_by words_by looked_cipher looked_words looked_keys looked_aes looked_under xtime xor_word xor_state shift_rows power keys_of le_bytes le_number columns_of low_of high_of pad_key
first_step = ap block_bytes.words (under_looked (block 0 0))

pub both-steps : block_bytes.words (pad 5 (block 0 0))
    ≡ 0x1e ∷ 0xf8 ∷ 0x0a ∷ 0x04 ∷ 0x6c ∷ 0x99 ∷ 0x55 ∷ 0x8e ∷ 0x6b ∷ 0x88 ∷ 0x7a ∷ 0x01 ∷ 0x35 ∷ 0x19 ∷ 0xcf ∷ 0x77 ∷ []
unfolding looked looked_from mix_by sub_by round_by rounds_by cipher_by temp_by words_by looked_cipher looked_words looked_keys looked_aes looked_under pad_by looked_pad xtime xor_word xor_state shift_rows power keys_of le_bytes le_number columns_of low_of high_of pad_key
both-steps = ap (λ rule. block_bytes.words (rule 5 (block 0 0))) pad_looked
