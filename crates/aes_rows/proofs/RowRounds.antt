-- The rounds of the blocks of x and i: the first two from what the blocks share, and those after them. Assumes nothing.
use mathlib.Core.Path.{◌≡◌, ◌∙◌, ap, ap₂}
use mathlib.Core.List.{List, []}
use Prim.Native.Nat.{ℕ, ◌%◌, ◌<◌}
use lib.Bits.{bit_xor, xor_mod}
use lib.ListN.{get_or}
use Rattle.field.specs.Bytes.{le_bytes, columns_of}
use Rattle.aes_sbox.specs.Inner.Wide.{wide_rows}
use Rattle.aes128.specs.State.{column, byte_at, xor_word, xor_state}
use Rattle.aes128.specs.Cipher.{rounds}
use Rattle.aes128.specs.Inner.Words.{round_keys}
use Rattle.aes_rows.specs.Inner.Row.{row_state, first_of, second_of, IsShared}
use Rattle.aes128.proofs.Wide.{wide-xor}

-- a column with what a byte adds, from its wide column
pub entered : (s : List (List ℕ)) (c v w : ℕ) {r m : List ℕ} → r ≡ wide_rows (bit_xor v w)
    → wide_rows v ≡ column s c → wide_rows w ≡ m → r ≡ xor_word (column s c) m
entered s c v w e f g = e ∙ wide-xor v w ∙ ap₂ xor_word f g

module _ (keys : List ℕ) (x i : ℕ) where
  -- the one byte of the block after the first AddRoundKey that depends on i
  start-byte : bit_xor i (get_or keys 1 0) % 256 ≡ byte_at (row_state keys 0 x i) 0 2
  unfolding rounds round_keys xor_state xor_word columns_of le_bytes
  start-byte = xor_mod i (get_or keys 1 0) 8

  -- rounds 1 and 2, from the shared states
  pub two_rounds : {s : List (List (List ℕ))} {s1 s2 : List (List ℕ)} → IsShared keys x s → i < 256
      → s1 ≡ first_of (get_or s 0 []) (bit_xor i (get_or keys 1 0) % 256) → s2 ≡ second_of (get_or s 1 []) (column s1 2) → s2 ≡ row_state keys 2 x i
  two_rounds {s} is h e1 e2 =
      let f = e1 ∙ ap (first_of (get_or s 0 [])) start-byte ∙ is.round1 i h in
      e2 ∙ ap (λ (v : List (List ℕ)). second_of (get_or s 1 []) (column v 2)) f ∙ is.round2 i h
