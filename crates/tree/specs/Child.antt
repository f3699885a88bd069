-- The child function (document 01, 'Trees'), under AES-128, and under any family of round keys (document 02, 3).
use Rattle.std.specs.Prelude.{List, ℕ}
use Rattle.aes128.specs.State.{four, xor_state}
use Rattle.aes128.specs.Cipher.{cipher, aes}

-- the child keys, child c's of sixteen bytes c: 16 bytes 00 for left, 16 bytes 01 for right
abbrev pub child_key : ℕ → List (List ℕ)
child_key c = four (λ column. four (λ row. c))

-- child c of block s is E(k, s) exclusive-or s, where k is the key of child c
unfoldable pub child : ℕ → List (List ℕ) → List (List ℕ)
child c s = xor_state (aes (child_key c) s) s

-- child c of block s under a family of round keys, by the child's number: the cipher under the round keys of child c, exclusive-or s
unfoldable pub child_by : (ℕ → List (List (List ℕ))) → ℕ → List (List ℕ) → List (List ℕ)
child_by keys c s = xor_state (cipher (keys c) s) s
