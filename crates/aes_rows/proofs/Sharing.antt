-- What the blocks of x and i have in common in the first two rounds, for one x and every i below 256: the states that are made
-- for x and 0 serve each i. Assumes nothing.
use mathlib.Core.Path.{◌≡◌, refl, ◌∙◌, sym, ap}
use mathlib.Core.List.{List, [], ◌∷◌}
use Prim.Native.Nat.{ℕ, zero, suc, ◌+◌, ◌/◌, ◌%◌, ◌<◌}
use native.Mathlib.Omega.{arith}
use lib.Bits.{bit_xor, xor_comm}
use lib.Dec.{lit<}
use lib.ListN.{get_or}
use Rattle.field.specs.Bytes.{le_bytes, columns_of}
use Rattle.field.proofs.Xor.{xor_assoc}
use Rattle.aes_sbox.specs.Byte.{s_box}
use Rattle.aes_sbox.specs.Inner.Wide.{wide_rows}
use Rattle.aes_sbox.specs.Inner.Tables.{mixed}
use Rattle.aes128.specs.State.{column, byte_at, xor_word, xor_state}
use Rattle.aes128.specs.Cipher.{sub_bytes, shift_rows, mix_column, mix_columns, add_round_key, rounds}
use Rattle.aes128.specs.Inner.Words.{wide_key, block_key, round_keys}
use Rattle.aes128.specs.Inner.Steps.{full_round}
use Rattle.aes_rows.specs.Inner.Row.{column_of, Lacks, row_state, first_of, second_of, IsShared}
use Rattle.aes128.proofs.Words.{four_eq}
use Rattle.aes128.proofs.Wide.{wide-xor}

word_comm : (a b : List ℕ) → xor_word a b ≡ xor_word b a
unfolding xor_word
word_comm a b = four_eq (at 0) (at 1) (at 2) (at 3)
  where
    at : (r : ℕ) → bit_xor (get_or a r 0) (get_or b r 0) ≡ bit_xor (get_or b r 0) (get_or a r 0)
    at r = xor_comm (get_or a r 0) (get_or b r 0)

word_assoc : (a b c : List ℕ) → xor_word (xor_word a b) c ≡ xor_word a (xor_word b c)
unfolding xor_word
word_assoc a b c = four_eq (at 0) (at 1) (at 2) (at 3)
  where
    at : (r : ℕ) → bit_xor (bit_xor (get_or a r 0) (get_or b r 0)) (get_or c r 0) ≡ bit_xor (get_or a r 0) (bit_xor (get_or b r 0) (get_or c r 0))
    at r = xor_assoc (get_or a r 0) (get_or b r 0) (get_or c r 0)

word-left_comm : (a b c : List ℕ) → xor_word a (xor_word b c) ≡ xor_word b (xor_word a c)
word-left_comm a b c = sym (word_assoc a b c) ∙ ap (λ (v : List ℕ). xor_word v c) (word_comm a b) ∙ word_assoc b a c

-- a column of MixColumns is the sum of what its four bytes add
mix_sum : (a b c d : ℕ) → mix_column (s_box a ∷ s_box b ∷ s_box c ∷ s_box d ∷ []) ≡ xor_word (xor_word (xor_word (mixed 0 a) (mixed 1 b)) (mixed 2 c)) (mixed 3 d)
unfolding mix_column xor_word
mix_sum a b c d = refl

-- the sum of five words from any of the four that a column's bytes add
module _ (a b c d k : List ℕ) where
  from_b : xor_word (xor_word (xor_word (xor_word k b) c) d) a ≡ xor_word (xor_word (xor_word (xor_word a b) c) d) k
  from_b = simp (word_assoc, word_comm, word-left_comm)

  from_c : xor_word (xor_word (xor_word (xor_word k c) d) a) b ≡ xor_word (xor_word (xor_word (xor_word a b) c) d) k
  from_c = simp (word_assoc, word_comm, word-left_comm)

  from_d : xor_word (xor_word (xor_word (xor_word k d) a) b) c ≡ xor_word (xor_word (xor_word (xor_word a b) c) d) k
  from_d = simp (word_assoc, word_comm, word-left_comm)

  from_a : xor_word (xor_word (xor_word (xor_word k a) b) c) d ≡ xor_word (xor_word (xor_word (xor_word a b) c) d) k
  from_a = simp (word_assoc, word_comm)

-- a column lacks only what the byte in row r adds
pub lacks_row : (r : ℕ) (s : List (List ℕ)) (k ta tb tc : ℕ) {w : List ℕ} → r < 4 → w ≡ wide_rows (bit_xor (bit_xor (bit_xor k ta) tb) tc)
    → wide_rows ta ≡ mixed ((r + 1) % 4) (byte_at s ((r + 1) % 4) 3) → wide_rows tb ≡ mixed ((r + 2) % 4) (byte_at s ((r + 2) % 4) 0)
    → wide_rows tc ≡ mixed ((r + 3) % 4) (byte_at s ((r + 3) % 4) 1) → Lacks (mixed r) (column_of r s k) w
unfolding Lacks
lacks_row zero s k ta tb tc h e ea eb ec x = rw e (simp (wide-xor, ea, eb, ec, mix_sum) (from_b _ _ _ _ _))
lacks_row (suc zero) s k ta tb tc h e ea eb ec x = rw e (simp (wide-xor, ea, eb, ec, mix_sum) (from_c _ _ _ _ _))
lacks_row (suc (suc zero)) s k ta tb tc h e ea eb ec x = rw e (simp (wide-xor, ea, eb, ec, mix_sum) (from_d _ _ _ _ _))
lacks_row (suc (suc (suc zero))) s k ta tb tc h e ea eb ec x = rw e (simp (wide-xor, ea, eb, ec, mix_sum) (from_a _ _ _ _ _))
lacks_row (suc (suc (suc (suc r)))) s k ta tb tc h e ea eb ec x = absurd (omega arith)

-- the columns of a block whose second word is a byte
byte-columns : (x i : ℕ) → i < 256
    → columns_of x i ≡ le_bytes 4 x ∷ le_bytes 4 (x / 4294967296) ∷ (i ∷ 0 ∷ 0 ∷ 0 ∷ []) ∷ (0 ∷ 0 ∷ 0 ∷ 0 ∷ []) ∷ []
unfolding columns_of le_bytes
byte-columns x i h =
    let e0 : i % 256 ≡ i = omega arith in
    let e1 : i / 256 ≡ 0 = omega arith in
    let e2 : i / 4294967296 ≡ 0 = omega arith in
    rw (e0, e1, e2)

-- two states whose columns other than column 2 are the same
record Alike (s u : List (List ℕ)) : Type 0 where
  pub column0 : column s 0 ≡ column u 0
  pub column1 : column s 1 ≡ column u 1
  pub column3 : column s 3 ≡ column u 3

-- what a column lacks is made good by the byte of column 2
module _ {s u : List (List ℕ)} (alike : Alike s u) (k : ℕ) (w : List ℕ) where
  made_0 : Lacks (mixed 2) (column_of 2 s k) w
      → xor_word w (mixed 2 (byte_at u 2 2)) ≡ column_of 2 u k (byte_at u 2 2)
  unfolding Lacks
  made_0 l = rw (← alike.column0, ← alike.column1, ← alike.column3) (l (byte_at u 2 2))

  made_1 : Lacks (mixed 1) (column_of 1 s k) w
      → xor_word w (mixed 1 (byte_at u 1 2)) ≡ column_of 1 u k (byte_at u 1 2)
  unfolding Lacks
  made_1 l = rw (← alike.column0, ← alike.column1, ← alike.column3) (l (byte_at u 1 2))

  made_2 : Lacks (mixed 0) (column_of 0 s k) w
      → xor_word w (mixed 0 (byte_at u 0 2)) ≡ column_of 0 u k (byte_at u 0 2)
  unfolding Lacks
  made_2 l = rw (← alike.column0, ← alike.column1, ← alike.column3) (l (byte_at u 0 2))

  made_3 : Lacks (mixed 3) (column_of 3 s k) w
      → xor_word w (mixed 3 (byte_at u 3 2)) ≡ column_of 3 u k (byte_at u 3 2)
  unfolding Lacks
  made_3 l = rw (← alike.column0, ← alike.column1, ← alike.column3) (l (byte_at u 3 2))

module _ (keys : List ℕ) (x : ℕ) where
  -- the states of x and 0 and of x and i, after the first AddRoundKey and after round 1
  alike_0 : {i : ℕ} → i < 256 → Alike (row_state keys 0 x 0) (row_state keys 0 x i)
  unfolding rounds round_keys xor_state xor_word
  alike_0 {i} h = rw (byte-columns x 0 (lit< tt), byte-columns x i h) (record { column0 = refl; column1 = refl; column3 = refl })

  alike_1 : {i : ℕ} → i < 256 → Alike (row_state keys 1 x 0) (row_state keys 1 x i)
  unfolding rounds round_keys xor_state xor_word mix_columns shift_rows sub_bytes
  alike_1 {i} h = rw (byte-columns x 0 (lit< tt), byte-columns x i h) (record { column0 = refl; column1 = refl; column3 = refl })

  pub shared : {s0 s1 : List (List ℕ)} {first c0 c1 c2 c3 : List ℕ} → s1 ≡ full_round s0 (wide_key keys 2)
      → s0 ≡ add_round_key (columns_of x 0) (block_key keys 0) → Lacks (mixed 0) (column_of 0 s0 (get_or keys 4 0)) first
      → Lacks (mixed 2) (column_of 2 s1 (get_or keys 6 0)) c0 → Lacks (mixed 1) (column_of 1 s1 (get_or keys 7 0)) c1
      → Lacks (mixed 0) (column_of 0 s1 (get_or keys 8 0)) c2 → Lacks (mixed 3) (column_of 3 s1 (get_or keys 9 0)) c3
      → IsShared keys x ((column s1 0 ∷ column s1 1 ∷ first ∷ column s1 3 ∷ []) ∷ (c0 ∷ c1 ∷ c2 ∷ c3 ∷ []) ∷ [])
  unfolding first_of second_of rounds round_keys xor_state mix_columns shift_rows sub_bytes
  shared {s0 = s} {s1 = t} et es lf l0 l1 l2 l3 =
      let e0 : s ≡ row_state keys 0 x 0 = es in
      let e1 : t ≡ row_state keys 1 x 0 = et ∙ rw es in
      record {
        round1 = λ i h.
            let one = rw (← e1) at (alike_1 h) in
            four_eq one.column0 one.column1 (made_2 (rw (← e0) at (alike_0 h)) _ _ lf) one.column3;
        round2 = λ i h.
            let one = rw (← e1) at (alike_1 h) in
            four_eq (made_0 one _ _ l0) (made_1 one _ _ l1) (made_2 one _ _ l2) (made_3 one _ _ l3);
      }
