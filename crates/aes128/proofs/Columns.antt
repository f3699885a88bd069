-- Blocks of two words as columns of bytes. Assumes nothing.
use mathlib.Core.Path.{◌≡◌, ◌∙◌, sym, ap}
use mathlib.Core.List.{List, [], ◌∷◌}
use Prim.Native.Nat.{ℕ, zero, suc, ◌+◌, ◌*◌, ◌/◌, ◌%◌, ◌<◌}
use native.Mathlib.Omega.{arith}
use lib.Bits.{bit_xor, xor_shr, xor_mod}
use lib.Dec.{lit<}
use lib.ListN.{length, get_or, take, drop}
use lib.Pow.{shr-shr}
use Rattle.field.specs.Bytes.{le_number, le_bytes, columns_of, four_at, low_of, high_of}
use Rattle.field.proofs.ByteWords.{le_bytes-le_number}
use Rattle.aes128.specs.State.{xor_word, xor_state}
use Rattle.aes128.specs.Inner.Blocks.{IsHalf}
use Rattle.aes128.specs.Inner.Sizes.{IsWord, IsState}
use Rattle.aes128.proofs.Words.{is_four, four_eq}

-- the bytes of an exclusive or
pub le_xor : (a b : ℕ) → le_bytes 4 (bit_xor a b) ≡ xor_word (le_bytes 4 a) (le_bytes 4 b)
unfolding le_bytes xor_word
le_xor a b =
    let d1 = xor_shr a b 8 in
    let d2 = ap (λ (v : ℕ). v / 256) d1 ∙ xor_shr (a / 256) (b / 256) 8 in
    let d3 = ap (λ (v : ℕ). v / 256) d2 ∙ xor_shr (a / 256 / 256) (b / 256 / 256) 8 in
    four_eq (xor_mod a b 8)
    (ap (λ (v : ℕ). v % 256) d1 ∙ xor_mod (a / 256) (b / 256) 8)
    (ap (λ (v : ℕ). v % 256) d2 ∙ xor_mod (a / 256 / 256) (b / 256 / 256) 8)
    (ap (λ (v : ℕ). v % 256) d3 ∙ xor_mod (a / 256 / 256 / 256) (b / 256 / 256 / 256) 8)

-- the columns of an exclusive or
pub columns-xor : (a b x y : ℕ) → columns_of (bit_xor a b) (bit_xor x y) ≡ xor_state (columns_of a x) (columns_of b y)
unfolding columns_of xor_state
columns-xor a b x y =
    four_eq (le_xor a b) (ap (le_bytes 4) (xor_shr a b 32) ∙ le_xor (a / 4294967296) (b / 4294967296))
    (le_xor x y) (ap (le_bytes 4) (xor_shr x y 32) ∙ le_xor (x / 4294967296) (y / 4294967296))

quarters : (x : ℕ) → x / 256 / 256 / 256 / 256 ≡ x / 4294967296
quarters x =
    ap (λ (v : ℕ). v / 256 / 256) (shr-shr x 8 8) ∙ ap (λ (v : ℕ). v / 256) (shr-shr x 16 8) ∙ shr-shr x 24 8

module _ {a b : List ℕ} (ha : IsWord a) (hb : IsWord b) where
  abbrev eight : List ℕ
  eight = four_at a 0 (four_at b 0 [])

  eight-bytes : (k : ℕ) → k < 8 → get_or eight k 0 < 256
  eight-bytes zero h = ha.bytes 0
  eight-bytes (suc zero) h = ha.bytes 1
  eight-bytes (suc (suc zero)) h = ha.bytes 2
  eight-bytes (suc (suc (suc zero))) h = ha.bytes 3
  eight-bytes (suc (suc (suc (suc zero)))) h = hb.bytes 0
  eight-bytes (suc (suc (suc (suc (suc zero))))) h = hb.bytes 1
  eight-bytes (suc (suc (suc (suc (suc (suc zero)))))) h = hb.bytes 2
  eight-bytes (suc (suc (suc (suc (suc (suc (suc zero))))))) h = hb.bytes 3
  eight-bytes (suc (suc (suc (suc (suc (suc (suc (suc k)))))))) h = absurd (omega arith)

  first-four : le_bytes 4 (le_number eight) ≡ a
  unfolding le_bytes
  first-four = ap (take 4) (le_bytes-le_number eight eight-bytes) ∙ sym (is_four 0 a ha.size)

  last-four : le_bytes 4 (le_number eight / 4294967296) ≡ b
  unfolding le_bytes
  last-four = ap (le_bytes 4) (sym (quarters (le_number eight))) ∙ ap (drop 4) (le_bytes-le_number eight eight-bytes) ∙ sym (is_four 0 b hb.size)

-- the columns of a state's block are the state
pub columns_of_block : (s : List (List ℕ)) → IsState s → columns_of (low_of s) (high_of s) ≡ s
unfolding columns_of low_of high_of
columns_of_block s h =
    let w0 = h.words 0 (lit< tt) in
    let w1 = h.words 1 (lit< tt) in
    let w2 = h.words 2 (lit< tt) in
    let w3 = h.words 3 (lit< tt) in
    four_eq (first-four w0 w1) (last-four w0 w1) (first-four w2 w3) (last-four w2 w3) ∙ sym (is_four [] s h.size)

-- the number of a column's four bytes
pub half_made : (l : List ℕ) → length l ≡ 4 → get_or l 0 0 < 256 → get_or l 1 0 < 256 → get_or l 2 0 < 256 → get_or l 3 0 < 256
    → IsHalf (get_or l 0 0 + get_or l 1 0 * 256 + get_or l 2 0 * 65536 + get_or l 3 0 * 16777216) l
unfolding le_bytes
half_made l e p q r s = record { bytes = digits _ _ _ _ p q r s ∙ sym (is_four 0 l e); below = omega arith }
  where
    digits : (a b x y : ℕ) → a < 256 → b < 256 → x < 256 → y < 256 → le_bytes 4 (a + b * 256 + x * 65536 + y * 16777216) ≡ a ∷ b ∷ x ∷ y ∷ []
    digits a b x y p q r s = four_eq (omega arith) (omega arith) (omega arith) (omega arith)
