-- The last round: its columns two to a word. Assumes nothing.
use mathlib.Core.Path.{◌≡◌, refl, ◌∙◌, ap}
use mathlib.Core.List.{List, [], ◌∷◌}
use Prim.Native.Nat.{ℕ, ◌+◌, ◌*◌, ◌/◌, ◌%◌, ◌^◌, ◌<◌}
use native.Mathlib.Omega.{arith}
use lib.Bits.{bit_xor, xor_comm, xor_shifted, xor_shr, xor_zero_r}
use Rattle.field.specs.Bytes.{le_bytes, columns_of}
use Rattle.aes_sbox.specs.Byte.{s_box}
use Rattle.aes_sbox.proofs.Bounds.{sbox_lt}
use Rattle.aes128.specs.State.{xor_word, xor_state}
use Rattle.aes128.specs.Inner.Blocks.{IsHalf, LastWord}
use Rattle.aes128.proofs.Words.{four_eq}
use Rattle.aes128.proofs.Wide.{xor_swap}
use Rattle.aes128.proofs.Columns.{le_xor, half_made}

apart : (x k r : ℕ) → r < 2 ^ k → bit_xor r (x * 2 ^ k) ≡ x * 2 ^ k + r
apart x k r h = xor_comm r (x * 2 ^ k) ∙ xor_shifted x k r h

-- four bytes at their places in a word
four-placed : (p q r s : ℕ) → p < 256 → q < 256 → r < 256
    → bit_xor (bit_xor (bit_xor p (s * 2 ^ 24)) (q * 2 ^ 8)) (r * 2 ^ 16) ≡ p + q * 256 + r * 65536 + s * 16777216
four-placed p q r s hp hq hr =
    ap (λ v. bit_xor v (r * 2 ^ 16)) (xor_swap p (s * 2 ^ 24) (q * 2 ^ 8))
    ∙ xor_swap (bit_xor p (q * 2 ^ 8)) (s * 2 ^ 24) (r * 2 ^ 16)
    ∙ ap (λ v. bit_xor (bit_xor v (r * 2 ^ 16)) (s * 2 ^ 24)) (apart q 8 p hp)
    ∙ ap (λ v. bit_xor v (s * 2 ^ 24)) (apart r 16 (q * 2 ^ 8 + p) (omega arith))
    ∙ apart s 24 (r * 2 ^ 16 + (q * 2 ^ 8 + p)) (omega arith)
    ∙ omega arith

-- a column of the last round, from the four bytes' places in the halves of words
pub last-column : (a b x y : ℕ) {ta tb tx ty : ℕ} → ta ≡ s_box a + s_box a * 2 ^ 40 → tb ≡ s_box b + s_box b * 2 ^ 40
    → tx ≡ s_box x * 2 ^ 16 + s_box x * 2 ^ 56 → ty ≡ s_box y * 2 ^ 16 + s_box y * 2 ^ 56
    → IsHalf (bit_xor (bit_xor (bit_xor (ta % 2 ^ 32) (ty / 2 ^ 32)) (tb / 2 ^ 32)) (tx % 2 ^ 32)) (s_box a ∷ s_box b ∷ s_box x ∷ s_box y ∷ [])
last-column a b x y {ta} {tb} {tx} {ty} ea eb ex ey =
    let e = four-placed (s_box a) (s_box b) (s_box x) (s_box y) (sbox_lt a) (sbox_lt b) (sbox_lt x) in
    let h = half_made (s_box a ∷ s_box b ∷ s_box x ∷ s_box y ∷ []) refl (sbox_lt a) (sbox_lt b) (sbox_lt x) (sbox_lt y) in
    let pa : ta % 2 ^ 32 ≡ s_box a = omega (arith, sbox_lt a) in
    let pb : tb / 2 ^ 32 ≡ s_box b * 2 ^ 8 = omega (arith, sbox_lt b) in
    let px : tx % 2 ^ 32 ≡ s_box x * 2 ^ 16 = omega (arith, sbox_lt x) in
    let py : ty / 2 ^ 32 ≡ s_box y * 2 ^ 24 = omega (arith, sbox_lt y) in
    rw (pa, pb, px, py, e) h

module _ (k : ℕ) {c0 c1 : ℕ} (h0 : c0 < 2 ^ 32) (h1 : c1 < 2 ^ 32) where
  abbrev sum : ℕ
  sum = bit_xor (bit_xor k c0) (c1 * 2 ^ 32)

  none : le_bytes 4 (c1 * 2 ^ 32) ≡ 0 ∷ 0 ∷ 0 ∷ 0 ∷ []
  unfolding le_bytes
  none =
      let d1 : c1 * 2 ^ 32 / 256 ≡ c1 * 16777216 = omega arith in
      let d2 : c1 * 2 ^ 32 / 256 / 256 ≡ c1 * 65536 = omega arith in
      let d3 : c1 * 2 ^ 32 / 256 / 256 / 256 ≡ c1 * 256 = omega arith in
      four_eq (omega arith) (rw d1 (omega arith)) (rw d2 (omega arith)) (rw d3 (omega arith))

  xor-none : (a b : List ℕ) → xor_word (xor_word a b) (0 ∷ 0 ∷ 0 ∷ 0 ∷ []) ≡ xor_word b a
  unfolding xor_word
  xor-none a b = simp (xor_zero_r, xor_comm)

  low_sum : le_bytes 4 sum ≡ xor_word (le_bytes 4 c0) (le_bytes 4 k)
  low_sum = le_xor (bit_xor k c0) (c1 * 2 ^ 32) ∙ rw (le_xor k c0, none) (xor-none (le_bytes 4 k) (le_bytes 4 c0))

  high_sum : sum / 2 ^ 32 ≡ bit_xor c1 (k / 2 ^ 32)
  high_sum =
      let z : c0 / 2 ^ 32 ≡ 0 = omega arith in
      let o : c1 * 2 ^ 32 / 2 ^ 32 ≡ c1 = omega arith in
      xor_shr (bit_xor k c0) (c1 * 2 ^ 32) 32
      ∙ rw (o, xor_shr k c0 32, z, xor_zero_r (k / 2 ^ 32)) (xor_comm (k / 2 ^ 32) c1)

  sum_is : LastWord k (le_bytes 4 c0) (le_bytes 4 c1) sum
  sum_is = record { low = low_sum; high = ap (le_bytes 4) high_sum ∙ le_xor c1 (k / 2 ^ 32) }

  -- a word of the last round, as the code computes it
  pub last_word : LastWord k (le_bytes 4 c0) (le_bytes 4 c1) (bit_xor (bit_xor k c0) (c1 * 2 ^ 32 % 2 ^ 64))
  last_word =
      let e : c1 * 2 ^ 32 % 2 ^ 64 ≡ c1 * 2 ^ 32 = omega arith in
      rw e sum_is

-- the state after the last round, from its four columns in two words
pub last-state : {k h c0 c1 c2 c3 x y : ℕ} {w0 w1 w2 w3 : List ℕ} {r : List (List ℕ)} → r ≡ columns_of x y
    → LastWord k (le_bytes 4 c0) (le_bytes 4 c1) x → LastWord h (le_bytes 4 c2) (le_bytes 4 c3) y
    → IsHalf c0 w0 → IsHalf c1 w1 → IsHalf c2 w2 → IsHalf c3 w3 → r ≡ xor_state (w0 ∷ w1 ∷ w2 ∷ w3 ∷ []) (columns_of k h)
unfolding xor_state columns_of
last-state {k} {h} e ex ey e0 e1 e2 e3 =
    e ∙ four_eq (ex.low ∙ ap (λ w. xor_word w (le_bytes 4 k)) e0.bytes)
    (ex.high ∙ ap (λ w. xor_word w (le_bytes 4 (k / 2 ^ 32))) e1.bytes)
    (ey.low ∙ ap (λ w. xor_word w (le_bytes 4 h)) e2.bytes)
    (ey.high ∙ ap (λ w. xor_word w (le_bytes 4 (h / 2 ^ 32))) e3.bytes)
