-- The page's cipher is the library's: `state` is the block as four columns of four bytes.
use Prim.Native.Nat.{ℕ, zero, suc, ◌+◌, ◌-◌, ◌/◌, ◌%◌, ◌<◌, ◌≤◌}
use mathlib.Core.Path.{◌≡◌, refl, sym, ap, ◌∙◌, fun_ext}
use mathlib.Core.List.{List, [], ◌∷◌, ◌++◌}
use native.Mathlib.Omega.{arith}
use lib.Bits.{bit_xor, xor_comm}
use lib.Dec.{eqb}
use lib.ListN.{get_or}
use Rattle.algebra.specs.Choice.{choose}
use Rattle.field.proofs.Xor.{xor_assoc}
use Rattle.aes_sbox.specs.Byte as byte
use Rattle.aes128.specs.State.{four, byte_at, xor_word, xor_state}
use Rattle.aes128.specs.Cipher as aes
use Rattle.aes128.proofs.Words.{four_eq}
use Rattle.tree.specs.Columns.{columns_at}
use Rattle.tree.specs.Tree.{listed}
use Rattle.tree.proofs.Listed.{listed_at}
use Rattle.page.specs.Document01 as page

abbrev pub state : List ℕ → List (List ℕ)
state s = columns_at s 0

pub times_is : (n a b : ℕ) → page.times n a b ≡ byte.multiples n a b
unfolding page.times byte.multiples page.xtime byte.xtime
times_is n a b = refl

pub product_is : (a b : ℕ) → page.times 8 a b ≡ byte.mul_bytes a b
unfolding byte.mul_bytes
product_is a b = times_is 8 a b

pub squares_is : (n b : ℕ) → page.squares n b ≡ byte.squares n b
unfolding page.squares byte.squares
squares_is zero b = refl
squares_is (suc n) b = rw (product_is, product_is, squares_is n)

pub from_bits_lem : (n : ℕ) (f : ℕ → ℕ) → page.from_bits n f ≡ byte.from_bits n f
unfolding page.from_bits byte.from_bits
from_bits_lem n f = refl

pub s-box : (b : ℕ) → page.s_box b ≡ byte.s_box b
unfolding page.s_box byte.s_box byte.affine byte.inverse
s-box b = from_bits_lem 8 _ ∙ ap (λ y. byte.from_bits 8 (byte.affine_bit y)) (squares_is 7 b)

-- ---- the steps of a round

pub xor_is : (s k : List ℕ) → state (page.xor 16 s k) ≡ xor_state (state s) (state k)
unfolding page.xor page.list xor_state xor_word columns_at
xor_is s k = refl

pub sub_is : (s : List ℕ) → state (page.sub_bytes s) ≡ aes.sub_bytes (state s)
unfolding page.sub_bytes page.list columns_at aes.sub_bytes
sub_is s = ap (λ (f : ℕ → ℕ). four (λ c. four (λ r. f (byte_at (state s) r c)))) (fun_ext s-box)

pub shift_is : (s : List ℕ) → state (page.shift_rows s) ≡ aes.shift_rows (state s)
unfolding page.shift_rows page.list columns_at aes.shift_rows
shift_is s = refl

module _ (a b c d : ℕ) where
  pub row_1 : bit_xor (bit_xor (bit_xor b c) d) a ≡ bit_xor (bit_xor (bit_xor a b) c) d
  row_1 = xor_comm (bit_xor (bit_xor b c) d) a ∙ sym (xor_assoc a (bit_xor b c) d) ∙ ap (λ x. bit_xor x d) (sym (xor_assoc a b c))

  pub row_2 : bit_xor (bit_xor (bit_xor c d) a) b ≡ bit_xor (bit_xor (bit_xor a b) c) d
  row_2 = xor_assoc (bit_xor c d) a b ∙ xor_comm (bit_xor c d) (bit_xor a b) ∙ sym (xor_assoc (bit_xor a b) c d)

  pub row_3 : bit_xor (bit_xor (bit_xor d a) b) c ≡ bit_xor (bit_xor (bit_xor a b) c) d
  row_3 = ap (λ x. bit_xor x c) (xor_assoc d a b) ∙ xor_assoc d (bit_xor a b) c ∙ xor_comm d _

-- one column: MixColumns in the order of FIPS 197's four sums
abbrev mixed : (ℕ → ℕ → ℕ) → ℕ → ℕ → ℕ → ℕ → List ℕ
mixed m a b c d =
    bit_xor (bit_xor (bit_xor (m 2 a) (m 3 b)) c) d
    ∷ bit_xor (bit_xor (bit_xor (m 2 b) (m 3 c)) d) a
    ∷ bit_xor (bit_xor (bit_xor (m 2 c) (m 3 d)) a) b
    ∷ bit_xor (bit_xor (bit_xor (m 2 d) (m 3 a)) b) c
    ∷ []

mixed_is : (a b c d : ℕ) → mixed (page.times 8) a b c d ≡ aes.mix_column (a ∷ b ∷ c ∷ d ∷ [])
unfolding aes.mix_column
mixed_is a b c d =
    ap (λ (m : ℕ → ℕ → ℕ). mixed m a b c d) (fun_ext λ x. fun_ext (product_is x))
    ∙ four_eq refl (row_1 a (byte.mul_bytes 2 b) (byte.mul_bytes 3 c) d) (row_2 a b (byte.mul_bytes 2 c) (byte.mul_bytes 3 d))
    (row_3 (byte.mul_bytes 3 a) b c (byte.mul_bytes 2 d))

pub mix_is : (s : List ℕ) → state (page.mix_columns s) ≡ aes.mix_columns (state s)
unfolding page.mix_columns page.list columns_at aes.mix_columns
mix_is s = four_eq (mixed_is _ _ _ _) (mixed_is _ _ _ _) (mixed_is _ _ _ _) (mixed_is _ _ _ _)

-- ---- the key schedule

pub power_is : (n : ℕ) → page.power n ≡ aes.power n
unfolding page.power aes.power page.xtime byte.xtime
power_is n = refl

pub temp_is : (i : ℕ) (t : List ℕ) → page.temp i t ≡ aes.temp i t
unfolding page.temp aes.temp page.when◌then◌else◌ page.xor page.list xor_word
temp_is i t =
    ap (λ (f : ℕ → ℕ). choose (eqb (i % 4) 0) (xor_word (four (λ r. f (get_or t ((r + 1) % 4) 0))) (page.power (i / 4 - 1) ∷ 0 ∷ 0 ∷ 0 ∷ [])) t) (fun_ext s-box)
    ∙ ap (λ x. choose (eqb (i % 4) 0) (xor_word (aes.sub_word (aes.rot_word t)) (x ∷ 0 ∷ 0 ∷ 0 ∷ [])) t) (power_is (i / 4 - 1))

pub schedule_is : (key : List ℕ) (n : ℕ) → page.schedule key n ≡ aes.schedule_words (state key) n
unfolding page.schedule page.list page.xor columns_at aes.schedule_words xor_word
schedule_is key zero = refl
schedule_is key (suc n) =
    ap (λ (f : ℕ → List ℕ → List ℕ).
    page.schedule key n ++ (xor_word (get_or (page.schedule key n) (n + 4 - 4) []) (f (n + 4) (get_or (page.schedule key n) (n + 4 - 1) [])) ∷ []))
    (fun_ext λ i. fun_ext (temp_is i))
    ∙ ap (λ w. w ++ (aes.next_word (n + 4) w ∷ [])) (schedule_is key n)

-- adding round key i of the page is adding that of the library
pub add-key : (key s : List ℕ) (i : ℕ) → i < 11
    → state (page.xor 16 s (page.round_key key i)) ≡ aes.add_round_key (state s) (aes.round_key (aes.key_expansion (state key)) i)
unfolding page.xor page.list page.round_key xor_state xor_word columns_at aes.key_expansion aes.keys_of listed
add-key key s i h =
    ap (λ w. xor_state (state s) (aes.key_of w i)) (schedule_is key 40)
    ∙ ap (xor_state (state s)) (sym (listed_at 11 (aes.key_of (aes.schedule_words (state key) 40)) [] i h))

pub rounds_is : (key s : List ℕ) (n : ℕ) → n ≤ 9 → state (page.rounds key s n) ≡ aes.rounds (aes.key_expansion (state key)) n (state s)
unfolding page.rounds aes.rounds
rounds_is key s zero h = add-key key s 0 (omega arith)
rounds_is key s (suc n) h =
    add-key key _ (suc n) (omega arith)
    ∙ ap (λ x. aes.add_round_key x (aes.round_key (aes.key_expansion (state key)) (suc n)))
    (mix_is _ ∙ ap aes.mix_columns (shift_is _ ∙ ap aes.shift_rows (sub_is _ ∙ ap aes.sub_bytes (rounds_is key s n (omega arith)))))

-- E
pub cipher_is : (key s : List ℕ) → state (page.E key s) ≡ aes.aes (state key) (state s)
unfolding page.E aes.aes aes.cipher
cipher_is key s =
    add-key key _ 10 (omega arith)
    ∙ ap (λ x. aes.add_round_key x (aes.round_key (aes.key_expansion (state key)) 10))
    (shift_is _ ∙ ap aes.shift_rows (sub_is _ ∙ ap aes.sub_bytes (rounds_is key s 9 (omega arith))))
