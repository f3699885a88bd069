-- Laws of wide columns. Assumes nothing.
use mathlib.Core.Path.{◌≡◌, ◌∙◌, sym, ap}
use mathlib.Core.List.{List, [], ◌∷◌}
use Prim.Native.Nat.{ℕ, ◌/◌, ◌%◌, ◌^◌}
use lib.Bits.{bit_xor, xor_shr, xor_mod, xor_comm}
use Rattle.field.proofs.Xor.{xor_assoc}
use Rattle.aes_sbox.specs.Byte.{s_box}
use Rattle.aes_sbox.specs.Inner.Wide.{wide_rows}
use Rattle.aes_sbox.specs.Inner.Tables.{mixed}
use Rattle.aes128.specs.State.{xor_word}
use Rattle.aes128.specs.Cipher.{mix_column}
use Rattle.aes128.proofs.Words.{four_eq}

-- the rows of an exclusive or
pub wide-xor : (a b : ℕ) → wide_rows (bit_xor a b) ≡ xor_word (wide_rows a) (wide_rows b)
unfolding wide_rows xor_word
wide-xor a b =
    four_eq (xor_mod a b 8)
    (ap (λ (v : ℕ). v % 2 ^ 8) (xor_shr a b 24) ∙ xor_mod (a / 2 ^ 24) (b / 2 ^ 24) 8)
    (ap (λ (v : ℕ). v % 2 ^ 8) (xor_shr a b 32) ∙ xor_mod (a / 2 ^ 32) (b / 2 ^ 32) 8)
    (ap (λ (v : ℕ). v % 2 ^ 8) (xor_shr a b 56) ∙ xor_mod (a / 2 ^ 56) (b / 2 ^ 56) 8)

-- the last two terms of a sum exchanged
pub xor_swap : (a b x : ℕ) → bit_xor (bit_xor a b) x ≡ bit_xor (bit_xor a x) b
xor_swap a b x = xor_assoc a b x ∙ ap (bit_xor a) (xor_comm b x) ∙ sym (xor_assoc a x b)

-- a sum in the order of the lookups, and in that of MixColumns
ordered : (k a b x y : ℕ) → bit_xor (bit_xor (bit_xor (bit_xor k a) y) b) x ≡ bit_xor (bit_xor (bit_xor (bit_xor a b) x) y) k
ordered k a b x y =
    ap (λ v. bit_xor (bit_xor (bit_xor v y) b) x) (xor_comm k a)
    ∙ ap (λ v. bit_xor (bit_xor v b) x) (xor_swap a k y)
    ∙ ap (λ v. bit_xor v x) (xor_swap (bit_xor a y) k b)
    ∙ xor_swap (bit_xor (bit_xor a y) b) k x
    ∙ ap (λ v. bit_xor (bit_xor v x) k) (xor_swap a y b)
    ∙ ap (λ v. bit_xor v k) (xor_swap (bit_xor a b) y x)

-- a column of MixColumns and AddRoundKey, from what its four bytes add
pub mixed-column : (k a b x y ta tb tx ty : ℕ) {r : List ℕ} → r ≡ wide_rows (bit_xor (bit_xor (bit_xor (bit_xor k ta) ty) tb) tx)
    → wide_rows ta ≡ mixed 0 a → wide_rows tb ≡ mixed 1 b → wide_rows tx ≡ mixed 2 x → wide_rows ty ≡ mixed 3 y
    → r ≡ xor_word (mix_column (s_box a ∷ s_box b ∷ s_box x ∷ s_box y ∷ [])) (wide_rows k)
unfolding xor_word mix_column
mixed-column k a b x y ta tb tx ty e ea eb ex ey =
    e ∙ ap wide_rows (ordered k ta tb tx ty) ∙ simp (wide-xor, ea, eb, ex, ey)
