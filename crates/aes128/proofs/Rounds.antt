-- The columns of a round with those of its round key. Assumes nothing.
use mathlib.Core.Path.{◌≡◌, ◌∙◌, sym, ap}
use mathlib.Core.List.{List, [], ◌∷◌}
use Prim.Native.Nat.{ℕ, ◌+◌}
use native.Mathlib.Nat.{add-zero}
use lib.ListN.{get_or}
use Rattle.aes_sbox.specs.Inner.Wide.{wide_rows}
use Rattle.aes128.specs.State.{xor_word, xor_state}
use Rattle.aes128.specs.Inner.Words.{wide_key}
use Rattle.aes128.proofs.Words.{four_eq}

-- four columns with those of a round key
pub with_key : (keys : List ℕ) (at : ℕ) (m0 m1 m2 m3 : List ℕ) {r0 r1 r2 r3 : List ℕ} → r0 ≡ xor_word m0 (wide_rows (get_or keys at 0))
    → r1 ≡ xor_word m1 (wide_rows (get_or keys (at + 1) 0)) → r2 ≡ xor_word m2 (wide_rows (get_or keys (at + 2) 0))
    → r3 ≡ xor_word m3 (wide_rows (get_or keys (at + 3) 0)) → r0 ∷ r1 ∷ r2 ∷ r3 ∷ [] ≡ xor_state (m0 ∷ m1 ∷ m2 ∷ m3 ∷ []) (wide_key keys at)
unfolding xor_state
with_key keys at m0 m1 m2 m3 e0 e1 e2 e3 = four_eq (e0 ∙ ap (λ n. xor_word m0 (wide_rows (get_or keys n 0))) (sym (add-zero at))) e1 e2 e3
