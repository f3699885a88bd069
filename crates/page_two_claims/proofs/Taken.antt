-- Of the pads taken for an index, the choice names the noise end's among the scalar end's. What accepted pad calls write.
use Prim.Native.Nat.{ℕ, zero, suc, ◌+◌, ◌-◌, ◌*◌, ◌≤◌}
use native.Mathlib.Nat.{min-le_right}
use native.Mathlib.Omega.{arith}
use mathlib.Core.Path.{◌≡◌, refl, sym, ap, ap₂, ◌∙◌}
use mathlib.Core.List.{List, [], ◌∷◌}
use lib.Bits.{bit_xor, xor_zero_l, xor_comm}
use lib.ListN.{length, get_or, take, drop, length-take, length-drop}
use Rattle.field.proofs.Xor.{xor-back}
use Rattle.pads.specs.Choice.{pad_at, one_of_two_at}
use Rattle.pads.specs.Messages.Opening.{NamedAt}
use Rattle.page.specs.Document01 as page
use Rattle.page_two_claims.specs.Statements as says

-- a pad is that of its block's two words
pad-words : (x : ℕ) (v : List ℕ) → page.pad x v ≡ page.pad x (get_or v 0 0 ∷ get_or v 1 0 ∷ [])
unfolding page.pad page.under_ff page.block
pad-words x v = refl

module _ (x : ℕ) (D v : List ℕ) where
  -- w is v under choice 0, and w exclusive-or Δ is v under choice 1
  choice_0 : page.pad x (page.xor 2 ((page.blocks).multiple 0 D) v) ≡ page.pad x v
  unfolding page.xor page.list page.when◌then◌else◌
  choice_0 = ap₂ (λ (a b : ℕ). page.pad x (a ∷ b ∷ [])) (xor_zero_l (get_or v 0 0)) (xor_zero_l (get_or v 1 0)) ∙ sym (pad-words x v)

  off : (d a : ℕ) → bit_xor (bit_xor d a) d ≡ a
  off d a = xor_comm (bit_xor d a) d ∙ ap (bit_xor d) (xor_comm d a) ∙ xor-back a d

  choice_1 : page.pad x (page.xor 2 (page.xor 2 ((page.blocks).multiple 1 D) v) D) ≡ page.pad x v
  unfolding page.xor page.list page.when◌then◌else◌
  choice_1 =
      ap₂ (λ (a b : ℕ). page.pad x (a ∷ b ∷ [])) (off (get_or D 0 0) (get_or v 0 0)) (off (get_or D 1 0) (get_or v 1 0)) ∙ sym (pad-words x v)

module _ (S : says.Source) (C : says.Correlates S) (choices pads pairs : List ℕ) (k k' : ℕ)
    (T : says.TakenAt S choices pads pairs k k') where
  abbrev D : List ℕ
  D = page.words S.Δ

  abbrev v : List ℕ
  v = S.v T.x

  -- w by its choice
  w_is : (b : ℕ) → get_or choices k 0 ≡ b → S.w T.x ≡ page.xor 2 ((page.blocks).multiple b D) v
  w_is b e =
      C T.x T.below ∙ ap (λ (u : ℕ). page.xor 2 ((page.blocks).multiple u D) v) (ap (λ (l : List ℕ). get_or l 0 0) (sym T.choice) ∙ e)

  named_by : (b : ℕ) → b ≤ 1 → get_or choices k 0 ≡ b → pad_at pads 0 k ≡ one_of_two_at pairs 0 k' b
  named_by zero h e =
      ap (page.block_from pads) at_noise
      ∙ T.noise_pad
      ∙ sym (ap page.block (ap (page.pad T.x) (w_is 0 e) ∙ choice_0 T.x D v))
      ∙ sym T.scalar_pad0
      ∙ ap (page.block_from pairs) at_scalar
    where
      at_noise : 16 * (k - 0) ≡ 16 * k
      at_noise = omega arith

      at_scalar : 32 * k' ≡ 32 * (k' - 0) + 16 * 0
      at_scalar = omega arith
  named_by (suc zero) h e =
      ap (page.block_from pads) at_noise
      ∙ T.noise_pad
      ∙ sym (ap page.block (ap (λ (w : List ℕ). page.pad T.x (page.xor 2 w D)) (w_is 1 e) ∙ choice_1 T.x D v))
      ∙ sym T.scalar_pad1
      ∙ ap (page.block_from pairs) at_scalar
    where
      at_noise : 16 * (k - 0) ≡ 16 * k
      at_noise = omega arith

      at_scalar : 32 * k' + 16 ≡ 32 * (k' - 0) + 16 * 1
      at_scalar = omega arith
  named_by (suc (suc b)) h e = absurd (omega arith)

  pub named : NamedAt choices pads pairs k k'
  named = record { bit = T.bit; pad = named_by (get_or choices k 0) T.bit refl }

  -- 16 bytes from a place on are there
  there : (l : List ℕ) (a : ℕ) → length (take 16 (drop a l)) ≡ 16 → a + 16 ≤ length l
  there l a e = omega (arith, length-take 16 (drop a l), min-le_right 16 (length (drop a l)), length-drop a l)

  wide : (w : List ℕ) → length (page.block w) ≡ 16
  unfolding page.block page.to_bytes
  wide w = refl

  -- what is taken stands in the pads and pairs of pads lent
  pub within : (16 * k + 16 ≤ length pads) × (32 * k' + 32 ≤ length pairs)
  within = (
    there pads (16 * k) (ap length T.noise_pad ∙ wide _),
    omega (arith, there pairs (32 * k' + 16) (ap length T.scalar_pad1 ∙ wide _)),
  )
