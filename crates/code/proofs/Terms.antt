-- A row's terms: the place and the word that a term's block names.
use mathlib.Core.List.{List}
use mathlib.Core.Path.{◌≡◌, refl, ap, ◌∙◌}
use Prim.Native.Nat.{ℕ, ◌+◌, ◌*◌, ◌%◌, ◌≤◌, ◌<◌}
use native.Mathlib.Nat.{mod-lt}
use native.Mathlib.Omega.{arith}
use Rattle.aes128.specs.Inner.Blocks.{cipher_of}
use Rattle.aes128.specs.Inner.Words.{round_keys}
use Rattle.field.specs.declared.block.Block.{Block}
use Rattle.field.specs.Binary.{block}
use Rattle.field.specs.Bytes.{high_of}
use Rattle.code.specs.Row.{term_block, place_of, term_place}
use Rattle.aes128.specs.Cipher.{key_expansion, aes}
use Rattle.code.specs.declared.Shape.{Shape}
use Rattle.code.proofs.Strips.{strip-some, strip-end, strips_within}
use Rattle.code.specs.Inner.Rows.{Shaped, term_block_by, place_by, place_in}

-- the blocks under the round keys of the code key are those under the code key
pub blocks_by_key : (key : List (List ℕ)) → term_block_by (key_expansion key) ≡ term_block key
unfolding term_block_by term_block aes
blocks_by_key key = refl

-- a term, from the block that the cipher gives, or from its first word
module _ (keys : List ℕ) (s : Shape) (x i : ℕ) where
  pub place-word : {word : ℕ} → word ≡ (cipher_of keys (block x i)).low → place_by s i word ≡ place_in (round_keys keys) s x i
  unfolding term_place term_block_by
  place-word p = ap (place_by s i) p

  module _ {b : Block} (p : b ≡ cipher_of keys (block x i)) where
    pub place-block : place_by s i b.low ≡ place_in (round_keys keys) s x i
    place-block = place-word (ap (λ (c : Block). c.low) p)

    pub place_is : {j : ℕ} → j ≡ place_by s i b.low → j ≡ place_in (round_keys keys) s x i
    place_is e = e ∙ place-block

    pub word_is : b.high ≡ high_of (term_block_by (round_keys keys) x i)
    unfolding term_block_by
    word_is = ap (λ (c : Block). c.high) p

-- the place that a word names for a term
module _ (s : Shape) (shaped : Shaped s) (i : ℕ) (h : i < s.terms) where
  pub some-place : 0 < s.strip
  some-place = rw shaped.strip (strip-some s.places s.terms shaped.full shaped.some)

  strip-within : i * s.strip + s.strip ≤ s.places
  strip-within =
      rw shaped.strip
      (omega (arith, strip-end s.places s.terms shaped.full i h, strips_within s.places s.terms shaped.full))

  pub place-below : (word : ℕ) → i * s.strip + word % s.strip < s.places
  place-below word = let r = mod-lt word some-place in omega (arith, strip-within)

  pub place-named : (word : ℕ) → i * s.strip + word % s.strip ≡ place_by s i word
  unfolding place_of
  place-named word = rw shaped.strip
