-- Laws shaped like what the functions of `pads_calls` are asked: premises as the code has them, conclusions as contracts have them.
use mathlib.Core.Path.{◌≡◌}
use mathlib.Core.List.{List}
use Prim.Native.Nat.{ℕ, ◌+◌}
use Rattle.algebra.specs.Inner.Put.{with_value}
use Rattle.aes128.specs.Cipher.{key_expansion, aes}
use Rattle.aes128.specs.Inner.Words.{round_keys}
use Rattle.aes128.specs.Inner.Blocks.{cipher_of}
use Rattle.field.specs.declared.block.Block.{Block}
use Rattle.field.specs.Binary.{block_add}
use Rattle.pads.specs.Bytes.{block_bytes}
use Rattle.pads.specs.Inner.Passes.{second_step}
use Rattle.pads.specs.Pad.{pad_key, index_block, under_pad_key}

-- both blocks written
pub put_both : (l l' l'' : List ℕ) (at : ℕ) (p q p' q' : Block) → p ≡ p' → q ≡ q'
    → l' ≡ with_value block_bytes l at p → l'' ≡ with_value block_bytes l' (at + 16) q → l'' ≡ with_value block_bytes (with_value block_bytes l at p') (at + 16) q'
put_both l l' l'' at p q p' q' pe qe e g = rw (g, e, pe, qe)

-- the first step, and the second
pub first_is : (keys : List ℕ) (w r : Block) → round_keys keys ≡ key_expansion pad_key → r ≡ cipher_of keys w → r ≡ under_pad_key w
unfolding under_pad_key aes
first_is keys w r ks e = rw (e, ks)

pub second_is : (keys : List ℕ) (x : ℕ) (s i z e r : Block) → round_keys keys ≡ key_expansion pad_key
    → i ≡ index_block x → z ≡ block_add s i → e ≡ cipher_of keys z → r ≡ block_add e s → r ≡ second_step x s
unfolding second_step
second_is keys x s i z e r ks ie ze ee re = rw (re, first_is keys z e ks ee, ze, ie)
