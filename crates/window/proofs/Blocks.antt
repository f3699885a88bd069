-- Blocks of a record as columns: block i of many, and the code key's round keys.
use mathlib.Core.Path.{◌≡◌, sym, ap, ◌∙◌}
use mathlib.Core.List.{List, []}
use Prim.Native.Nat.{ℕ, ◌+◌, ◌-◌, ◌*◌, ◌<◌}
use lib.ListN.{get_or}
use Rattle.aes128.specs.Cipher.{key_expansion}
use Rattle.aes128.specs.Inner.Words.{round_keys}
use Rattle.record.specs.Answer.{head_of}
use Rattle.record.specs.declared.Layout.{Layout}
use Rattle.record.specs.Reading.{items, block_at}
use Rattle.record.proofs.Items.{item_at}
use Rattle.tree.specs.Columns.{columns_at}
use Rattle.tree.proofs.Blocks.{columns-part}
use Rattle.window.specs.Inner.Outputs.{code_keys}

pub columns-item : (s : List ℕ) (at n i : ℕ) → i < n → columns_at (get_or (items block_at 16 s at n) i []) 0 ≡ columns_at s (at + 16 * i)
columns-item s at n i h = ap (λ (b : List ℕ). columns_at b 0) (item_at block_at 16 s at n i [] h) ∙ columns-part s (at + 16 * i)

pub keys_at : (s : List ℕ) (f : Layout) {at : ℕ} {c : List (List ℕ)} (words : List ℕ) → at ≡ f.body - 32 → c ≡ columns_at s at
    → round_keys words ≡ key_expansion c → round_keys words ≡ code_keys (head_of s f)
keys_at s f words a e q = q ∙ ap key_expansion (e ∙ ap (columns_at s) a ∙ sym (columns-part s (f.body - 32)))
