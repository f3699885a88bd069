-- Inner: no promise cites this file. Sums of any kind after a row's first n terms, which are added one after the other.
use Rattle.std.specs.Prelude.{List, ◌≡◌, ℕ, zero, suc}
use Rattle.aes128.specs.Inner.Blocks.{cipher_of}
use Rattle.field.specs.Binary.{block}
use Rattle.code.specs.declared.Shape.{Shape}
use Rattle.code.specs.Inner.Rows.{place_by}

-- from `start`: each term is added at its place, times the coefficient that its block's last word gives
unfoldable pub Walked : {S : Type 0} → (ℕ → ℕ → S → S → Type 0) → List ℕ → Shape → ℕ → S → ℕ → S → Type 0
Walked Added keys s x start zero r = r ≡ start
Walked {S} Added keys s x start (suc n) r =
    (m : S) × Walked Added keys s x start n m × Added (place_by s n (cipher_of keys (block x n)).low) (cipher_of keys (block x n)).high m r
