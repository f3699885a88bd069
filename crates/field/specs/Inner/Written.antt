-- Inner: no promise cites this file. Words written into bytes.
use Rattle.std.specs.Prelude.{List, [], ◌∷◌, ℕ, ◌+◌}
use Rattle.std.proofs.lemmas.List.Edits.{sets}
use Rattle.field.specs.Bytes.{le_bytes}

-- the bytes with the eight bytes of a word written from a place on
unfoldable pub with_word : List ℕ → ℕ → ℕ → List ℕ
with_word bytes at word = sets bytes at (le_bytes 8 word)

-- and with words one after the other
unfoldable pub with_words : List ℕ → ℕ → List ℕ → List ℕ
with_words bytes at [] = bytes
with_words bytes at (w ∷ ws) = with_words (with_word bytes at w) (at + 8) ws
