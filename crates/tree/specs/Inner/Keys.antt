-- Inner: no promise cites this file. The words in which a family of round keys is lent.
use Rattle.std.specs.Prelude.{List, [], ℕ, get_or}
use Rattle.aes128.specs.Inner.Words.{round_keys}

-- the family by the child's number, of the round keys lent one after another, forty words each
abbrev pub keys_for : List (List ℕ) → ℕ → List (List (List ℕ))
keys_for keys c = round_keys (get_or keys c [])
