-- Inner: no promise cites this file. Words of four bytes, and states of four words.
use Rattle.std.specs.Prelude.{◌≡◌, List, ℕ, ◌<◌, length, get_or}
use Rattle.aes128.specs.State.{column}

-- four bytes
pub record IsWord (w : List ℕ) : Type 0 where
  pub size : length w ≡ 4
  pub bytes : (r : ℕ) → get_or w r 0 < 256

-- four columns of four bytes
pub record IsState (s : List (List ℕ)) : Type 0 where
  pub size : length s ≡ 4
  pub words : (c : ℕ) → c < 4 → IsWord (column s c)
