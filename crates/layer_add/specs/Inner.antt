-- Inner: no promise cites this file. What the sum of words asks of them.
use Rattle.std.specs.Prelude.{◌≡◌, true, List, ℕ, ◌<◌, length, get_or}
use Rattle.prime.specs.Prime.{modulus}
use Rattle.layer_add.specs.Add.{are_words}

-- equally many words, all of which may be added
pub record Addable (field : ℕ) (from into : List ℕ) : Type 0 where
  pub equal : length from ≡ length into
  pub from_serves : are_words field from ≡ true
  pub into_serves : are_words field into ≡ true

-- every word is below p
pub record AreBelow (l : List ℕ) : Type 0 where
  pub each : (k : ℕ) → get_or l k 0 < modulus
