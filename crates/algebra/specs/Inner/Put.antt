-- Inner: no promise cites this file. A value written in place.
use Rattle.std.specs.Prelude.{List, ◌++◌, ℕ, ◌+◌, ◌*◌, take, drop}
use Rattle.std.proofs.lemmas.List.Edits.{sets}
use Rattle.algebra.specs.Coding.{Coding}

-- the list with value i replaced
unfoldable pub put : {A : Type 0} → Coding A → List ℕ → ℕ → A → List ℕ
put C l i a = take (i * C.width) l ++ (C.words a ++ drop (i * C.width + C.width) l)

-- the list with a value written from a place on, word by word
unfoldable pub with_value : {A : Type 0} → Coding A → List ℕ → ℕ → A → List ℕ
with_value C l at value = sets l at (C.words value)
