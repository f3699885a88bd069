-- What the calls of both ends are made of (document 01, 'Offline and online'): vectors of N values, in the words that stand for them.
-- For v and w F is the record's field, for u that field with its noise values in the place of elements (`of_noise`).
use Rattle.std.specs.Prelude.{Bool, List, ℕ, ◌+◌, ◌*◌}
use Rattle.algebra.specs.Coding.{at, over}
use Rattle.algebra.specs.Field.{Field, Value}
use Rattle.algebra.specs.Row.{Row, output}
use Rattle.algebra.specs.Sum.{accumulate}
use Rattle.record.specs.Content.{Head}
use Rattle.window.specs.Head.{field_of, places}

-- how many words N elements take
abbrev pub vector_words : Head → ℕ
vector_words h = places h * (field_of h).elements.width

-- a vector's first n values, accumulated, over the front of a buffer
abbrev pub accumulated_over : (F : Field) → ℕ → (ℕ → Value F) → List ℕ → List ℕ
accumulated_over F n f buffer = over F.elements n (accumulate F.scaled.group f) buffer

-- 8: the words of a vector at a place are a value: an element, or, of binary noise, 0 or 1
abbrev pub is_value : Field → List ℕ → ℕ → Bool
is_value F words j = F.scaled.group.is_element (at F.elements words j)

-- the values at so many indices from `first` on, each the output of its row on an accumulated vector, over the front of a buffer
abbrev pub values_over : (F : Field) → (ℕ → Row F.ring) → List ℕ → ℕ → ℕ → List ℕ → List ℕ
values_over F row words first count buffer = over F.elements count (λ k. output F.scaled (row (first + k)) (at F.elements words)) buffer
