-- Inner: no promise cites this file. Whether every word that a window's rows use is below a bound, 2 for bits and p for elements of
-- field 2, and the same of a whole vector.
use Rattle.std.specs.Prelude.{Bool, List, ℕ, ◌+◌, ltb, length, get_or}
use Rattle.algebra.specs.Every.{every}
use Rattle.code.specs.declared.Shape.{Shape}
use Rattle.code.specs.declared.Window.{Window}
use Rattle.code.specs.Inner.Rows.{place_in}

-- the word at place j is below the bound
abbrev pub word_below : ℕ → List ℕ → ℕ → Bool
word_below bound words j = ltb (get_or words j 0) bound

-- the words at the places of the first n terms are below the bound
unfoldable pub terms_below : ℕ → List ℕ → List (List (List ℕ)) → Shape → ℕ → ℕ → Bool
terms_below bound words keys s x n = every n (λ i. word_below bound words (place_in keys s x i))

-- a row uses every word at its places, also under a coefficient of zero
unfoldable pub row_below : ℕ → List ℕ → List (List (List ℕ)) → Shape → ℕ → Bool
row_below bound words keys s x = every s.terms (λ i. word_below bound words (place_in keys s x i))

-- every word that the window's rows use is below the bound
unfoldable pub used_below : ℕ → List ℕ → List (List (List ℕ)) → Shape → Window → Bool
used_below bound words keys s w = every w.count (λ k. row_below bound words keys s (w.first + k))

-- every word of the whole vector is below the bound
unfoldable pub all_below : ℕ → List ℕ → Bool
all_below bound words = every (length words) (word_below bound words)
