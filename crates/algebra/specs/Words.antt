-- The coding of a value in one word and in two (document 01, 'Offline and online').
use Rattle.std.specs.Prelude.{[], ◌∷◌, ℕ, ◌+◌, get_or}
use Rattle.algebra.specs.Coding.{Coding}

-- a value in one word
abbrev pub one_word : {A : Type 0} → (A → ℕ) → (ℕ → A) → Coding A
one_word word make =
    record { width = 1; words = λ a. word a ∷ []; read = λ l k. make (get_or l k 0) }

-- a value in two words
abbrev pub two_words : {A : Type 0} → (A → ℕ) → (A → ℕ) → (ℕ → ℕ → A) → Coding A
two_words low high make =
    record { width = 2; words = λ a. low a ∷ high a ∷ []; read = λ l k. make (get_or l k 0) (get_or l (k + 1) 0) }
