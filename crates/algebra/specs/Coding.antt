-- Codings of values in words (document 01, 'Offline and online': an element of v or w takes two words in field 1, one in
-- field 2), and values written over a buffer's front ('Numbers of the calls': memory past that is untouched).
use Rattle.std.specs.Prelude.{◌≡◌, List, [], ◌++◌, ℕ, zero, suc, ◌+◌, ◌*◌, ◌≤◌, length, take, drop}

-- a coding: how many words a value takes, its words, and the value whose words begin at a place of a list
pub record Coding (A : Type 0) : Type 0 where
  pub width : ℕ
  pub words : A → List ℕ
  pub read : List ℕ → ℕ → A

-- the laws of a coding: every value takes as many words as the width says, and reading and writing undo each other
pub record CodingLaws {A : Type 0} (C : Coding A) : Type 0 where
  pub length-words : (a : A) → length (C.words a) ≡ C.width
  pub read-words : (before : List ℕ) (a : A) (after : List ℕ) → C.read (before ++ (C.words a ++ after)) (length before) ≡ a
  pub words-read : (l : List ℕ) (k : ℕ) → k + C.width ≤ length l → C.words (C.read l k) ≡ take C.width (drop k l)

-- value i of a list of words
abbrev pub at : {A : Type 0} → Coding A → List ℕ → ℕ → A
at C l i = C.read l (i * C.width)

-- the words of f at 0 to n − 1
unfoldable pub flat : {A : Type 0} → Coding A → ℕ → (ℕ → A) → List ℕ
flat C zero f = []
flat C (suc n) f = flat C n f ++ C.words (f n)

-- the buffer with f at 0 to n − 1 written over its front, the rest as it was
unfoldable pub over : {A : Type 0} → Coding A → ℕ → (ℕ → A) → List ℕ → List ℕ
over C n f buffer = flat C n f ++ drop (n * C.width) buffer
