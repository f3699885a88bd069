-- Words as bytes, least byte first (document 01: LE means least byte first; a word is 64 bits).
use Rattle.std.specs.Prelude.{List, [], ◌∷◌, ℕ, zero, suc, ◌+◌, ◌*◌, ◌/◌, ◌%◌, get_or}

-- the number that a list of bytes writes, least byte first
unfoldable pub le_number : List ℕ → ℕ
le_number [] = 0
le_number (b ∷ bytes) = b + 256 * le_number bytes

-- the lowest n bytes of a number, least byte first
unfoldable pub le_bytes : ℕ → ℕ → List ℕ
le_bytes zero x = []
le_bytes (suc n) x = x % 256 ∷ le_bytes n (x / 256)

-- the eight bytes that begin at a place
abbrev pub eight_at : List ℕ → ℕ → List ℕ
eight_at l at =
    get_or l at 0
    ∷ get_or l (at + 1) 0
    ∷ get_or l (at + 2) 0
    ∷ get_or l (at + 3) 0
    ∷ get_or l (at + 4) 0
    ∷ get_or l (at + 5) 0
    ∷ get_or l (at + 6) 0
    ∷ get_or l (at + 7) 0
    ∷ []

-- the word whose eight bytes begin at a place
unfoldable pub word_at : List ℕ → ℕ → ℕ
word_at bytes at = le_number (eight_at bytes at)

-- a block of two words as four columns of four bytes
unfoldable pub columns_of : ℕ → ℕ → List (List ℕ)
columns_of low high =
    le_bytes 4 low ∷ le_bytes 4 (low / 4294967296) ∷ le_bytes 4 high ∷ le_bytes 4 (high / 4294967296) ∷ []

-- the four bytes that begin at a place, before others
abbrev pub four_at : List ℕ → ℕ → List ℕ → List ℕ
four_at bytes at rest = get_or bytes at 0 ∷ get_or bytes (at + 1) 0 ∷ get_or bytes (at + 2) 0 ∷ get_or bytes (at + 3) 0 ∷ rest

-- the first and the last eight bytes of four columns, each as a word
unfoldable pub low_of : List (List ℕ) → ℕ
low_of columns = le_number (four_at (get_or columns 0 []) 0 (four_at (get_or columns 1 []) 0 []))

unfoldable pub high_of : List (List ℕ) → ℕ
high_of columns = le_number (four_at (get_or columns 2 []) 0 (four_at (get_or columns 3 []) 0 []))
