-- FIPS 197, the state (3.4) and its words (3.5): four columns of four bytes. Byte 4c + r of a block is row r of column c.
use Rattle.std.specs.Prelude.{List, [], ◌∷◌, ℕ, get_or}
use Rattle.std.specs.Int.Bits.{bit_xor}

-- four places, 0 to 3
abbrev pub four : {A : Type 0} → (ℕ → A) → List A
four f = f 0 ∷ f 1 ∷ f 2 ∷ f 3 ∷ []

-- column c of a state
abbrev pub column : List (List ℕ) → ℕ → List ℕ
column s c = get_or s c []

-- the byte in row r and column c
abbrev pub byte_at : List (List ℕ) → ℕ → ℕ → ℕ
byte_at s r c = get_or (column s c) r 0

-- the exclusive or of two words
unfoldable pub xor_word : List ℕ → List ℕ → List ℕ
xor_word a b = four (λ r. bit_xor (get_or a r 0) (get_or b r 0))

-- the exclusive or of two states
unfoldable pub xor_state : List (List ℕ) → List (List ℕ) → List (List ℕ)
xor_state s k = four (λ c. xor_word (column s c) (column k c))
