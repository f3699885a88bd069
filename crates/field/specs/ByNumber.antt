-- What a field's number says of noise values, elements and their words (document 01, 'Two fields', 'Dealing', 'Key records').
-- Any number but 1 is taken for field 2, as by `kind_of`: every call tests `is_field` before it asks.
use Rattle.std.specs.Prelude.{Bool, not, ◌&&◌, ◌||◌, List, [], ◌∷◌, ℕ, ◌-◌, leb, eqb, get_or}
use Rattle.algebra.specs.Choice.{choose}
use Rattle.field.specs.Kind.{kind_of}
use Rattle.prime.specs.Prime.{modulus}

-- Two fields: 1 is binary, 2 is prime
abbrev pub is_field : ℕ → Bool
is_field field = eqb field 1 || eqb field 2

-- ---- noise values

-- Dealing: the noise values that are admitted: 1 in field 1, 1 to p − 1 in field 2
abbrev pub is_noise : ℕ → ℕ → Bool
is_noise field value = choose (eqb field 1) (eqb value 1) (leb 1 value && leb value (modulus - 1))

-- Key records: in field 1, where 1 is the only noise value that is admitted, none is written
abbrev pub one_noise : ℕ → Bool
one_noise field = eqb field 1

-- ---- elements

-- the element of a first and a second word
abbrev pub element_of : ℕ → ℕ → ℕ → List ℕ
element_of field low high = choose (eqb field 1) (low ∷ high ∷ []) (low ∷ [])

-- Dealing: where an element has one word, in field 2, the second of two words is 0
abbrev pub rest_zero : ℕ → ℕ → Bool
rest_zero field high = eqb field 1 || eqb high 0

-- Two fields: whether words are an element: every block is one in field 1, a word below p in field 2
abbrev pub is_element : ℕ → List ℕ → Bool
is_element field words = (kind_of field).field.scaled.group.is_element ((kind_of field).field.elements.read words 0)

-- whether the element of these words is zero: in field 1 both words are 0, in field 2 the one word is
abbrev pub is_zero : ℕ → List ℕ → Bool
is_zero field words = choose (eqb field 1) (eqb (get_or words 0 0) 0 && eqb (get_or words 1 0) 0) (eqb (get_or words 0 0) 0)

-- Dealing: Δ is an element and never zero
abbrev pub is_scalar : ℕ → List ℕ → Bool
is_scalar field words = is_element field words && not (is_zero field words)
