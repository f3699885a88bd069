-- Inner: no promise cites this file. An element of either field as two words, a noise value as one, and what functions make of them.
use Rattle.std.specs.Prelude.{Bool, true, false, List, [], ◌∷◌, ◌≡◌, ℕ, ◌+◌, ◌*◌, eqb}
use Rattle.algebra.specs.Choice.{choose}
use Rattle.algebra.specs.Field.{NoiseValue, Value}
use Rattle.field.specs.Binary.{bit_add}
use Rattle.field.specs.Bytes.{word_at}
use Rattle.field.specs.Kind.{kind_of, element_words}
use Rattle.prime.specs.Prime.{prime, prime_add}
use Rattle.field.specs.declared.element.Element.{Element}

-- an element takes 16 bytes (field 1) or 8 (field 2)
abbrev pub element_length : ℕ → ℕ
element_length field = 8 * element_words field

-- a noise value of a word, and an element of two words
abbrev pub noise_in : (field : ℕ) → ℕ → NoiseValue (kind_of field).field
noise_in field w = (kind_of field).field.noise_values.read (w ∷ []) 0

unfoldable pub element_in : (field : ℕ) → Element → Value (kind_of field).field
element_in field e = (kind_of field).field.elements.read (e.low ∷ e.high ∷ []) 0

-- the sum of two noise values' words
unfoldable pub noise_sum : ℕ → ℕ → ℕ → ℕ
noise_sum field a b = choose (eqb field 1) (bit_add a b) (prime_add (prime a) (prime b)).word

-- the element whose bytes begin at a place, its second word 0 where it has one
unfoldable pub element_at : ℕ → List ℕ → ℕ → Element
element_at field bytes at = record { low = word_at bytes at; high = choose (eqb field 1) (word_at bytes (at + 8)) 0 }

-- the answer to whether two elements are equal
pub record Compared (field : ℕ) (a b : Element) (answer : Bool) : Type 0 where
  pub same : answer ≡ true → element_in field a ≡ element_in field b
  pub other : answer ≡ false → element_in field a ≡ element_in field b → ⊥
