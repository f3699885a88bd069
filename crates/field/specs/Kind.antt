-- The two fields as two values of one parameter (document 01, 'Two fields'): the algebra, how a leaf becomes an element
-- ('Trees'), and how the last eight bytes of a term's block become its coefficient ('Offline and online').
use Rattle.std.specs.Prelude.{List, [], ◌∷◌, ◌≡◌, ℕ, eqb, get_or}
use Rattle.algebra.specs.Choice.{choose}
use Rattle.algebra.specs.Field.{Field, FieldLaws, NoiseValue, Value}
use Rattle.algebra.specs.Group.{Element}
use Rattle.field.specs.Bytes.{low_of}
use Rattle.field.specs.Binary.{binary, block_leaf}
use Rattle.prime.specs.declared.prime.Prime.{Prime}
use Rattle.prime.specs.Prime.{primes, prime_reduce}

-- field 2: a leaf's element is its first eight bytes as an LE word, modulo p
abbrev pub prime_leaf : List (List ℕ) → Prime
prime_leaf columns = prime_reduce (low_of columns)

pub record Kind : Type 1 where
  pub field : Field
  pub leaf : List (List ℕ) → Value field
  pub coefficient : ℕ → NoiseValue field

-- field 1: the coefficient is 1
abbrev pub binary_kind : Kind
binary_kind = record { field = binary; leaf = block_leaf; coefficient = λ w. 1 }

-- field 2: the coefficient is the word modulo p
abbrev pub prime_kind : Kind
prime_kind = record { field = primes; leaf = prime_leaf; coefficient = prime_reduce }

-- the kind of a field byte: 1 is the binary field, any other the prime field; every call refuses a byte but 1 and 2 before it asks
abbrev pub kind_of : ℕ → Kind
kind_of field = choose (eqb field 1) binary_kind prime_kind

-- an element takes two words in field 1, one in field 2
abbrev pub element_words : ℕ → ℕ
element_words field = (kind_of field).field.elements.width

-- what both kinds satisfy: the field's laws, leaves and coefficients are elements, and a noise value is one word
pub record KindLaws (K : Kind) : Type 0 where
  pub field : FieldLaws K.field
  pub leaf-element : (s : List (List ℕ)) → Element K.field.scaled.group (K.leaf s)
  pub coefficient-element : (word : ℕ) → Element K.field.ring.group (K.coefficient word)
  pub noise-width : K.field.noise_values.width ≡ 1
  pub noise-read : (l : List ℕ) (k : ℕ) → K.field.noise_values.read l k ≡ K.field.noise_values.read (get_or l k 0 ∷ []) 0

-- both fields satisfy them: facts common to both are proved for any ring and any group that it scales, then used twice
-- (document 01, 'Questions a reader of the promises may put')
abbrev pub BothFields : Type 0
BothFields = (field : ℕ) → KindLaws (kind_of field)
