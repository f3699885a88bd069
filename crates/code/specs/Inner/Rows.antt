-- Inner: no promise cites this file. A shape that is whole, and its places and rows in each field under round keys that are lent.
use Rattle.std.specs.Prelude.{List, ◌≡◌, ℕ, ◌≤◌}
use Rattle.algebra.specs.Row.{Row}
use Rattle.aes128.specs.Cipher.{cipher}
use Rattle.field.specs.Binary.{bit_ring}
use Rattle.field.specs.Bytes.{columns_of}
use Rattle.field.specs.Kind.{binary_kind, prime_kind}
use Rattle.prime.specs.Prime.{prime_ring}
use Rattle.code.specs.declared.Shape.{Shape}
use Rattle.code.specs.Row.{strip, place_of, term_place, row_of_blocks}

-- ℓ is 1 to N and at most 32, N at most 65536, and the strip N / ℓ
pub record Shaped (s : Shape) : Type 0 where
  pub some : 1 ≤ s.terms
  pub full : s.terms ≤ s.places
  pub few : s.terms ≤ 32
  pub most : s.places ≤ 65536
  pub strip : s.strip ≡ strip s.places s.terms

-- the place that a word names for term i
abbrev pub place_by : Shape → ℕ → ℕ → ℕ
place_by s i word = place_of s.places s.terms i word

-- the block of term i of row x under round keys, as `term_block` under those of the code key
unfoldable pub term_block_by : List (List (List ℕ)) → ℕ → ℕ → List (List ℕ)
term_block_by keys x i = cipher keys (columns_of x i)

-- the place of term i of row x
abbrev pub place_in : List (List (List ℕ)) → Shape → ℕ → ℕ → ℕ
place_in keys s x i = term_place s.places s.terms i (term_block_by keys x i)

-- in field 1 the coefficient is 1
abbrev pub binary_row : List (List (List ℕ)) → Shape → ℕ → Row bit_ring
binary_row keys s x = row_of_blocks bit_ring binary_kind.coefficient s.places s.terms (term_block_by keys x)

-- in field 2 it is the word modulo p
abbrev pub prime_row : List (List (List ℕ)) → Shape → ℕ → Row prime_ring
prime_row keys s x = row_of_blocks prime_ring prime_kind.coefficient s.places s.terms (term_block_by keys x)
