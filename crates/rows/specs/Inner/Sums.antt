-- Inner: no promise cites this file. The sums of a row's first n terms, with the test of the words in them, as a loop holds them.
use Rattle.std.specs.Prelude.{◌&&◌, List, ◌≡◌, ℕ, ltb, get_or}
use Rattle.algebra.specs.Choice.{choose}
use Rattle.algebra.specs.Coding.{at}
use Rattle.algebra.specs.Group.{Ring, Scaled, itself}
use Rattle.algebra.specs.Row.{Row}
use Rattle.algebra.specs.Sum.{sum}
use Rattle.field.specs.declared.block.Block.{Block}
use Rattle.prime.specs.declared.prime.Prime.{Prime}
use Rattle.field.specs.Binary.{binary, bit_ring, blocks, block_add, bit_add}
use Rattle.prime.specs.Prime.{primes, prime_ring, modulus, prime, prime_reduce, prime_add, prime_mul}
use Rattle.code.specs.declared.Shape.{Shape}
use Rattle.rows.specs.declared.row.Pair.{Pair}
use Rattle.rows.specs.declared.row.Single.{Single}
use Rattle.code.specs.Inner.Rows.{binary_row, prime_row}
use Rattle.code.specs.Inner.Used.{word_below, terms_below}

-- r is the sums with the values at place j added
pub record BinaryAdded (noise values : List ℕ) (j : ℕ) (sums r : Pair ℕ Block) : Type 0 where
  pub u : r.u ≡ bit_add sums.u (get_or noise j 0)
  pub v : r.v ≡ block_add sums.v (at binary.elements values j)
  pub admitted : r.admitted ≡ (sums.admitted && word_below 2 noise j)

-- r is the sum with the element at place j added; a coefficient, whatever its word, is 1
abbrev pub BlockAdded : List ℕ → ℕ → ℕ → Block → Block → Type 0
BlockAdded words j coefficient sum r = r ≡ block_add sum (at binary.elements words j)

-- r is the sum, or the sums, with the product of a coefficient and the element at place j added
pub record PrimeAdded (words : List ℕ) (j coefficient : ℕ) (sum r : Single ℕ) : Type 0 where
  pub w : prime_reduce r.w ≡ prime_add (prime sum.w) (prime_mul (prime coefficient) (prime (get_or words j 0)))
  pub admitted : r.admitted ≡ (sum.admitted && word_below modulus words j)

pub record PrimesAdded (noise values : List ℕ) (j coefficient : ℕ) (sums r : Pair ℕ ℕ) : Type 0 where
  pub u : prime_reduce r.u ≡ prime_add (prime sums.u) (prime_mul (prime coefficient) (prime (get_or noise j 0)))
  pub v : prime_reduce r.v ≡ prime_add (prime sums.v) (prime_mul (prime coefficient) (prime (get_or values j 0)))
  pub admitted : r.admitted ≡ ((sums.admitted && word_below modulus noise j) && word_below modulus values j)

-- how many of a row's terms are below i
unfoldable pub terms_to : Shape → ℕ → ℕ
terms_to s i = choose (ltb i s.terms) i s.terms

-- the sum of a row's first n terms
unfoldable pub terms_sum : {R : Ring} (S : Scaled R) → Row R → (ℕ → S.group.Of) → ℕ → S.group.Of
terms_sum S row f n = sum S.group n (λ i. S.scale (row.coefficient i) (f (row.place i)))

-- the sums of u, and of v or w, in field 1 and in field 2
unfoldable pub bits_sum : List (List (List ℕ)) → Shape → ℕ → List ℕ → ℕ → ℕ
bits_sum keys s x words n = terms_sum (itself bit_ring) (binary_row keys s x) (at binary.noise_values words) n

unfoldable pub blocks_sum : List (List (List ℕ)) → Shape → ℕ → List ℕ → ℕ → Block
blocks_sum keys s x words n = terms_sum blocks (binary_row keys s x) (at binary.elements words) n

unfoldable pub primes_sum : List (List (List ℕ)) → Shape → ℕ → List ℕ → ℕ → Prime
primes_sum keys s x words n = terms_sum (itself prime_ring) (prime_row keys s x) (at primes.elements words) n

-- both sums at the noise end in field 1
pub record BinarySums (keys : List (List (List ℕ))) (s : Shape) (x : ℕ) (noise values : List ℕ) (n : ℕ) (r : Pair ℕ Block) : Type 0 where
  pub u : r.u ≡ bits_sum keys s x noise n
  pub v : r.v ≡ blocks_sum keys s x values n
  pub admitted : r.admitted ≡ terms_below 2 noise keys s x n

-- both in field 2, not reduced
pub record PrimesTotal (keys : List (List (List ℕ))) (s : Shape) (x : ℕ) (noise values : List ℕ) (n : ℕ) (r : Pair ℕ ℕ) : Type 0 where
  pub u : prime_reduce r.u ≡ primes_sum keys s x noise n
  pub v : prime_reduce r.v ≡ primes_sum keys s x values n
  pub admitted : r.admitted ≡ (terms_below modulus noise keys s x n && terms_below modulus values keys s x n)

-- the sum at the scalar end in field 2, not reduced
pub record PrimeTotal (keys : List (List (List ℕ))) (s : Shape) (x : ℕ) (words : List ℕ) (n : ℕ) (r : Single ℕ) : Type 0 where
  pub w : prime_reduce r.w ≡ primes_sum keys s x words n
  pub admitted : r.admitted ≡ terms_below modulus words keys s x n
