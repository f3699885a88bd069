-- Inner: no promise cites this file. What elements of both fields and noise words of field 1 share: a group, and how values lie in words.
use Rattle.std.specs.Prelude.{Bool}
use Rattle.algebra.specs.Coding.{Coding}
use Rattle.algebra.specs.Group.{Group}
use Rattle.field.specs.declared.block.Block.{Block}
use Rattle.field.specs.Binary.{binary}
use Rattle.prime.specs.declared.prime.Prime.{Prime}
use Rattle.prime.specs.Prime.{primes}
use Rattle.std.specs.Prelude.{ℕ}

-- a group's parts on a type, and the coding of its values
pub record Parts (A : Type 0) : Type 0 where
  pub is_element : A → Bool
  pub zero : A
  pub add : A → A → A
  pub sub : A → A → A
  pub coding : Coding A

-- the group of the parts
abbrev pub group_of : {A : Type 0} → Parts A → Group
group_of {A} P = record { Of = A; is_element = P.is_element; zero = P.zero; add = P.add; sub = P.sub }

-- the parts of a group and a coding
abbrev pub parts_of : (G : Group) → Coding G.Of → Parts G.Of
parts_of G C = record { is_element = G.is_element; zero = G.zero; add = G.add; sub = G.sub; coding = C }

-- those of field 1's elements, of field 2's elements, which are its noise values too, and of field 1's noise values
abbrev pub block_parts : Parts Block
block_parts = parts_of binary.scaled.group binary.elements

abbrev pub prime_parts : Parts Prime
prime_parts = parts_of primes.scaled.group primes.elements

abbrev pub bit_parts : Parts ℕ
bit_parts = parts_of binary.ring.group binary.noise_values
