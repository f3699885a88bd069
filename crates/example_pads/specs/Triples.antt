-- Nothing is vacuous: triples of two ends on the pads of the two dealings with the roles exchanged (document 02, 6), at places 0 and 1 of
-- one call an end, through what `Triples` asks.
use Rattle.std.specs.Prelude.{◌≡◌, [], ◌∷◌, ℕ, ◌<◌, replicate}
use Rattle.algebra.specs.Coding.{at}
use Rattle.pads.specs.Triples.Call.{TriplesLent}
use Rattle.pads.specs.Triples.Matching.{MatchingAt, triples_of}
use Rattle.pads.specs.Triples.Triple.{triple_bytes}
use Rattle.claims.specs.Formed.{FormedAt}
use Rattle.example.specs.Worked.{binary_numbers, second_numbers}
use Rattle.example_pads.specs.Pads.{first_noise, first_scalar, second_noise, second_scalar}

-- one end is the noise end of the first dealing and the scalar end of the second
abbrev pub lent₁ : TriplesLent
lent₁ = record { choices = binary_numbers.us; pads = first_noise; pad_pairs = second_scalar; triples = replicate 6 7 }

-- the other is the noise end of the second and the scalar end of the first
abbrev pub lent₂ : TriplesLent
lent₂ = record { choices = second_numbers.us; pads = second_noise; pad_pairs = first_scalar; triples = replicate 6 7 }

pub record TriplesExample : Type 0 where
  -- what is lent for each place is that of an output of each dealing, and both calls are accepted
  pub formed : (i : ℕ) → i < 2 → FormedAt lent₁ lent₂ i i
  -- the triples; those at place 1 combine to 1 AND 1 = 1
  pub triples₁ : triples_of lent₁ ≡ 0 ∷ 1 ∷ 0 ∷ 1 ∷ 0 ∷ 0 ∷ []
  pub triples₂ : triples_of lent₂ ≡ 1 ∷ 0 ∷ 1 ∷ 0 ∷ 1 ∷ 1 ∷ []
  -- so they match
  pub match : (i : ℕ) → i < 2 → MatchingAt (at triple_bytes (triples_of lent₁) i) (at triple_bytes (triples_of lent₂) i)
