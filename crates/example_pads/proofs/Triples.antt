-- The triples of both ends, from what was taken of both dealings; that they match, by `Triples` itself.
use mathlib.Core.Path.{refl}
use Prim.Native.Nat.{ℕ, ◌<◌}
use Rattle.claims.proofs.Entire.{of_dealing}
use Rattle.algebra.specs.Coding.{flat, over}
use Rattle.answer.specs.Bytes.{any_above}
use Rattle.answer.specs.Outcome.{by_number, answered}
use Rattle.answer.specs.Tests.{is_met, first_fault}
use Rattle.pads.specs.Triples.Call.{triples}
use Rattle.pads.specs.Triples.Triple.{triple_from, triple_of}
use Rattle.claims.proofs.Triples as dealt
use Rattle.claims.specs.Formed.{FormedAt}
use Rattle.example_pads.specs.Triples.{lent₁, lent₂, TriplesExample}
use Rattle.example_pads.proofs.Pads.{first_dealing, second_dealing, first_taken, second-taken}

pub formed : (i : ℕ) → i < 2 → FormedAt lent₁ lent₂ i i
unfolding any_above is_met first_fault by_number answered triples
formed i h =
    record {
      source = of_dealing first_dealing;
      source' = of_dealing second_dealing;
      accepted = refl;
      accepted' = refl;
      taken = first_taken i h;
      taken' = second-taken i h;
    }

pub triples_example : TriplesExample
unfolding any_above is_met first_fault by_number answered triples flat over triple_from triple_of
triples_example = record { formed = formed; triples₁ = refl; triples₂ = refl; match = λ i h. (dealt.triples lent₁ lent₂ i i (formed i h)).2 }
