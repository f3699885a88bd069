-- Circuits in rounds on dealings' own triples: the claim about two runs in rounds on triples that match by request 6's.
use native.Mathlib.Omega.{arith}
use Rattle.circuit_claims.proofs.RoundEvaluates.{evaluation}
use Rattle.claims.specs.RoundCircuits.{RoundCircuits}
use Rattle.claims.proofs.Triples.{gathered-match}

pub round_circuits : RoundCircuits
round_circuits circuit c read calls₁ calls₂ shares₁ triples₁ shares₂ triples₂ E G =
    evaluation circuit c read calls₁ calls₂ shares₁ triples₁ shares₂ triples₂ E (λ j h. gathered-match triples₁ triples₂ j (G j (omega arith)))
