-- Circuits in rounds on dealings' own triples: when both ends, one in each role, finish the same circuit in rounds on triples that they
-- gathered from pairings with the roles exchanged, one for each AND, with each other's bits and their own state, circuit, shares and
-- triples unaltered, the combined outputs equal the circuit on the combined inputs.
use Rattle.std.specs.Prelude.{List, ◌≡◌, ℕ, ◌<◌}
use Rattle.circuit.specs.Content.{Circuit, ands_in}
use Rattle.circuit.specs.Reading.{read_circuit}
use Rattle.circuit.specs.Value.{value_of}
use Rattle.circuit_run.specs.Round.{RoundLent}
use Rattle.circuit_claims.specs.Evaluation.{combined}
use Rattle.number.specs.Reading.{Whole}
use Rattle.circuit_claims.specs.RoundEvaluation.{RoundEnds}
use Rattle.circuit_claims.specs.RoundRuns.{RoundMade, rounds_of, IsRound, outputs_by, Finished}
use Rattle.claims.specs.Formed.{GatheredAt}

-- each AND has its own two pairings, as in `Circuits`
abbrev pub RoundCircuits : Type 0
RoundCircuits =
    (circuit : List ℕ) (c : Circuit) → read_circuit circuit ≡ Whole c
    → (calls₁ calls₂ : List RoundLent) (shares₁ triples₁ shares₂ triples₂ : List ℕ)
    → RoundEnds circuit shares₁ triples₁ shares₂ triples₂ (rounds_of calls₁) (rounds_of calls₂)
    → ((j : ℕ) → j < ands_in c.gates → GatheredAt triples₁ triples₂ j)
    → (k₁ k₂ : ℕ) (m₁ m₂ : RoundMade) → IsRound (rounds_of calls₁) k₁ m₁ → IsRound (rounds_of calls₂) k₂ m₂
    → Finished m₁.gave → Finished m₂.gave
    → combined (outputs_by m₁.gave) (outputs_by m₂.gave) ≡ value_of c (combined shares₁ shares₂)
