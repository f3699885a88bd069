-- Circuits run on dealings' own triples (document 02, 9): when both ends, one in each role, finish the same circuit on triples that
-- they gathered from pairings with the roles exchanged, one for each AND, with each other's bits and their own state, circuit, shares
-- and triples unaltered, the combined outputs equal the circuit on the combined inputs.
use Rattle.std.specs.Prelude.{List, ◌≡◌, ℕ, ◌<◌}
use Rattle.circuit.specs.Content.{Circuit, ands_in}
use Rattle.circuit.specs.Reading.{read_circuit}
use Rattle.circuit.specs.Value.{value_of}
use Rattle.circuit_run.specs.Step.{StepLent}
use Rattle.circuit_claims.specs.Evaluation.{combined, Ends}
use Rattle.circuit_claims.specs.Runs.{StepMade, steps_of, IsStep, written_by}
use Rattle.number.specs.Reading.{Whole}
use Rattle.claims.specs.Formed.{GatheredAt}

-- each AND has its own two pairings: role 1 is the noise end of the first, and role 2 that of the second
abbrev pub Circuits : Type 0
Circuits =
    (circuit : List ℕ) (c : Circuit) → read_circuit circuit ≡ Whole c
    → (calls₁ calls₂ : List StepLent) (shares₁ triples₁ shares₂ triples₂ : List ℕ)
    → Ends circuit shares₁ triples₁ shares₂ triples₂ (steps_of calls₁) (steps_of calls₂)
    → ((j : ℕ) → j < ands_in c.gates → GatheredAt triples₁ triples₂ j)
    → (k₁ k₂ : ℕ) (m₁ m₂ : StepMade) → IsStep (steps_of calls₁) k₁ m₁ → IsStep (steps_of calls₂) k₂ m₂
    → m₁.gave.state.phase ≡ 2 → m₂.gave.state.phase ≡ 2
    → combined (written_by m₁.gave) (written_by m₂.gave) ≡ value_of c (combined shares₁ shares₂)
