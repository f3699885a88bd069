-- Nothing is vacuous: a circuit with one AND, run to its end by both ends on the triple at place 1 of those of `Triples`, with a refused
-- step at each end (document 02, 9), through what `Circuits` asks.
use Rattle.std.specs.Prelude.{◌≡◌, List, [], ◌∷◌, ℕ, ◌<◌, replicate}
use Rattle.circuit.specs.Content.{And, Not, Xor, Circuit, ands_in}
use Rattle.circuit.specs.Reading.{read_circuit}
use Rattle.circuit.specs.Value.{value_of}
use Rattle.circuit_run.specs.Step.{StepLent, lent_with}
use Rattle.circuit_claims.specs.Evaluation.{combined, Ends}
use Rattle.circuit_claims.specs.Runs.{StepMade, steps_of, IsStep, written_by}
use Rattle.number.specs.Reading.{Whole}
use Rattle.claims.specs.Formed.{GatheredAt}

-- two inputs, wires 0 and 1; wire 2 is their AND, wire 3 its NOT, wire 4 the exclusive or of wires 3 and 0; the outputs are wires 2
-- and 4
abbrev pub circuit : Circuit
circuit = record { inputs = 2; gates = And 0 1 ∷ Not 2 ∷ Xor 3 0 ∷ []; outputs = 2 ∷ 4 ∷ [] }

abbrev pub circuit_bytes : List ℕ
circuit_bytes = 2 ∷ 3 ∷ 2 ∷ 2 ∷ 0 ∷ 1 ∷ 3 ∷ 2 ∷ 1 ∷ 3 ∷ 0 ∷ 2 ∷ 4 ∷ []

-- each end's shares of the inputs, which combine to 0 and 0, and its triple
abbrev pub shares₁ : List ℕ
shares₁ = 1 ∷ 0 ∷ []

abbrev pub shares₂ : List ℕ
shares₂ = 1 ∷ 0 ∷ []

abbrev pub triple₁ : List ℕ
triple₁ = 1 ∷ 0 ∷ 0 ∷ []

abbrev pub triple₂ : List ℕ
triple₂ = 0 ∷ 1 ∷ 1 ∷ []

-- a step of each end, with an output buffer of so many bytes and these far bits
abbrev pub step₁ : ℕ → ℕ → ℕ → StepLent
step₁ room far_first far_second = lent_with 1 circuit_bytes shares₁ triple₁ (replicate room 7) far_first far_second

abbrev pub step₂ : ℕ → ℕ → ℕ → StepLent
step₂ room far_first far_second = lent_with 2 circuit_bytes shares₂ triple₂ (replicate room 7) far_first far_second

-- role 1: the first step, one that is refused for a far bit of 2, and one with the bits that role 2 gave, 1 and 1
abbrev pub calls₁ : List StepLent
calls₁ = step₁ 2 0 0 ∷ step₁ 2 2 1 ∷ step₁ 2 1 1 ∷ []

-- role 2: one that is refused for an output buffer of one byte, the first step, and one with the bits that role 1 gave, 0 and 0
abbrev pub calls₂ : List StepLent
calls₂ = step₂ 1 0 0 ∷ step₂ 2 0 0 ∷ step₂ 2 0 0 ∷ []

-- the second accepted step of a run finishes it, and writes these outputs
pub record Finished (calls : List StepLent) (outputs : List ℕ) : Type 0 where
  pub made : StepMade
  pub step : IsStep (steps_of calls) 1 made
  pub phase : made.gave.state.phase ≡ 2
  pub written : written_by made.gave ≡ outputs

pub record CircuitExample : Type 0 where
  pub read : read_circuit circuit_bytes ≡ Whole circuit
  pub ends : Ends circuit_bytes shares₁ triple₁ shares₂ triple₂ (steps_of calls₁) (steps_of calls₂)
  pub gathered : (j : ℕ) → j < ands_in circuit.gates → GatheredAt triple₁ triple₂ j
  pub finished₁ : Finished calls₁ (0 ∷ 0 ∷ [])
  pub finished₂ : Finished calls₂ (0 ∷ 1 ∷ [])
  -- the combined outputs are the circuit's on the combined inputs
  pub value : combined (0 ∷ 0 ∷ []) (0 ∷ 1 ∷ []) ≡ value_of circuit (combined shares₁ shares₂)
