-- Nothing is vacuous: a circuit of three ANDs, run to its end by both ends in steps and in rounds (document 02, 9; circuits in rounds), on
-- the pads of `WindowsExample`. Rounds open the first and the third AND before the second. The triples are gathered from two calls an end,
-- which divide the three indices differently, so that equal indices stand at different places. What is claimed is had from the statements
-- themselves.
use Rattle.std.specs.Prelude.{◌≡◌, true, List, [], ◌∷◌, ◌++◌, ℕ, ◌<◌, take, drop, replicate}
use Rattle.circuit.specs.Content.{And, Circuit, ands_in}
use Rattle.circuit.specs.Reading.{read_circuit}
use Rattle.circuit.specs.Value.{value_of}
use Rattle.circuit_run.specs.Round.{RoundLent, round_with}
use Rattle.circuit_run.specs.Step.{StepLent, lent_with, gate_at, ands_before}
use Rattle.circuit_claims.specs.Evaluation.{combined, Ends}
use Rattle.circuit_claims.specs.RoundEvaluation.{RoundEnds}
use Rattle.circuit_claims.specs.RoundRuns.{RoundMade, rounds_of, IsRound, outputs_by, bits_by, Finished, Waits}
use Rattle.circuit_claims.specs.Runs.{StepMade, steps_of, IsStep, written_by}
use Rattle.circuit_claims.specs.Same.{level_at, SameFar, SameSent}
use Rattle.number.specs.Reading.{Whole}
use Rattle.pads.specs.Triples.Call.{TriplesLent}
use Rattle.pads.specs.Triples.Matching.{triples_of}
use Rattle.claims.specs.Formed.{FormedAt, GatheredAt}
use Rattle.example_levels.specs.Levels.{two_level_numbers, three_level_numbers}
use Rattle.example_runs.specs.Windows.{u_from, noise₀, noise₁₂, scalar₀₁₂, noise₀₁₂, scalar₀₁, scalar₂}

-- ---- triples

-- one end's calls: indices 0 and 1, and index 2
abbrev pub near₀₁ : TriplesLent
near₀₁ =
    record { choices = u_from two_level_numbers 0 2; pads = noise₀ ++ take 16 noise₁₂; pad_pairs = scalar₀₁; triples = replicate 6 7 }

abbrev pub near₂ : TriplesLent
near₂ = record { choices = u_from two_level_numbers 2 1; pads = drop 16 noise₁₂; pad_pairs = scalar₂; triples = replicate 3 7 }

-- the other's: index 0, and indices 1 and 2
abbrev pub far₀ : TriplesLent
far₀ =
    record { choices = u_from three_level_numbers 0 1; pads = take 16 noise₀₁₂; pad_pairs = take 32 scalar₀₁₂; triples = replicate 3 7 }

abbrev pub far₁₂ : TriplesLent
far₁₂ =
    record { choices = u_from three_level_numbers 1 2; pads = drop 16 noise₀₁₂; pad_pairs = drop 32 scalar₀₁₂; triples = replicate 6 7 }

-- both ends' triples: what the first call wrote, and then what the second did
abbrev pub triples₁ : List ℕ
triples₁ = 1 ∷ 1 ∷ 0 ∷ 0 ∷ 1 ∷ 1 ∷ 0 ∷ 1 ∷ 1 ∷ []

abbrev pub triples₂ : List ℕ
triples₂ = 1 ∷ 1 ∷ 0 ∷ 1 ∷ 0 ∷ 0 ∷ 0 ∷ 0 ∷ 1 ∷ []

-- ---- the circuit

-- three inputs, wires 0 to 2; wire 3 is the AND of 0 and 1, wire 4 that of 3 and 2, wire 5 that of 1 and 2; the outputs are wires 4 and 5
abbrev pub circuit : Circuit
circuit = record { inputs = 3; gates = And 0 1 ∷ And 3 2 ∷ And 1 2 ∷ []; outputs = 4 ∷ 5 ∷ [] }

abbrev pub circuit_bytes : List ℕ
circuit_bytes = 3 ∷ 3 ∷ 2 ∷ 2 ∷ 0 ∷ 1 ∷ 2 ∷ 3 ∷ 2 ∷ 2 ∷ 1 ∷ 2 ∷ 4 ∷ 5 ∷ []

-- each end's shares of the inputs, which combine to 0, 1 and 1
abbrev pub shares₁ : List ℕ
shares₁ = 1 ∷ 0 ∷ 0 ∷ []

abbrev pub shares₂ : List ℕ
shares₂ = 1 ∷ 1 ∷ 1 ∷ []

-- steps of each end with these far bits, and the runs: the far bits of the three ANDs, in the order of the gates
abbrev pub step₁ : ℕ → ℕ → StepLent
step₁ far_first far_second = lent_with 1 circuit_bytes shares₁ triples₁ (replicate 2 7) far_first far_second

abbrev pub step₂ : ℕ → ℕ → StepLent
step₂ far_first far_second = lent_with 2 circuit_bytes shares₂ triples₂ (replicate 2 7) far_first far_second

abbrev pub steps₁ : List StepLent
steps₁ = step₁ 0 0 ∷ step₁ 0 0 ∷ step₁ 0 1 ∷ step₁ 1 1 ∷ []

abbrev pub steps₂ : List StepLent
steps₂ = step₂ 0 0 ∷ step₂ 0 1 ∷ step₂ 1 1 ∷ step₂ 0 1 ∷ []

-- rounds of each end with these far bytes, and the runs: the far bits of the first and the third AND, and then those of the second
abbrev pub round₁ : List ℕ → RoundLent
round₁ far = round_with 1 circuit_bytes shares₁ triples₁ (replicate 2 7) far (replicate 6 7)

abbrev pub round₂ : List ℕ → RoundLent
round₂ far = round_with 2 circuit_bytes shares₂ triples₂ (replicate 2 7) far (replicate 6 7)

abbrev pub rounds₁ : List RoundLent
rounds₁ = round₁ [] ∷ round₁ (0 ∷ 0 ∷ 1 ∷ 1 ∷ []) ∷ round₁ (0 ∷ 1 ∷ []) ∷ []

abbrev pub rounds₂ : List RoundLent
rounds₂ = round₂ [] ∷ round₂ (0 ∷ 1 ∷ 0 ∷ 1 ∷ []) ∷ round₂ (1 ∷ 1 ∷ []) ∷ []

-- ---- what is shown

-- accepted step 3 of a run finishes it and writes these outputs
pub record StepsEnd (calls : List StepLent) (outputs : List ℕ) : Type 0 where
  pub made : StepMade
  pub step : IsStep (steps_of calls) 3 made
  pub phase : made.gave.state.phase ≡ 2
  pub written : written_by made.gave ≡ outputs

-- accepted round 2 does
pub record RoundsEnd (calls : List RoundLent) (outputs : List ℕ) : Type 0 where
  pub made : RoundMade
  pub round : IsRound (rounds_of calls) 2 made
  pub finished : Finished made.gave
  pub written : outputs_by made.gave ≡ outputs

pub record RunsExample : Type 0 where
  -- index 0 is place 0 of both calls, index 1 place 1 of one and place 0 of the other, index 2 place 0 of one and place 1 of the other
  pub formed₀ : FormedAt near₀₁ far₀ 0 0
  pub formed₁ : FormedAt near₀₁ far₁₂ 1 0
  pub formed₂ : FormedAt near₂ far₁₂ 0 1
  pub gathered₁ : triples₁ ≡ triples_of near₀₁ ++ triples_of near₂
  pub gathered₂ : triples₂ ≡ triples_of far₀ ++ triples_of far₁₂
  pub gathered : (j : ℕ) → j < ands_in circuit.gates → GatheredAt triples₁ triples₂ j
  -- the runs
  pub read : read_circuit circuit_bytes ≡ Whole circuit
  pub ends : Ends circuit_bytes shares₁ triples₁ shares₂ triples₂ (steps_of steps₁) (steps_of steps₂)
  pub round-ends : RoundEnds circuit_bytes shares₁ triples₁ shares₂ triples₂ (rounds_of rounds₁) (rounds_of rounds₂)
  pub steps_end₁ : StepsEnd steps₁ (0 ∷ 0 ∷ [])
  pub steps_end₂ : StepsEnd steps₂ (0 ∷ 1 ∷ [])
  pub rounds_end₁ : RoundsEnd rounds₁ (0 ∷ 0 ∷ [])
  pub rounds_end₂ : RoundsEnd rounds₂ (0 ∷ 1 ∷ [])
  -- by `Circuits` and `RoundCircuits`: the combined outputs are the circuit's on the combined inputs, 0 and 1
  pub value :
      combined (written_by steps_end₁.made.gave) (written_by steps_end₂.made.gave) ≡ value_of circuit (combined shares₁ shares₂)
  pub round-value :
      combined (outputs_by rounds_end₁.made.gave) (outputs_by rounds_end₂.made.gave) ≡ value_of circuit (combined shares₁ shares₂)
  pub is-value : value_of circuit (combined shares₁ shares₂) ≡ 0 ∷ 1 ∷ []
  -- by `SameOutputs`: an end writes the same in steps and in rounds
  pub same-outputs : written_by steps_end₁.made.gave ≡ outputs_by rounds_end₁.made.gave
  -- by `SameBits`: for the third AND, at gate 2, an end sends the same bits by step 2 and by round 0
  pub same_bits : SameSent circuit (steps_of steps₁) (rounds_of rounds₁) 2
  -- by `OpenedOnce`: after round 0 the first and the third AND wait, on wires 3 and 5, and the second, on wire 4, does not
  pub opened : (m : RoundMade) → IsRound (rounds_of rounds₁) 0 m
      → Waits m.gave.state 3 × (Waits m.gave.state 4 → ⊥) × Waits m.gave.state 5
