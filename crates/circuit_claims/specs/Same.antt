-- Rounds and steps give the same (circuits in rounds): with equal role, circuit, shares and triples, and for every AND the same far
-- bits, a run in rounds has the outputs and the shares of a run in steps, and sends the same bits. It asks neither for an honest far end
-- nor for matching triples.
use Rattle.std.specs.Prelude.{ℕ, suc, ◌+◌, ◌*◌, ◌<◌, true, List, ◌↔◌, ◌≡◌, get_or, take, drop}
use Rattle.circuit.specs.Content.{Circuit, is_and, ands_in}
use Rattle.circuit.specs.Levels.{levels, level_of, ands_of}
use Rattle.circuit.specs.Reading.{read_circuit}
use Rattle.circuit_run.specs.Round.{RoundLent, known_as}
use Rattle.circuit_run.specs.Step.{StepLent, gate_at, ands_before}
use Rattle.circuit_claims.specs.Evaluation.{Unaltered}
use Rattle.circuit_claims.specs.Progress.{OnCircuit}
use Rattle.circuit_claims.specs.Runs.{StepMade, steps_of, IsStep, written_by}
use Rattle.number.specs.Reading.{Whole}
use Rattle.circuit_claims.specs.RoundEvaluation.{UnalteredRounds}
use Rattle.circuit_claims.specs.RoundProgress.{RoundsOn}
use Rattle.circuit_claims.specs.RoundRuns.{RoundMade, rounds_of, IsRound, outputs_by, bits_by, Finished, IsWire, byte_of, Waits}

-- the level of the gate i
abbrev pub level_at : Circuit → ℕ → ℕ
level_at c i = level_of c (c.inputs + i)

-- the place of the bits of the AND at gate i among those of its level: two for each AND of that level before it
abbrev pub place_at : Circuit → ℕ → ℕ
place_at c i = 2 * ands_of (level_at c i) (take i c.gates) (drop c.inputs (levels c))

-- the AND at gate i got the same far bits, where both runs got them: in steps, with j ANDs before it, those of accepted step j + 1, in
-- rounds those at its place in the accepted round of its level
abbrev pub SameFar : Circuit → List StepMade → List RoundMade → ℕ → Type 0
SameFar c steps made i =
    (m : StepMade) (r : RoundMade) → IsStep steps (suc (ands_before c i)) m → IsRound made (level_at c i) r
    → (m.got.far_first ≡ get_or r.got.far (place_at c i) 0) × (m.got.far_second ≡ get_or r.got.far (place_at c i + 1) 0)

-- the same bits were sent for the AND at gate i: in steps by accepted step j, in rounds by the accepted round before that of its level
abbrev pub SameSent : Circuit → List StepMade → List RoundMade → ℕ → Type 0
SameSent c steps made i =
    (k : ℕ) (m : StepMade) (r : RoundMade) → level_at c i ≡ suc k → IsStep steps (ands_before c i) m → IsRound made k r
    → (m.gave.first_bit ≡ get_or (bits_by r.gave) (place_at c i) 0) × (m.gave.second_bit ≡ get_or (bits_by r.gave) (place_at c i + 1) 0)

-- a run in steps and a run in rounds with equal role, circuit and shares, and equal triples below the number of ANDs
pub record Alike (circuit : List ℕ) (c : Circuit) (role : ℕ) (shares triples₁ triples₂ : List ℕ) (steps : List StepMade) (made : List RoundMade) : Type 0 where
  pub reads : read_circuit circuit ≡ Whole c
  pub in-steps : Unaltered role circuit shares triples₁ steps
  pub in-rounds : UnalteredRounds role circuit shares triples₂ made
  pub same-triples : take (3 * ands_in c.gates) triples₁ ≡ take (3 * ands_in c.gates) triples₂

-- the same outputs, and every wire's byte stands for the step's share
abbrev pub SameOutputs : Type 0
SameOutputs =
    (circuit : List ℕ) (c : Circuit) (role : ℕ) (shares triples₁ triples₂ : List ℕ) (calls₁ : List StepLent) (calls₂ : List RoundLent)
    → Alike circuit c role shares triples₁ triples₂ (steps_of calls₁) (rounds_of calls₂)
    → ((i : ℕ) → is_and (gate_at c i) ≡ true → SameFar c (steps_of calls₁) (rounds_of calls₂) i)
    → (k₁ k₂ : ℕ) (m : StepMade) (r : RoundMade) → IsStep (steps_of calls₁) k₁ m → IsRound (rounds_of calls₂) k₂ r
    → m.gave.state.phase ≡ 2 → Finished r.gave
    → (written_by m.gave ≡ outputs_by r.gave)
    × ((w : ℕ) → IsWire c w → byte_of r.gave.state w ≡ known_as (get_or m.gave.state.wires w 0))

-- the same bits: those of an AND follow from the far bits of the ANDs before it
abbrev pub SameBits : Type 0
SameBits =
    (circuit : List ℕ) (c : Circuit) (role : ℕ) (shares triples₁ triples₂ : List ℕ) (calls₁ : List StepLent) (calls₂ : List RoundLent)
    → Alike circuit c role shares triples₁ triples₂ (steps_of calls₁) (rounds_of calls₂)
    → (i : ℕ) → is_and (gate_at c i) ≡ true
    → ((n : ℕ) → n < i → is_and (gate_at c n) ≡ true → SameFar c (steps_of calls₁) (rounds_of calls₂) n)
    → SameSent c (steps_of calls₁) (rounds_of calls₂) i

-- each AND is opened by one step and by one round, while the circuit stays, and a finished run has opened it
pub record OpenedOnce : Type 0 where
  pub by_step : (circuit : List ℕ) (c : Circuit) → read_circuit circuit ≡ Whole c → (calls : List StepLent) → OnCircuit circuit (steps_of calls)
      → (k : ℕ) (m : StepMade) → IsStep (steps_of calls) k m → (i : ℕ) → is_and (gate_at c i) ≡ true
      → (((m.gave.state.phase ≡ 1) × (m.gave.state.gate ≡ i)) ↔ ands_before c i ≡ k) × (m.gave.state.phase ≡ 2 → ands_before c i < k)
  pub by_round : (circuit : List ℕ) (c : Circuit) → read_circuit circuit ≡ Whole c → (calls : List RoundLent) → RoundsOn circuit (rounds_of calls)
      → (k : ℕ) (m : RoundMade) → IsRound (rounds_of calls) k m → (i : ℕ) → is_and (gate_at c i) ≡ true
      → (Waits m.gave.state (c.inputs + i) ↔ level_at c i ≡ suc k) × (Finished m.gave → level_at c i < suc k)
