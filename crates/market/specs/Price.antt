-- Bids to price: when two houses finish the market's circuit in rounds (`BidsToPrice`) or in steps (`BidsToPriceBySteps`), on shares of
-- the bits of their bids and on triples gathered as `RoundCircuits` and `Circuits` ask, the combined outputs say what clears.
use Rattle.std.specs.Prelude.{ℕ, ◌+◌, ◌≤◌, ◌<◌, List, ◌++◌, ◌≡◌, length}
use Rattle.circuit.specs.Admitted.{most_wires, AdmittedCircuit}
use Rattle.circuit.specs.Content.{Circuit, ands_in}
use Rattle.circuit.specs.Writing.{write_circuit}
use Rattle.circuit_claims.specs.Evaluation.{combined, Ends}
use Rattle.circuit_claims.specs.RoundEvaluation.{RoundEnds}
use Rattle.circuit_claims.specs.RoundRuns.{RoundMade, rounds_of, IsRound, outputs_by, Finished}
use Rattle.circuit_claims.specs.Runs.{StepMade, steps_of, IsStep, written_by}
use Rattle.circuit_run.specs.Round.{RoundLent}
use Rattle.circuit_run.specs.Step.{StepLent}
use Rattle.claims.specs.Formed.{GatheredAt}
use Rattle.market.specs.Bids.{Bids, bid_bits, Within, SaysClearing}
use Rattle.market.specs.Circuit.{clearing_circuit}

-- sizes whose circuit has no more wires than are admitted
pub record Sizes (L b : ℕ) : Type 0 where
  pub levels : 1 ≤ L
  pub bits : 1 ≤ b
  pub wires : (clearing_circuit L b).inputs + length (clearing_circuit L b).gates ≤ most_wires

-- then the circuit is admitted
abbrev pub MarketAdmitted : Type 0
MarketAdmitted = (L b : ℕ) → Sizes L b → AdmittedCircuit (clearing_circuit L b)

abbrev pub BidsToPrice : Type 0
BidsToPrice =
    (L b : ℕ) → Sizes L b → (x y : Bids) → Within L b x → Within L b y
    → (calls₁ calls₂ : List RoundLent) (shares₁ triples₁ shares₂ triples₂ : List ℕ)
    → combined shares₁ shares₂ ≡ bid_bits L b x ++ bid_bits L b y
    → RoundEnds (write_circuit (clearing_circuit L b)) shares₁ triples₁ shares₂ triples₂ (rounds_of calls₁) (rounds_of calls₂)
    → ((j : ℕ) → j < ands_in (clearing_circuit L b).gates → GatheredAt triples₁ triples₂ j)
    → (k₁ k₂ : ℕ) (m₁ m₂ : RoundMade) → IsRound (rounds_of calls₁) k₁ m₁ → IsRound (rounds_of calls₂) k₂ m₂
    → Finished m₁.gave → Finished m₂.gave
    → SaysClearing L x y (combined (outputs_by m₁.gave) (outputs_by m₂.gave))

abbrev pub BidsToPriceBySteps : Type 0
BidsToPriceBySteps =
    (L b : ℕ) → Sizes L b → (x y : Bids) → Within L b x → Within L b y
    → (calls₁ calls₂ : List StepLent) (shares₁ triples₁ shares₂ triples₂ : List ℕ)
    → combined shares₁ shares₂ ≡ bid_bits L b x ++ bid_bits L b y
    → Ends (write_circuit (clearing_circuit L b)) shares₁ triples₁ shares₂ triples₂ (steps_of calls₁) (steps_of calls₂)
    → ((j : ℕ) → j < ands_in (clearing_circuit L b).gates → GatheredAt triples₁ triples₂ j)
    → (k₁ k₂ : ℕ) (m₁ m₂ : StepMade) → IsStep (steps_of calls₁) k₁ m₁ → IsStep (steps_of calls₂) k₂ m₂
    → m₁.gave.state.phase ≡ 2 → m₂.gave.state.phase ≡ 2
    → SaysClearing L x y (combined (written_by m₁.gave) (written_by m₂.gave))
