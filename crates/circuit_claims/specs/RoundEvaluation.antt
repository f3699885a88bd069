-- What two ends have together (circuits in rounds): when both finish the same circuit on matching triples, with each other's bits and
-- their own state, circuit, shares and triples unaltered, the combined outputs equal the circuit on the combined inputs.
use Rattle.std.specs.Prelude.{ℕ, suc, List, ◌≡◌}
use Rattle.circuit.specs.Content.{Circuit, ands_in}
use Rattle.circuit.specs.Reading.{read_circuit}
use Rattle.circuit.specs.Value.{value_of}
use Rattle.circuit_run.specs.Round.{RoundLent}
use Rattle.circuit_claims.specs.Evaluation.{combined}
use Rattle.number.specs.Reading.{Whole}
use Rattle.pads.specs.Triples.Matching.{Matching}
use Rattle.circuit_claims.specs.RoundRuns.{RoundMade, rounds_of, IsRound, outputs_by, bits_by, Finished}

-- a round with an end's own role, circuit, shares and triples
pub record OwnRound (role : ℕ) (circuit shares triples : List ℕ) (l : RoundLent) : Type 0 where
  pub own-role : l.role ≡ role
  pub own-circuit : l.circuit ≡ circuit
  pub own-shares : l.shares ≡ shares
  pub own-triples : l.triples ≡ triples

-- each accepted round of a run is such; what a refused round gets is free
abbrev pub UnalteredRounds : ℕ → List ℕ → List ℕ → List ℕ → List RoundMade → Type 0
UnalteredRounds role circuit shares triples made = (k : ℕ) (m : RoundMade) → IsRound made k m → OwnRound role circuit shares triples m.got

-- accepted round k + 1 gets exactly the bytes that the far end's accepted round k wrote, where both are there
abbrev pub ReceivesRounds : List RoundMade → List RoundMade → Type 0
ReceivesRounds made far = (k : ℕ) (m f : RoundMade) → IsRound made (suc k) m → IsRound far k f → m.got.far ≡ bits_by f.gave

-- two runs of one circuit, one in each role
pub record RoundEnds (circuit shares₁ triples₁ shares₂ triples₂ : List ℕ) (made₁ made₂ : List RoundMade) : Type 0 where
  pub role_1 : UnalteredRounds 1 circuit shares₁ triples₁ made₁
  pub role_2 : UnalteredRounds 2 circuit shares₂ triples₂ made₂
  pub to_1 : ReceivesRounds made₁ made₂
  pub to_2 : ReceivesRounds made₂ made₁

-- the claim, about every two runs and every finished round of each
abbrev pub RoundEvaluation : Type 0
RoundEvaluation =
    (circuit : List ℕ) (c : Circuit) → read_circuit circuit ≡ Whole c
    → (calls₁ calls₂ : List RoundLent) (shares₁ triples₁ shares₂ triples₂ : List ℕ)
    → RoundEnds circuit shares₁ triples₁ shares₂ triples₂ (rounds_of calls₁) (rounds_of calls₂)
    → Matching (ands_in c.gates) triples₁ triples₂
    → (k₁ k₂ : ℕ) (m₁ m₂ : RoundMade) → IsRound (rounds_of calls₁) k₁ m₁ → IsRound (rounds_of calls₂) k₂ m₂
    → Finished m₁.gave → Finished m₂.gave
    → combined (outputs_by m₁.gave) (outputs_by m₂.gave) ≡ value_of c (combined shares₁ shares₂)
