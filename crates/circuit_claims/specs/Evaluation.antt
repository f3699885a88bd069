-- What two ends have together (document 02, 9): when both finish the same circuit on matching triples, with each other's bits and their
-- own state, circuit, shares and triples unaltered, the combined outputs equal the circuit on the combined inputs.
use Rattle.std.specs.Prelude.{ℕ, suc, List, [], ◌∷◌, ◌≡◌}
use Rattle.std.specs.Int.Bits.{bit_xor}
use Rattle.circuit.specs.Content.{Circuit, ands_in}
use Rattle.circuit.specs.Reading.{read_circuit}
use Rattle.circuit.specs.Value.{value_of}
use Rattle.number.specs.Reading.{Whole}
use Rattle.circuit_claims.specs.Runs.{StepMade, steps_of, IsStep, written_by}
use Rattle.circuit_run.specs.Step.{StepLent}
use Rattle.pads.specs.Triples.Matching.{Matching}

-- both ends' shares combined
unfoldable pub combined : List ℕ → List ℕ → List ℕ
combined [] ys = []
combined (x ∷ xs) [] = []
combined (x ∷ xs) (y ∷ ys) = bit_xor x y ∷ combined xs ys

-- a step with an end's own role, circuit, shares and triples
pub record Own (role : ℕ) (circuit shares triples : List ℕ) (l : StepLent) : Type 0 where
  pub own-role : l.role ≡ role
  pub own-circuit : l.circuit ≡ circuit
  pub own-shares : l.shares ≡ shares
  pub own-triples : l.triples ≡ triples

-- each accepted step of a run is such; what a refused step gets is free
abbrev pub Unaltered : ℕ → List ℕ → List ℕ → List ℕ → List StepMade → Type 0
Unaltered role circuit shares triples steps = (k : ℕ) (m : StepMade) → IsStep steps k m → Own role circuit shares triples m.got

-- accepted step k + 1, where it is on a state that waits, gets the bits that the far end's accepted step k gave
abbrev pub Receives : List StepMade → List StepMade → Type 0
Receives steps far =
    (k : ℕ) (before m f : StepMade) → IsStep steps k before → before.gave.state.phase ≡ 1 → IsStep steps (suc k) m → IsStep far k f
    → (m.got.far_first ≡ f.gave.first_bit) × (m.got.far_second ≡ f.gave.second_bit)

-- two runs of one circuit, one in each role
pub record Ends (circuit shares₁ triples₁ shares₂ triples₂ : List ℕ) (steps₁ steps₂ : List StepMade) : Type 0 where
  pub role_1 : Unaltered 1 circuit shares₁ triples₁ steps₁
  pub role_2 : Unaltered 2 circuit shares₂ triples₂ steps₂
  pub to_1 : Receives steps₁ steps₂
  pub to_2 : Receives steps₂ steps₁

-- the claim, about every two runs and every finished step of each
abbrev pub Evaluation : Type 0
Evaluation =
    (circuit : List ℕ) (c : Circuit) → read_circuit circuit ≡ Whole c
    → (calls₁ calls₂ : List StepLent) (shares₁ triples₁ shares₂ triples₂ : List ℕ)
    → Ends circuit shares₁ triples₁ shares₂ triples₂ (steps_of calls₁) (steps_of calls₂)
    → Matching (ands_in c.gates) triples₁ triples₂
    → (k₁ k₂ : ℕ) (m₁ m₂ : StepMade) → IsStep (steps_of calls₁) k₁ m₁ → IsStep (steps_of calls₂) k₂ m₂
    → m₁.gave.state.phase ≡ 2 → m₂.gave.state.phase ≡ 2
    → combined (written_by m₁.gave) (written_by m₂.gave) ≡ value_of c (combined shares₁ shares₂)
