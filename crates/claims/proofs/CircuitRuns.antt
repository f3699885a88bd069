-- Circuits on dealings' own triples: request 9's claim on triples that match by request 6's. Test 18 says that the triples of an
-- accepted step are enough, so lists of triples that are all gathered need no premise on their number.
use mathlib.Core.List.{List}
use mathlib.Core.Path.{◌≡◌, refl}
use Prim.Native.Nat.{ℕ, ◌*◌, ◌<◌}
use native.Mathlib.Omega.{arith}
use lib.ListN.{length}
use Rattle.circuit.specs.Content.{Circuit}
use Rattle.circuit.specs.Reading.{read_circuit}
use Rattle.circuit.specs.Value.{value_of}
use Rattle.circuit_run.specs.Step.{StepLent}
use Rattle.circuit_claims.proofs.Evaluates.{stood, evaluation}
use Rattle.circuit_claims.specs.Evaluation.{combined, Ends}
use Rattle.circuit_claims.specs.Runs.{StepMade, steps_of, IsStep, written_by}
use Rattle.number.specs.Reading.{Whole}
use Rattle.pads.proofs.Triples.Matching.{length-triples}
use Rattle.pads.specs.Triples.Call.{TriplesLent, triples}
use Rattle.pads.specs.Triples.Matching.{triples_of}
use Rattle.claims.specs.Circuits.{Circuits}
use Rattle.claims.specs.Formed.{GatheredAt}
use Rattle.claims.specs.Taken.{Taken}
use Rattle.claims.specs.Source.{Binary}
use Rattle.claims.proofs.Gathered.{Drawn, drawn₁, drawn₂, drawn, drawn-length, gathered}
use Rattle.claims.proofs.Triples.{gathered-match}

pub circuits : Circuits
circuits circuit c read calls₁ calls₂ shares₁ triples₁ shares₂ triples₂ E G =
    evaluation circuit c read calls₁ calls₂ shares₁ triples₁ shares₂ triples₂ E (λ j h. gathered-match triples₁ triples₂ j (G j (omega arith)))

-- ---- lists of triples that are gathered to their end: one call of each end, or several, meet the premise of `Circuits` for every AND. These
-- results are cited by none.

-- on these triples, where both ends finish a circuit, their combined outputs are its value
abbrev pub Evaluates : List ℕ → List ℕ → Type 0
Evaluates triples₁ triples₂ =
    (circuit : List ℕ) (c : Circuit) → read_circuit circuit ≡ Whole c
    → (calls₁ calls₂ : List StepLent) (shares₁ shares₂ : List ℕ)
    → Ends circuit shares₁ triples₁ shares₂ triples₂ (steps_of calls₁) (steps_of calls₂)
    → (k₁ k₂ : ℕ) (m₁ m₂ : StepMade) → IsStep (steps_of calls₁) k₁ m₁ → IsStep (steps_of calls₂) k₂ m₂
    → m₁.gave.state.phase ≡ 2 → m₂.gave.state.phase ≡ 2
    → combined (written_by m₁.gave) (written_by m₂.gave) ≡ value_of c (combined shares₁ shares₂)

of_gathered : (n : ℕ) (triples₁ triples₂ : List ℕ) → length triples₁ ≡ n * 3 → ((j : ℕ) → j < n → GatheredAt triples₁ triples₂ j)
    → Evaluates triples₁ triples₂
of_gathered n triples₁ triples₂ size G circuit c read calls₁ calls₂ shares₁ shares₂ E k₁ k₂ m₁ m₂ s₁ s₂ =
    let enough = (stood circuit c read 1 shares₁ triples₁ calls₁ E.role_1 k₁ m₁ s₁).enough in
    circuits circuit c read calls₁ calls₂ shares₁ triples₁ shares₂ triples₂ E (λ j h. G j (omega arith)) k₁ k₂ m₁ m₂ s₁ s₂

-- one call of each end, on one pair of dealings
pub circuits_of_one-call : (first second : Binary) (l l' : TriplesLent) → length l.choices ≡ length l'.choices
    → Taken first.source (length l.choices) l.choices l.pads l'.pad_pairs
    → Taken second.source (length l.choices) l'.choices l'.pads l.pad_pairs
    → (triples l).number ≡ 0 → (triples l').number ≡ 0
    → Evaluates (triples_of l) (triples_of l')
circuits_of_one-call first second l l' equal T T' e e' =
    of_gathered (length l.choices) (triples_of l) (triples_of l') (length-triples l e)
    (λ j h.
    record {
      l = l;
      l' = l';
      i = j;
      i' = j;
      formed = record { source = first; source' = second; accepted = e; accepted' = e'; taken = T j h; taken' = T' j h };
      triple₁ = refl;
      triple₂ = refl;
    })

-- several calls of each end, one after the other, each on dealings of its own
pub circuits_of_draws : (ds : List Drawn) → Evaluates (drawn₁ ds) (drawn₂ ds)
circuits_of_draws ds = of_gathered (drawn ds) (drawn₁ ds) (drawn₂ ds) (drawn-length ds) (gathered ds)
