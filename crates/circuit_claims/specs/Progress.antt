-- Progress of a run (document 02, 9), whatever role, shares, triples and far bits its steps get.
use Rattle.std.specs.Prelude.{ℕ, ◌≤◌, ◌<◌, List, ◌≡◌, get_or}
use Rattle.answer.specs.Numbers.{accepted}
use Rattle.circuit.specs.Content.{Circuit, ands_in}
use Rattle.circuit.specs.Reading.{read_circuit}
use Rattle.number.specs.Reading.{Whole}
use Rattle.circuit_claims.specs.Runs.{StepMade, steps_of, IsStep, written_by}
use Rattle.circuit_run.specs.Step.{StepLent, lent_with, StepOutcome, step_outcome, refused_step, step}
use Rattle.circuit_run.specs.declared.StepState.{StepState}

-- each of these steps got this circuit
abbrev pub OnCircuit : List ℕ → List StepMade → Type 0
OnCircuit circuit steps = (k : ℕ) (m : StepMade) → IsStep steps k m → m.got.circuit ≡ circuit

-- bits and bytes of a step's outcome are 0 or 1
pub record GivesBits (o : StepOutcome) : Type 0 where
  pub first_bit : o.first_bit ≤ 1
  pub second-bit : o.second_bit ≤ 1
  pub wires : (w : ℕ) → get_or o.state.wires w 0 ≤ 1
  pub outputs : (i : ℕ) → get_or (written_by o) i 0 ≤ 1

-- other far bits
abbrev pub with_far : ℕ → ℕ → StepLent → StepLent
with_far far_first far_second l = lent_with l.role l.circuit l.shares l.triples l.output far_first far_second

abbrev pub far_lent : ℕ → ℕ → StepOutcome → StepOutcome
far_lent far_first far_second o = step_outcome o.number o.written o.first_bit o.second_bit o.state (with_far far_first far_second o.lent)

pub record Progress : Type 0 where
  -- a refused step changes nothing, and gives zeros beside its number
  pub refused : (l : StepLent) (s : StepState) → ((step l s).number ≡ accepted → ⊥) → step l s ≡ refused_step l s (step l s).number
  -- an accepted step of a run that waits passes at least one gate
  pub advances : (l : StepLent) (s : StepState) → s.phase ≡ 1 → (step l s).number ≡ accepted → s.gate < (step l s).state.gate
  -- while the circuit stays, a run from the fresh state waits after as many accepted steps as the circuit has ANDs, or fewer, and has
  -- finished after one more
  pub finishes : (circuit : List ℕ) (c : Circuit) → read_circuit circuit ≡ Whole c → (calls : List StepLent) → OnCircuit circuit (steps_of calls)
      → (k : ℕ) (m : StepMade) → IsStep (steps_of calls) k m
      → (k < ands_in c.gates → m.gave.state.phase ≡ 1) × (ands_in c.gates ≤ k → m.gave.state.phase ≡ 2)
  -- a finished run gives its outputs again, and its state stays
  pub again : (l l' : StepLent) (s : StepState) → l'.circuit ≡ l.circuit → (step l s).number ≡ accepted → (step l s).state.phase ≡ 2
      → (step l' (step l s).state).number ≡ accepted
      → ((step l' (step l s).state).state ≡ (step l s).state) × (written_by (step l' (step l s).state) ≡ written_by (step l s))
  -- what the accepted steps of a run give is 0 or 1, so a far bit that the far end sent never gives 8
  pub bits : (calls : List StepLent) (k : ℕ) (m : StepMade) → IsStep (steps_of calls) k m → GivesBits m.gave
  -- the first step and a finished run neither read nor test far bits
  pub far : (l : StepLent) (s : StepState) → (s.phase ≡ 1 → ⊥) → (far_first far_second : ℕ)
      → step (with_far far_first far_second l) s ≡ far_lent far_first far_second (step l s)
