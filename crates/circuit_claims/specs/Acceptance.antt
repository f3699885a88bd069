-- Which steps are accepted (document 02, 9), and that a run can go on.
use Rattle.std.specs.Prelude.{ℕ, ◌≤◌, true, ◌↔◌, ◌≡◌, eqb, length}
use Rattle.answer.specs.Numbers.{accepted}
use Rattle.answer.specs.Tests.{AllMet}
use Rattle.circuit.specs.Content.{Circuit, is_and}
use Rattle.circuit.specs.Reading.{read_circuit}
use Rattle.number.specs.Reading.{Whole}
use Rattle.circuit_run.specs.Step.{StepLent, far_admitted, gate_at, state_admitted, step_tests, step}
use Rattle.circuit_run.specs.declared.StepState.{StepState}

pub record StepAcceptance : Type 0 where
  -- a step on a circuit that is read is accepted exactly if every test is met
  pub accepts : (c : Circuit) (l : StepLent) (s : StepState) → read_circuit l.circuit ≡ Whole c → AllMet (step_tests c l s) ↔ (step l s).number ≡ accepted
  -- what it asks of the far bits: in phase 1 they are bits
  pub far : (phase far_first far_second : ℕ) → far_admitted (eqb phase 1) far_first far_second ≡ true ↔ (phase ≡ 1 → (far_first ≤ 1) × (far_second ≤ 1))
  -- what it asks of the state: a phase of 0 to 2 and, in phase 1, an AND at the gate
  pub state : (c : Circuit) (phase gate : ℕ) → state_admitted c phase gate ≡ true ↔ ((phase ≤ 2) × (phase ≡ 1 → is_and (gate_at c gate) ≡ true))
  -- after an accepted step the next one with the same circuit, role, shares and triples, room enough and far bits is accepted
  pub goes_on : (l l' : StepLent) (s : StepState) → (step l s).number ≡ accepted → l'.circuit ≡ l.circuit → l'.role ≡ l.role → l'.shares ≡ l.shares
      → l'.triples ≡ l.triples → length l.output ≤ length l'.output → l'.far_first ≤ 1 → l'.far_second ≤ 1
      → (step l' (step l s).state).number ≡ accepted
