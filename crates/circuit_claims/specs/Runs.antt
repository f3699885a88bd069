-- Runs (document 02, 9): a list of steps of one end, each on the state that the step before left, a fresh one first. Refused steps may
-- stand anywhere among them.
use Rattle.std.specs.Prelude.{ℕ, List, take, replicate}
use Rattle.circuit.specs.Admitted.{most_wires}
use Rattle.circuit_claims.specs.Calls.{CallMade, accepted_calls, IsCall}
use Rattle.circuit_run.specs.Step.{StepLent, StepOutcome, step_state_with, step}
use Rattle.circuit_run.specs.declared.StepState.{StepState}

-- a fresh state is all zero
unfoldable pub fresh : StepState
fresh = step_state_with 0 0 (replicate most_wires 0)

-- a step: what it got, and what it gave
abbrev pub StepMade : Type 0
StepMade = CallMade StepLent StepOutcome

-- the accepted steps among steps that get these in turn, from a state on
abbrev pub accepted_steps : StepState → List StepLent → List StepMade
accepted_steps s calls = accepted_calls step (λ o. o.number) (λ o. o.state) s calls

-- the accepted steps of a run
abbrev pub steps_of : List StepLent → List StepMade
steps_of calls = accepted_steps fresh calls

-- m is accepted step k, from 0
abbrev pub IsStep : List StepMade → ℕ → StepMade → Type 0
IsStep steps k m = IsCall steps k m

-- the bytes that a step wrote
abbrev pub written_by : StepOutcome → List ℕ
written_by o = take o.written o.lent.output
