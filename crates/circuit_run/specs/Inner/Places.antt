-- Inner: no promise cites this file. Where a run stands in a circuit that was read.
use Rattle.std.specs.Prelude.{ℕ, ◌+◌, ◌-◌, ◌*◌, ◌≤◌, ◌<◌, true, false, List, ◌≡◌, length, get_or, set, drop, Option, Some, None, IfSome}
use Rattle.std.specs.Int.Bits.{bit_xor}
use Rattle.circuit.specs.Content.{And, Circuit, is_and}
use Rattle.circuit.specs.Answer.{content, HasLayout}
use Rattle.circuit.specs.Reading.{read_gates}
use Rattle.circuit.specs.declared.Layout.{Layout}
use Rattle.number.specs.Reading.{Whole}
use Rattle.circuit_run.specs.Step.{gate_at, ands_before, triple_first, triple_second, triple_third, state_admitted}
use Rattle.circuit_run.specs.Step.{and_share, fresh_wires, run_on, step_state_with, StepLent, StepOutcome, state_after, accepted_step}
use Rattle.circuit_run.specs.declared.places.Asked.{Asked}
use Rattle.circuit_run.specs.declared.places.Place.{Place}
use Rattle.circuit_run.specs.declared.places.Spot.{Spot}
use Rattle.circuit_run.specs.declared.places.Run.{Run}
use Rattle.circuit_run.specs.declared.places.Run.TheVariants.{Going, Finished}
use Rattle.circuit_run.specs.declared.StepState.{StepState}
use Rattle.circuit_run.specs.declared.Stepped.{Stepped}

-- the gates from gate i on are read from a place on
pub record Left (s : List ℕ) (inputs i at : ℕ) : Type 0 where
  pub below : i ≤ length (content s).gates
  pub end : ℕ
  pub read : read_gates (length (content s).gates - i) (inputs + i) s at ≡ Whole (drop i (content s).gates, end)

-- a gate's number, its place in the bytes, and how many ANDs come before it
pub record Stands (s : List ℕ) (f : Layout) (p : Place) : Type 0 where
  pub left : Left s f.inputs p.gate p.at
  pub ands : p.ands ≡ ands_before (content s) p.gate

-- the AND at a gate: its wires, how many ANDs come before it, and the place after it
pub record WaitsAt (s : List ℕ) (f : Layout) (r : Spot) : Type 0 where
  pub gate : gate_at (content s) r.gate ≡ And r.first_wire r.second_wire
  pub below : r.gate < f.gates
  pub first_below : r.first_wire < 4096
  pub second_below : r.second_wire < 4096
  pub ands : r.ands ≡ ands_before (content s) r.gate
  pub few : r.ands < f.ands
  pub left : Left s f.inputs (r.gate + 1) r.next

-- the AND at a gate, where there is one
abbrev pub IsAnd : List ℕ → Layout → ℕ → Option Spot → Type 0
IsAnd s f gate None = is_and (gate_at (content s) gate) ≡ false
IsAnd s f gate (Some r) = (r.gate ≡ gate) × WaitsAt s f r

-- a run by its state of a phase and a gate
abbrev pub RunsAs : List ℕ → Layout → ℕ → ℕ → Run → Type 0
RunsAs s f phase gate (Going None) = phase ≡ 0
RunsAs s f phase gate (Going (Some r)) = (phase ≡ 1) × ((r.gate ≡ gate) × WaitsAt s f r)
RunsAs s f phase gate Finished = phase ≡ 2

-- a run, where the state is admitted
abbrev pub Admits : List ℕ → Layout → ℕ → ℕ → Option Run → Type 0
Admits s f phase gate None = state_admitted (content s) phase gate ≡ false
Admits s f phase gate (Some run) = (state_admitted (content s) phase gate ≡ true) × RunsAs s f phase gate run

-- what a step has once all tests are passed: shares for the wires, a triple for each AND, room for the outputs, and its run
pub record Tested (s : List ℕ) (f : Layout) (run : Run) (shares triples : List ℕ) (space phase gate : ℕ) : Type 0 where
  pub layout : HasLayout s f
  pub few : length shares ≤ 4096
  pub enough : f.ands * 3 ≤ length triples
  pub room : f.outputs ≤ space
  pub runs : RunsAs s f phase gate run

-- the state of a run that stops: at an AND or at the end
abbrev pub stopped : Layout → Option Spot → List ℕ → StepState
stopped f (Some r) wires = step_state_with 1 r.gate wires
stopped f None wires = step_state_with 2 f.gates wires

-- where a run stops
pub record Stops (s : List ℕ) (f : Layout) (before : StepState) (r : Option Spot) (wires : List ℕ) : Type 0 where
  pub run : before ≡ stopped f r wires
  pub at : IfSome r (λ (a : Spot). WaitsAt s f a)

-- the share of an AND that waits, x and y its wires' shares, by the triple of its number and its two far bits
unfoldable pub opened_with : ℕ → ℕ → ℕ → List ℕ → ℕ → ℕ → ℕ → ℕ
opened_with role x y triples ands far_first far_second =
    and_share role
    (bit_xor (bit_xor x (triple_first triples ands)) far_first)
    (bit_xor (bit_xor y (triple_second triples ands)) far_second)
    (triple_first triples ands) (triple_second triples ands) (triple_third triples ands)

-- the wires of a run that waits, with the AND's share
unfoldable pub given_and : Asked → Spot → ℕ → List ℕ → List ℕ → List ℕ
given_and a r wire triples wires =
    set wires wire
    (opened_with a.role (get_or wires r.first_wire 0) (get_or wires r.second_wire 0) triples r.ands a.far_first a.far_second)

-- the state after a step of a fresh run, or of one that waits
abbrev pub proceeded : List ℕ → Layout → Asked → Option Spot → List ℕ → List ℕ → List ℕ → StepState
proceeded s f a None shares triples wires = run_on a.role f.inputs (drop 0 (content s).gates) 0 (fresh_wires shares)
proceeded s f a (Some r) shares triples wires =
    run_on a.role f.inputs (drop (r.gate + 1) (content s).gates) (r.gate + 1) (given_and a r (f.inputs + r.gate) triples wires)

-- the answer of these parts
abbrev pub stepped_with : ℕ → ℕ → ℕ → ℕ → StepState → Stepped
stepped_with number written first_bit second_bit state =
    record { number = number; written = written; first_bit = first_bit; second_bit = second_bit; state = state }

-- an accepted step on a state
unfoldable pub accepted_on : Circuit → StepLent → StepState → StepOutcome
accepted_on c l state = accepted_step c l (state_after c l state)
