-- The call that describes a circuit (circuits in rounds): of one that is admitted, how many inputs, gates, outputs, ANDs and rounds it
-- has; else the reading's number (10, 11, 17, 12) and zeros.
use Rattle.std.specs.Prelude.{ℕ, List, length}
use Rattle.answer.specs.Numbers.{accepted}
use Rattle.circuit.specs.Content.{Circuit, ands_in}
use Rattle.circuit.specs.Levels.{round_count}
use Rattle.circuit.specs.Reading.{read_circuit}
use Rattle.number.specs.Reading.{after_reading}
use Rattle.circuit_describe.specs.declared.DescribedCircuit.{DescribedCircuit}

-- the answer of these numbers
abbrev pub answer_with : ℕ → ℕ → ℕ → ℕ → ℕ → ℕ → DescribedCircuit
answer_with number inputs gates outputs ands rounds =
    record { number = number; inputs = inputs; gates = gates; outputs = outputs; ands = ands; rounds = rounds }

-- the answer, and the circuit that is lent
pub record CircuitDescription : Type 0 where
  pub answer : DescribedCircuit
  pub source : List ℕ

abbrev pub description_of : DescribedCircuit → List ℕ → CircuitDescription
description_of answer source = record { answer = answer; source = source }

-- a circuit that was read
abbrev pub said : Circuit → DescribedCircuit
said c = answer_with accepted c.inputs (length c.gates) (length c.outputs) (ands_in c.gates) (round_count c)

-- a refused circuit: its number and zeros
abbrev pub refused : ℕ → DescribedCircuit
refused k = answer_with k 0 0 0 0 0

-- the call
unfoldable pub describe_circuit : List ℕ → CircuitDescription
describe_circuit s = description_of (after_reading (read_circuit s) refused said) s
