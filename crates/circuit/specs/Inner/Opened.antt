-- Inner: no promise cites this file. What the result of opening a circuit stands for: a circuit of these bytes, or the number of its refusal.
use Rattle.std.specs.Prelude.{ℕ, List, ◌≡◌, Result, Ok, Err}
use Rattle.answer.specs.Refused.{number_of}
use Rattle.answer.specs.declared.Refusal.{Refusal}
use Rattle.number.specs.Reading.{Refused}
use Rattle.circuit.specs.Reading.{read_circuit}
use Rattle.circuit.specs.declared.accepted.Circuit.{Circuit}

-- `Ok` stands for a circuit, which has its layout by its invariant; `Err` for a refusal with its number, without values
abbrev pub CircuitOpened : List ℕ → Result Circuit Refusal → Type 0
CircuitOpened s (Ok c) = c.source.now ≡ s
CircuitOpened s (Err refusal) = read_circuit s ≡ Refused (number_of refusal)
