-- Inner: no promise cites this file. What the values that the reader's functions give say of gates and wires.
use Rattle.std.specs.Prelude.{ℕ, ◌+◌, List, Result, Ok, Err}
use Rattle.answer.specs.Refused.{number_of}
use Rattle.answer.specs.declared.Refusal.{Refusal}
use Rattle.number.specs.Reading.{Reading, Whole, Refused, Parsed}
use Rattle.circuit.specs.Content.{Gate, Xor, And, Not, ands_in}
use Rattle.circuit.specs.declared.Gate as code
use Rattle.circuit.specs.declared.Gate.TheVariants as variant

-- the gate that the code's gate stands for
abbrev pub gate_of : code.Gate → Gate
gate_of (variant.Xor a b) = Xor a b
gate_of (variant.And a b) = And a b
gate_of (variant.Not a) = Not a

-- what is so of each wire that a gate takes
abbrev pub WiresOf : (ℕ → Type 0) → code.Gate → Type 0
WiresOf P (variant.Xor a b) = P a × P b
WiresOf P (variant.And a b) = P a × P b
WiresOf P (variant.Not a) = P a

-- a gate that was read, and the place after it
abbrev pub gate_read : Result (code.Gate × ℕ) Refusal → Parsed Gate
gate_read (Ok read) = Whole (gate_of read.0, read.1)
gate_read (Err refusal) = Refused (number_of refusal)

-- the place after wires that were read
abbrev pub wires_read : Result ℕ Refusal → Reading ℕ
wires_read (Ok next) = Whole next
wires_read (Err refusal) = Refused (number_of refusal)

-- gates by how many ANDs there are with those before
abbrev pub counted_ands : ℕ → Parsed (List Gate) → Parsed ℕ
counted_ands before (Whole r) = Whole (before + ands_in r.0, r.1)
counted_ands before (Refused k) = Refused k

-- wires by the place after them
abbrev pub placed : Parsed (List ℕ) → Reading ℕ
placed (Whole r) = Whole r.1
placed (Refused k) = Refused k
