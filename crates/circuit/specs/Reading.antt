-- The reading of a circuit (document 02, 9): front to back, each number whole (10, 11) and then tested (17), 12 last.
use Rattle.std.specs.Prelude.{ℕ, zero, suc, ◌+◌, ◌-◌, List, [], ◌∷◌, ltb, eqb}
use Rattle.answer.specs.Numbers.{bad_circuit}
use Rattle.number.specs.Number.{read_number}
use Rattle.number.specs.Reading.{Reading, Whole, Parsed, then, choose, tested}
use Rattle.record.specs.Reading.{ended}
use Rattle.circuit.specs.Admitted.{most_wires, is_within}
use Rattle.circuit.specs.Content.{Gate, Xor, And, Not, Circuit}

-- a size or a kind, from the least to the most; 17: not admitted
unfoldable pub read_within : ℕ → ℕ → List ℕ → ℕ → Parsed ℕ
read_within least most s at = tested (read_number s at) (λ n. is_within least most n) bad_circuit

-- a wire below a limit; 17: not admitted
unfoldable pub read_wire : ℕ → List ℕ → ℕ → Parsed ℕ
read_wire limit s at = tested (read_number s at) (λ w. ltb w limit) bad_circuit

-- the gate at a wire: its kind (1 exclusive or, 2 AND, 3 NOT) and its one or two wires, which come before it
unfoldable pub read_gate : ℕ → List ℕ → ℕ → Parsed Gate
read_gate wire s at =
    then (read_within 1 3 s at) λ kind at1.
    then (read_wire wire s at1) λ a at2.
    choose (eqb kind 3) (Whole (Not a, at2))
    (then (read_wire wire s at2) λ b at3.
    Whole (choose (eqb kind 1) (Xor a b) (And a b), at3))

-- gates, one after the other, the first at a wire
unfoldable pub read_gates : ℕ → ℕ → List ℕ → ℕ → Parsed (List Gate)
read_gates zero wire s at = Whole ([], at)
read_gates (suc n) wire s at =
    then (read_gate wire s at) λ g next.
    then (read_gates n (wire + 1) s next) λ gs end.
    Whole (g ∷ gs, end)

-- wires below a limit, one after the other
unfoldable pub read_wires : ℕ → ℕ → List ℕ → ℕ → Parsed (List ℕ)
read_wires zero limit s at = Whole ([], at)
read_wires (suc n) limit s at =
    then (read_wire limit s at) λ w next.
    then (read_wires n limit s next) λ ws end.
    Whole (w ∷ ws, end)

-- the circuit: inputs 1 to 4,096, gates up to 4,096 wires together, outputs 1 to 4,096; the gates; the output wires; then its end,
-- as of a record
unfoldable pub read_circuit : List ℕ → Reading Circuit
read_circuit s =
    then (read_within 1 most_wires s 0) λ inputs at1.
    then (read_within 0 (most_wires - inputs) s at1) λ count at2.
    then (read_within 1 most_wires s at2) λ outputs at3.
    then (read_gates count inputs s at3) λ gates at4.
    then (read_wires outputs (inputs + count) s at4) λ wires end.
    ended s end (record { inputs = inputs; gates = gates; outputs = wires })
