-- Inner: no promise cites this file. The byte of one wire, from the bytes that the code has.
use Rattle.std.specs.Prelude.{ℕ, ◌+◌, ◌*◌, ◌≤◌, ◌<◌, List, ◌≡◌, length, get_or, set}
use Rattle.std.specs.Int.Bits.{bit_xor}
use Rattle.algebra.specs.Choice.{choose}
use Rattle.circuit.specs.Content.{Gate, Xor, And, Not}
use Rattle.circuit_run.specs.Inner.Places.{opened_with}
use Rattle.circuit_run.specs.Step.{flipped, triple_first, triple_second}
use Rattle.circuit_run.specs.Round.{waits, is_known, share_of, known_as}

-- an input's
abbrev pub input_byte : ℕ → ℕ → ℕ
input_byte byte share = choose (is_known byte) byte (known_as share)

-- what an AND that waits takes: a triple, and two far bits
pub record AndHas (triples : List ℕ) (ands : ℕ) (far : List ℕ) (passed : ℕ) : Type 0 where
  pub triple : ands * 3 + 2 < length triples
  pub place : 2 * passed + 1 < length far
  pub triple_bits : (k : ℕ) → get_or triples k 0 ≤ 1
  pub far_bits : (k : ℕ) → get_or far k 0 ≤ 1

-- the share of an AND that waits, its wires' bytes x and y
unfoldable pub opened_by : ℕ → ℕ → ℕ → List ℕ → ℕ → List ℕ → ℕ → ℕ
opened_by role x y triples ands far passed =
    opened_with role (share_of x) (share_of y) triples ands (get_or far (2 * passed) 0) (get_or far (2 * passed + 1) 0)

-- of an AND that is not known
unfoldable pub and_byte_by : ℕ → ℕ → ℕ → ℕ → List ℕ → ℕ → List ℕ → ℕ → ℕ
and_byte_by role byte x y triples ands far passed =
    choose (waits byte) (known_as (opened_by role x y triples ands far passed)) (choose (is_known x) (choose (is_known y) 1 0) 0)

-- of an exclusive or, and of a NOT, that is not known
unfoldable pub xor_byte_by : ℕ → ℕ → ℕ
xor_byte_by x y = choose (is_known x) (choose (is_known y) (known_as (bit_xor (share_of x) (share_of y))) 0) 0

unfoldable pub not_byte_by : ℕ → ℕ → ℕ
not_byte_by role x = choose (is_known x) (known_as (flipped role (share_of x))) 0

-- of a gate that is not known, whose byte was given, from those of all wires
abbrev pub unknown_by : ℕ → Gate → ℕ → List ℕ → List ℕ → ℕ → List ℕ → ℕ → ℕ
unknown_by role (Xor a b) byte wires triples ands far passed = xor_byte_by (get_or wires a 0) (get_or wires b 0)
unknown_by role (And a b) byte wires triples ands far passed = and_byte_by role byte (get_or wires a 0) (get_or wires b 0) triples ands far passed
unknown_by role (Not a) byte wires triples ands far passed = not_byte_by role (get_or wires a 0)

-- of a gate, whose byte was given
unfoldable pub byte_by : ℕ → Gate → ℕ → List ℕ → List ℕ → ℕ → List ℕ → ℕ → ℕ
byte_by role g byte wires triples ands far passed = choose (is_known byte) byte (unknown_by role g byte wires triples ands far passed)

-- what the bits of a gate rest on: if it waits, the first two bits of its triple and room for two; that its numbers are small
pub record CanPut (byte : ℕ) (triples : List ℕ) (ands : ℕ) (bits : List ℕ) (place : ℕ) : Type 0 where
  pub few : ands ≤ 4096
  pub low : place ≤ 8192
  pub triple : byte ≡ 1 → ands * 3 + 1 < length triples
  pub room : byte ≡ 1 → place + 1 < length bits

-- the place after the bits of a gate, and the bits with those of a gate
abbrev pub place_after : ℕ → ℕ → ℕ
place_after byte place = choose (waits byte) (place + 2) place

unfoldable pub put_bits : ℕ → ℕ → ℕ → List ℕ → ℕ → ℕ → List ℕ → List ℕ
put_bits byte x y triples ands place bits =
    choose (waits byte)
    (set (set bits place (bit_xor (share_of x) (triple_first triples ands))) (place + 1) (bit_xor (share_of y) (triple_second triples ands)))
    bits
