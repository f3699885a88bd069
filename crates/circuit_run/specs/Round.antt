-- A round of an end's run of a circuit (circuits in rounds): from everything lent and the state that the round before left to
-- everything that stands on return. A round opens every AND whose wires are known. It tests the reading (10, 11, 17, 12), then 3, 13,
-- 8, 18, and last what document 02 does not name: the role (9). No state is refused.
use Rattle.std.specs.Prelude.{ℕ, ◌+◌, ◌-◌, ◌*◌, ◌%◌, Bool, ◌&&◌, List, [], ◌∷◌, ◌++◌, map, leb, eqb, length, get_or, take, drop}
use Rattle.std.specs.Int.Bits.{bit_xor}
use Rattle.algebra.specs.Choice.{choose}
use Rattle.answer.specs.Numbers.{accepted, bad_length, not_element, wrong_end, buffer_short, too_few_triples}
use Rattle.answer.specs.Outcome.{answered}
use Rattle.answer.specs.Tests.{Test, ◌is◌, ◌at_most◌, all_at_most, holds, ◌or◌}
use Rattle.circuit.specs.Content.{Gate, Xor, And, Not, Circuit, ands_in}
use Rattle.circuit.specs.Reading.{read_circuit}
use Rattle.circuit.specs.Value.{over_gates, at_wires}
use Rattle.circuit_run.specs.Step.{is_role, flipped, ands_before, triple_first, triple_second, triple_third, masked_first, masked_second, and_share}
use Rattle.number.specs.Reading.{after_reading}
use Rattle.circuit_run.specs.declared.RoundState.{RoundState}
use Rattle.circuit_run.specs.declared.Rounded.{Rounded}

-- ---- what a round gets and gives

-- all that a round gets but the state: the role, the circuit's bytes, this end's shares of the inputs, its triples, the output
-- buffer, the far bits, and the buffer for the bits to send
pub record RoundLent : Type 0 where
  pub role : ℕ
  pub circuit : List ℕ
  pub shares : List ℕ
  pub triples : List ℕ
  pub output : List ℕ
  pub far : List ℕ
  pub bits : List ℕ

abbrev pub round_with : ℕ → List ℕ → List ℕ → List ℕ → List ℕ → List ℕ → List ℕ → RoundLent
round_with role circuit shares triples output far bits =
    record { role = role; circuit = circuit; shares = shares; triples = triples; output = output; far = far; bits = bits }

-- the number, the outputs written, the bits written, the state, and all that is lent as it stands on return
pub record RoundOutcome : Type 0 where
  pub number : ℕ
  pub written : ℕ
  pub bits_written : ℕ
  pub state : RoundState
  pub lent : RoundLent

abbrev pub round_outcome : ℕ → ℕ → ℕ → RoundState → RoundLent → RoundOutcome
round_outcome number written bits_written state lent =
    record { number = number; written = written; bits_written = bits_written; state = state; lent = lent }

-- what the answer of the call and all that is lent at exit say
abbrev pub rounded : Rounded → RoundLent → RoundOutcome
rounded r lent = round_outcome r.number r.written r.bits_written r.state lent

-- ---- the state: a byte for each wire

-- 0 while the wire's share is not known, 1 for an AND that is opened and waits for the far bits, 2 + share once the share is known;
-- from 2 on a byte is a known share, the byte modulo 2
abbrev pub waits : ℕ → Bool
waits byte = eqb byte 1

abbrev pub is_known : ℕ → Bool
is_known byte = leb 2 byte

abbrev pub share_of : ℕ → ℕ
share_of byte = byte % 2

abbrev pub known_as : ℕ → ℕ
known_as share = 2 + share

abbrev pub state_with : List ℕ → RoundState
state_with bytes = record { wires = bytes }

-- the shares of all wires
abbrev pub shares_in : List ℕ → List ℕ
shares_in bytes = map (λ (byte : ℕ). share_of byte) bytes

-- how many of bytes wait
unfoldable pub waiting : List ℕ → ℕ
waiting [] = 0
waiting (byte ∷ bytes) = choose (waits byte) 1 0 + waiting bytes

-- how many of the gates before gate i wait, and how many of all gates
abbrev pub waiting_before : Circuit → List ℕ → ℕ → ℕ
waiting_before c bytes i = waiting (take i (drop c.inputs bytes))

abbrev pub waiting_in : Circuit → List ℕ → ℕ
waiting_in c bytes = waiting_before c bytes (length c.gates)

-- ---- tests

-- the tests of a round on a circuit that was read: shares one an input, triple bits three each, far bits two for each gate that waits;
-- room for the outputs, and for two bits of every AND; shares, triples and far bits are bits, unused triples too; a triple for each
-- AND; the role
abbrev pub round_tests : Circuit → RoundLent → List ℕ → List Test
round_tests c l bytes =
    length l.shares is c.inputs or bad_length
    ∷ length l.triples % 3 is 0 or bad_length
    ∷ length l.far is 2 * waiting_in c bytes or bad_length
    ∷ length c.outputs at_most length l.output or buffer_short
    ∷ 2 * ands_in c.gates at_most length l.bits or buffer_short
    ∷ all_at_most 1 l.shares or not_element
    ∷ all_at_most 1 l.triples or not_element
    ∷ all_at_most 1 l.far or not_element
    ∷ 3 * ands_in c.gates at_most length l.triples or too_few_triples
    ∷ holds (is_role l.role) or wrong_end
    ∷ []

-- ---- what an accepted round does to the state

-- inputs: a known one stays, another takes its share
unfoldable pub input_bytes : List ℕ → List ℕ → List ℕ
input_bytes [] bytes = []
input_bytes (share ∷ shares) bytes = choose (is_known (get_or bytes 0 0)) (get_or bytes 0 0) (known_as share) ∷ input_bytes shares (drop 1 bytes)

-- the wires of a gate are known
unfoldable pub ready : Gate → List ℕ → Bool
ready (Xor a b) bytes = is_known (get_or bytes a 0) && is_known (get_or bytes b 0)
ready (And a b) bytes = is_known (get_or bytes a 0) && is_known (get_or bytes b 0)
ready (Not a) bytes = is_known (get_or bytes a 0)

-- the share of the AND at gate i, its masked bits combined with its far bits; the gate with p gates before it that wait has the far
-- bits 2p and 2p + 1
unfoldable pub opened_share : Circuit → RoundLent → ℕ → ℕ → List ℕ → ℕ
opened_share c l i p bytes =
    and_share l.role
    (bit_xor (masked_first c l.triples (shares_in bytes) i) (get_or l.far (2 * p) 0))
    (bit_xor (masked_second c l.triples (shares_in bytes) i) (get_or l.far (2 * p + 1) 0))
    (triple_first l.triples (ands_before c i))
    (triple_second l.triples (ands_before c i))
    (triple_third l.triples (ands_before c i))

-- the byte of gate i, which was not known and waited or not, from the bytes of the wires before it: an exclusive or or NOT is computed
-- if its wires are known; an AND that waited takes its far bits, another waits if its wires are known; else the share is not known
unfoldable pub computed : Circuit → RoundLent → ℕ → ℕ → Bool → Gate → List ℕ → ℕ
computed c l i p waited (Xor a b) bytes =
    choose (ready (Xor a b) bytes) (known_as (bit_xor (get_or (shares_in bytes) a 0) (get_or (shares_in bytes) b 0))) 0
computed c l i p waited (And a b) bytes =
    choose waited (known_as (opened_share c l i p bytes)) (choose (ready (And a b) bytes) 1 0)
computed c l i p waited (Not a) bytes =
    choose (ready (Not a) bytes) (known_as (flipped l.role (get_or (shares_in bytes) a 0))) 0

-- the byte of the gate whose wire comes after those given: a known one stays
unfoldable pub gate_byte : Circuit → RoundLent → List ℕ → Gate → List ℕ → ℕ
gate_byte c l before g bytes =
    choose (is_known (get_or before (length bytes) 0)) (get_or before (length bytes) 0)
    (computed c l (length bytes - c.inputs) (waiting_before c before (length bytes - c.inputs)) (waits (get_or before (length bytes) 0)) g bytes)

-- the bytes of the circuit's wires, and those past them as they were
unfoldable pub wires_after : Circuit → RoundLent → List ℕ → List ℕ
wires_after c l before =
    over_gates (gate_byte c l before) c.gates (input_bytes l.shares before) ++ drop (c.inputs + length c.gates) before

-- ---- what it writes

-- the bits to send, gate i first and the gates from there given: two for each that waits, in the order of the gates
unfoldable pub opened_bits : Circuit → List ℕ → List ℕ → ℕ → List Gate → List ℕ
opened_bits c triples bytes i [] = []
opened_bits c triples bytes i (g ∷ gs) =
    choose (waits (get_or bytes (c.inputs + i) 0)) (masked_first c triples (shares_in bytes) i ∷ masked_second c triples (shares_in bytes) i ∷ []) []
    ++ opened_bits c triples bytes (i + 1) gs

abbrev pub bits_to_send : Circuit → List ℕ → List ℕ → List ℕ
bits_to_send c triples bytes = opened_bits c triples bytes 0 c.gates

-- with the bits to send in front of their buffer; with the shares of the output wires in front of theirs
unfoldable pub with_bits : Circuit → RoundLent → List ℕ → RoundLent
with_bits c l bytes =
    round_with l.role l.circuit l.shares l.triples l.output l.far
    (bits_to_send c l.triples bytes ++ drop (length (bits_to_send c l.triples bytes)) l.bits)

unfoldable pub with_outputs : Circuit → RoundLent → List ℕ → RoundLent
with_outputs c l bytes =
    round_with l.role l.circuit l.shares l.triples
    (at_wires (shares_in bytes) c.outputs ++ drop (length c.outputs) l.output) l.far l.bits

-- an accepted round that leaves these bytes: while an AND waits it gives the bits to send, else the run is finished and it writes the
-- outputs
unfoldable pub accepted_round : Circuit → RoundLent → List ℕ → RoundOutcome
accepted_round c l bytes =
    choose (eqb (waiting_in c bytes) 0)
    (round_outcome accepted (length c.outputs) 0 (state_with bytes) (with_outputs c l bytes))
    (round_outcome accepted 0 (length (bits_to_send c l.triples bytes)) (state_with bytes) (with_bits c l bytes))

-- a refused round returns zeros, the state and all that is lent as it was
abbrev pub refused_round : RoundLent → RoundState → ℕ → RoundOutcome
refused_round l s number = round_outcome number 0 0 s l

-- the round: the reading's number, else that of the first test that is not met, else what an accepted round gives
unfoldable pub round : RoundLent → RoundState → RoundOutcome
round l s =
    after_reading (read_circuit l.circuit) (refused_round l s)
    (λ c. answered (round_tests c l s.wires) (refused_round l s) (accepted_round c l (wires_after c l s.wires)))
