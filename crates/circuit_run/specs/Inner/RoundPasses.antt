-- Inner: no promise cites this file. The passes of a round over the gates of a circuit that was read.
use Rattle.std.specs.Prelude.{ℕ, ◌+◌, ◌*◌, ◌≤◌, List, [], ◌++◌, ◌≡◌, length, get_or, take, drop}
use Rattle.circuit.specs.Content.{Circuit}
use Rattle.circuit.specs.Answer.{content}
use Rattle.circuit.specs.Value.{over_gates}
use Rattle.circuit.specs.declared.Layout.{Layout}
use Rattle.circuit_run.specs.Round.{RoundLent, round_with, RoundOutcome, waiting, waiting_in, gate_byte, wires_after, bits_to_send, accepted_round}
use Rattle.circuit_run.specs.declared.RoundState.{RoundState}
use Rattle.circuit_run.specs.declared.Rounded.{Rounded}

-- what the pass over the gates rests on: a triple for each AND, far bits for each gate that waits, all of them bits, and room for two
-- bits of each AND
pub record CanPass (s : List ℕ) (f : Layout) (triples far : List ℕ) (space : ℕ) (before : List ℕ) : Type 0 where
  pub enough : 3 * f.ands ≤ length triples
  pub places : length far ≡ 2 * waiting_in (content s) before
  pub triple_bits : (k : ℕ) → get_or triples k 0 ≤ 1
  pub far_bits : (k : ℕ) → get_or far k 0 ≤ 1
  pub room : 2 * f.ands ≤ space
  pub long : length before ≡ 4096

-- of all that is lent the pass sees these
abbrev pub passed_on : ℕ → List ℕ → List ℕ → List ℕ → RoundLent
passed_on role s triples far = round_with role s [] triples [] far []

-- what the pass gives: the bytes of all gates, and the bits of those that wait, in front of what stood in their buffer
pub record Passes (s : List ℕ) (f : Layout) (role : ℕ) (triples far bits₀ before : List ℕ) (count : ℕ) (bits wires : List ℕ) : Type 0 where
  pub bytes : wires ≡ over_gates (gate_byte (content s) (passed_on role s triples far) before) (content s).gates (take f.inputs before)
      ++ drop (f.inputs + f.gates) before
  pub waited : count ≡ 2 * waiting_in (content s) wires
  pub counted : count ≡ length (bits_to_send (content s) triples wires)
  pub sent : bits ≡ bits_to_send (content s) triples wires ++ drop count bits₀

-- how many gates wait, by the circuit's layout
abbrev pub waiting_by : Layout → List ℕ → ℕ
waiting_by f wires = waiting (take f.gates (drop f.inputs wires))

-- what a round has once all tests are passed
pub record Tested (f : Layout) (shares triples : List ℕ) (room : ℕ) (far : List ℕ) (bits_room : ℕ) (wires : List ℕ) : Type 0 where
  pub inputs : length shares ≡ f.inputs
  pub places : length far ≡ 2 * waiting_by f wires
  pub outputs : f.outputs ≤ room
  pub bits : 2 * f.ands ≤ bits_room
  pub share_bits : (k : ℕ) → get_or shares k 0 ≤ 1
  pub triple_bits : (k : ℕ) → get_or triples k 0 ≤ 1
  pub far_bits : (k : ℕ) → get_or far k 0 ≤ 1
  pub enough : 3 * f.ands ≤ length triples
  pub long : length wires ≡ 4096

-- an accepted round on the bytes that the round before left
unfoldable pub accepted_on : Circuit → RoundLent → List ℕ → RoundOutcome
accepted_on c l before = accepted_round c l (wires_after c l before)

-- the answer of these parts
abbrev pub rounded_with : ℕ → ℕ → ℕ → RoundState → Rounded
rounded_with number written bits_written state =
    record { number = number; written = written; bits_written = bits_written; state = state }
