-- An end's run of a circuit without its schedule: the shares of all wires and the bits sent, by the far bits that each AND gets. A
-- finished run is a transcript, in steps (document 02, 9) and in rounds (circuits in rounds) alike.
use Rattle.std.specs.Prelude.{ℕ, zero, suc, ◌+◌, ◌-◌, ◌≤◌, true, List, [], ◌∷◌, map, ◌≡◌, length, get_or}
use Rattle.std.specs.Int.Bits.{bit_xor}
use Rattle.circuit.specs.Content.{Gate, Xor, And, Not, Circuit, is_and}
use Rattle.circuit.specs.Value.{over_gates, at_wires}
use Rattle.circuit_run.specs.Step.{gate_at, flipped, ands_before, triple_first, triple_second, triple_third, masked_first, masked_second, and_share}
use Rattle.circuit_claims.specs.RoundRuns.{RoundMade, bits_by}
use Rattle.circuit_claims.specs.Runs.{StepMade}
use Rattle.circuit_claims.specs.Same.{level_at, place_at}

-- two bits for each AND, by how many ANDs come before it
abbrev pub BitsByAnd : Type 0
BitsByAnd = ℕ → ℕ × ℕ

-- the gate of the AND with j ANDs before it
unfoldable pub and_gate : List Gate → ℕ → ℕ
and_gate [] j = 0
and_gate (Xor a b ∷ gs) j = suc (and_gate gs j)
and_gate (And a b ∷ gs) zero = 0
and_gate (And a b ∷ gs) (suc j) = suc (and_gate gs j)
and_gate (Not a ∷ gs) j = suc (and_gate gs j)

-- the share of the AND at gate i, its masked bits combined with far bits
unfoldable pub share_with_far : ℕ → Circuit → List ℕ → List ℕ → ℕ → ℕ × ℕ → ℕ
share_with_far role c triples wires i far =
    and_share role
    (bit_xor (masked_first c triples wires i) far.0)
    (bit_xor (masked_second c triples wires i) far.1)
    (triple_first triples (ands_before c i))
    (triple_second triples (ands_before c i))
    (triple_third triples (ands_before c i))

-- the share of gate i from the shares of the wires before it
unfoldable pub share_at : ℕ → Circuit → List ℕ → BitsByAnd → ℕ → Gate → List ℕ → ℕ
share_at role c triples far i (Xor a b) wires = bit_xor (get_or wires a 0) (get_or wires b 0)
share_at role c triples far i (And a b) wires = share_with_far role c triples wires i (far (ands_before c i))
share_at role c triples far i (Not a) wires = flipped role (get_or wires a 0)

-- the shares of all wires, from those of the inputs
unfoldable pub wire_shares : ℕ → Circuit → List ℕ → BitsByAnd → List ℕ → List ℕ
wire_shares role c triples far shares = over_gates (λ g wires. share_at role c triples far (length wires - c.inputs) g wires) c.gates shares

-- the two bits that are sent for the AND at gate i
abbrev pub masked_bits : ℕ → Circuit → List ℕ → BitsByAnd → List ℕ → ℕ → ℕ × ℕ
masked_bits role c triples far shares i =
    (masked_first c triples (wire_shares role c triples far shares) i, masked_second c triples (wire_shares role c triples far shares) i)

-- what an end has of a finished run: its shares and triples are bits, a share for each input, and its outputs and the bits that it sent
-- are those of `wire_shares`
pub record Transcript (role : ℕ) (c : Circuit) (shares triples : List ℕ) (far sent : BitsByAnd) (outputs : List ℕ) : Type 0 where
  pub one_each : length shares ≡ c.inputs
  pub share-bits : (w : ℕ) → get_or shares w 0 ≤ 1
  pub triple-bits : (w : ℕ) → get_or triples w 0 ≤ 1
  pub written : outputs ≡ at_wires (wire_shares role c triples far shares) c.outputs
  pub sends : (i : ℕ) → is_and (gate_at c i) ≡ true → sent (ands_before c i) ≡ masked_bits role c triples far shares i

-- in steps the AND with j ANDs before it is opened by accepted step j, and gets the far bits of accepted step j + 1
abbrev pub sent_in_steps : List StepMade → BitsByAnd
sent_in_steps steps j = get_or (map (λ (m : StepMade). (m.gave.first_bit, m.gave.second_bit)) steps) j (0, 0)

abbrev pub far_in_steps : List StepMade → BitsByAnd
far_in_steps steps j = get_or (map (λ (m : StepMade). (m.got.far_first, m.got.far_second)) steps) (suc j) (0, 0)

-- two bytes from a place on
abbrev pub pair_at : List ℕ → ℕ → ℕ × ℕ
pair_at bytes p = (get_or bytes p 0, get_or bytes (p + 1) 0)

-- what accepted round k got, and what it sent
abbrev pub far_of_round : List RoundMade → ℕ → List ℕ
far_of_round made k = get_or (map (λ (m : RoundMade). m.got.far) made) k []

abbrev pub sent_by_round : List RoundMade → ℕ → List ℕ
sent_by_round made k = get_or (map (λ (m : RoundMade). bits_by m.gave) made) k []

-- in rounds the AND at gate i gets its far bits in the accepted round of its level, and is opened by the one before
abbrev pub far_at_gate : Circuit → List RoundMade → ℕ → ℕ × ℕ
far_at_gate c made i = pair_at (far_of_round made (level_at c i)) (place_at c i)

abbrev pub sent_at_gate : Circuit → List RoundMade → ℕ → ℕ × ℕ
sent_at_gate c made i = pair_at (sent_by_round made (level_at c i - 1)) (place_at c i)

abbrev pub far_in_rounds : Circuit → List RoundMade → BitsByAnd
far_in_rounds c made j = far_at_gate c made (and_gate c.gates j)

abbrev pub sent_in_rounds : Circuit → List RoundMade → BitsByAnd
sent_in_rounds c made j = sent_at_gate c made (and_gate c.gates j)
