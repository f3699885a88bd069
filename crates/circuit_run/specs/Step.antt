-- A step of an end's run of a circuit (document 02, 9): from everything lent and the state that the step before left to everything
-- that stands on return. It tests the reading (10, 11, 17, 12), then 3, 13, 8, 18, and last what document 02 does not name: the state
-- (17) and the role (9).
use Rattle.std.specs.Prelude.{ℕ, ◌+◌, ◌-◌, ◌*◌, ◌%◌, Bool, not, ◌&&◌, ◌||◌, List, [], ◌∷◌, ◌++◌, leb, eqb, length, get_or, take, drop, set, replicate}
use Rattle.std.specs.Int.Bits.{bit_xor, bit_and}
use Rattle.algebra.specs.Choice.{choose}
use Rattle.algebra.specs.Coding.{at}
use Rattle.answer.specs.Numbers.{accepted, bad_length, not_element, wrong_end, buffer_short, bad_circuit, too_few_triples}
use Rattle.answer.specs.Outcome.{answered}
use Rattle.answer.specs.Tests.{Test, ◌is◌, ◌at_most◌, all_at_most, holds, ◌or◌}
use Rattle.circuit.specs.Admitted.{most_wires}
use Rattle.circuit.specs.Content.{Gate, Xor, And, Not, Circuit, is_and, ands_in}
use Rattle.circuit.specs.Reading.{read_circuit}
use Rattle.circuit.specs.Value.{at_wires}
use Rattle.number.specs.Reading.{after_reading}
use Rattle.pads.specs.Triples.Triple.{triple_bytes}
use Rattle.circuit_run.specs.declared.StepState.{StepState}
use Rattle.circuit_run.specs.declared.Stepped.{Stepped}

-- ---- what a step gets and gives

-- all that a step gets but the state: the role (1 the first pairing's noise end, 2 the other end), the circuit's bytes, this end's
-- shares of the inputs, its triples, the output buffer, the far bits
pub record StepLent : Type 0 where
  pub role : ℕ
  pub circuit : List ℕ
  pub shares : List ℕ
  pub triples : List ℕ
  pub output : List ℕ
  pub far_first : ℕ
  pub far_second : ℕ

abbrev pub lent_with : ℕ → List ℕ → List ℕ → List ℕ → List ℕ → ℕ → ℕ → StepLent
lent_with role circuit shares triples output far_first far_second =
    record {
      role = role;
      circuit = circuit;
      shares = shares;
      triples = triples;
      output = output;
      far_first = far_first;
      far_second = far_second;
    }

-- the number, the bytes written, the two bits to send, the state, and all that is lent as it stands on return
pub record StepOutcome : Type 0 where
  pub number : ℕ
  pub written : ℕ
  pub first_bit : ℕ
  pub second_bit : ℕ
  pub state : StepState
  pub lent : StepLent

abbrev pub step_outcome : ℕ → ℕ → ℕ → ℕ → StepState → StepLent → StepOutcome
step_outcome number written first_bit second_bit state lent =
    record { number = number; written = written; first_bit = first_bit; second_bit = second_bit; state = state; lent = lent }

-- what the answer of the call and all that is lent at exit say
abbrev pub stepped : Stepped → StepLent → StepOutcome
stepped r lent = step_outcome r.number r.written r.first_bit r.second_bit r.state lent

-- the state of a phase, a gate and the wires: phase 0 fresh, 1 waits for the far bits of the AND at the gate, 2 finished; the wires
-- are this end's shares of the inputs and of the gates passed, zero past them
abbrev pub step_state_with : ℕ → ℕ → List ℕ → StepState
step_state_with phase gate wires = record { phase = phase; gate = gate; wires = wires }

-- ---- tests

-- far bits are bits where they are read, which is in phase 1 alone
abbrev pub far_admitted : Bool → ℕ → ℕ → Bool
far_admitted waits far_first far_second = not waits || (leb far_first 1 && leb far_second 1)

-- the gate of a number, from 0; past the last there is none, which a NOT stands for, since it is asked for ANDs alone
abbrev pub gate_at : Circuit → ℕ → Gate
gate_at c i = get_or c.gates i (Not 0)

-- a state is refused for a phase above 2, or phase 1 at no AND of this circuit
abbrev pub state_admitted : Circuit → ℕ → ℕ → Bool
state_admitted c phase gate = leb phase 2 && (not (eqb phase 1) || is_and (gate_at c gate))

abbrev pub is_role : ℕ → Bool
is_role role = eqb role 1 || eqb role 2

-- the tests of a step on a circuit that was read: shares one an input, triple bits three each; room for the outputs; shares and
-- triples are bits, unused triples too, and so are the far bits in phase 1; a triple for each AND; the state; the role
abbrev pub step_tests : Circuit → StepLent → StepState → List Test
step_tests c l s =
    length l.shares is c.inputs or bad_length
    ∷ length l.triples % 3 is 0 or bad_length
    ∷ length c.outputs at_most length l.output or buffer_short
    ∷ all_at_most 1 l.shares or not_element
    ∷ all_at_most 1 l.triples or not_element
    ∷ holds (far_admitted (eqb s.phase 1) l.far_first l.far_second) or not_element
    ∷ 3 * ands_in c.gates at_most length l.triples or too_few_triples
    ∷ holds (state_admitted c s.phase s.gate) or bad_circuit
    ∷ holds (is_role l.role) or wrong_end
    ∷ []

-- ---- what an accepted step does

-- the wires before the first gate: the shares, and zero past them
unfoldable pub fresh_wires : List ℕ → List ℕ
fresh_wires shares = shares ++ replicate (most_wires - length shares) 0

-- NOT: role 1 alone flips
unfoldable pub flipped : ℕ → ℕ → ℕ
flipped role x = choose (eqb role 1) (bit_xor x 1) x

-- from gate i on, the gates from there given, to the next AND, which the run waits at, or to the end, where it has finished
unfoldable pub run_on : ℕ → ℕ → List Gate → ℕ → List ℕ → StepState
run_on role inputs [] i wires = step_state_with 2 i wires
run_on role inputs (Xor a b ∷ gs) i wires = run_on role inputs gs (i + 1) (set wires (inputs + i) (bit_xor (get_or wires a 0) (get_or wires b 0)))
run_on role inputs (And a b ∷ gs) i wires = step_state_with 1 i wires
run_on role inputs (Not a ∷ gs) i wires = run_on role inputs gs (i + 1) (set wires (inputs + i) (flipped role (get_or wires a 0)))

abbrev pub advance : ℕ → Circuit → ℕ → List ℕ → StepState
advance role c i wires = run_on role c.inputs (drop i c.gates) i wires

-- the AND with j ANDs before it takes triple j
abbrev pub ands_before : Circuit → ℕ → ℕ
ands_before c i = ands_in (take i c.gates)

-- the first, second and third bit of triple j
abbrev pub triple_first : List ℕ → ℕ → ℕ
triple_first triples j = (at triple_bytes triples j).bit1

abbrev pub triple_second : List ℕ → ℕ → ℕ
triple_second triples j = (at triple_bytes triples j).bit2

abbrev pub triple_third : List ℕ → ℕ → ℕ
triple_third triples j = (at triple_bytes triples j).bit3

-- the wires of an AND
abbrev pub first_wire : Gate → ℕ
first_wire (Xor a b) = a
first_wire (And a b) = a
first_wire (Not a) = a

abbrev pub second_wire : Gate → ℕ
second_wire (Xor a b) = b
second_wire (And a b) = b
second_wire (Not a) = 0

-- the two bits to send at the AND at gate i: each wire share masked by the next triple's first or second bit
unfoldable pub masked_first : Circuit → List ℕ → List ℕ → ℕ → ℕ
masked_first c triples wires i = bit_xor (get_or wires (first_wire (gate_at c i)) 0) (triple_first triples (ands_before c i))

unfoldable pub masked_second : Circuit → List ℕ → List ℕ → ℕ → ℕ
masked_second c triples wires i = bit_xor (get_or wires (second_wire (gate_at c i)) 0) (triple_second triples (ands_before c i))

-- the AND's share, with D and E the combined bits: the third bit, exclusive-or D AND the second, exclusive-or E AND the first; role 1
-- also adds D AND E
unfoldable pub and_share : ℕ → ℕ → ℕ → ℕ → ℕ → ℕ → ℕ
and_share role d e a b c =
    choose (eqb role 1)
    (bit_xor (bit_xor (bit_xor c (bit_and d b)) (bit_and e a)) (bit_and d e))
    (bit_xor (bit_xor c (bit_and d b)) (bit_and e a))

-- the share of the AND that a run waits at, its masked bits combined with the far bits
unfoldable pub waiting_share : Circuit → StepLent → StepState → ℕ
waiting_share c l s =
    and_share l.role
    (bit_xor (masked_first c l.triples s.wires s.gate) l.far_first)
    (bit_xor (masked_second c l.triples s.wires s.gate) l.far_second)
    (triple_first l.triples (ands_before c s.gate))
    (triple_second l.triples (ands_before c s.gate))
    (triple_third l.triples (ands_before c s.gate))

-- the wires of a run that waits at an AND, with the AND's share
unfoldable pub with_and : Circuit → StepLent → StepState → List ℕ
with_and c l s = set s.wires (c.inputs + s.gate) (waiting_share c l s)

-- the state that an accepted step leaves: a fresh run takes the shares and runs from gate 0, one that waits gives its AND the share
-- and runs on, a finished one stays
unfoldable pub state_after : Circuit → StepLent → StepState → StepState
state_after c l s =
    choose (eqb s.phase 0) (advance l.role c 0 (fresh_wires l.shares))
    (choose (eqb s.phase 1) (advance l.role c (s.gate + 1) (with_and c l s))
    s)

-- the shares of the output wires, in front of what stood in the output buffer
unfoldable pub with_outputs : Circuit → StepLent → StepState → StepLent
with_outputs c l s =
    lent_with l.role l.circuit l.shares l.triples (at_wires s.wires c.outputs ++ drop (length c.outputs) l.output)
    l.far_first l.far_second

-- an accepted step: one that waits gives the two bits to send, a finished one writes the outputs
unfoldable pub accepted_step : Circuit → StepLent → StepState → StepOutcome
accepted_step c l s =
    choose (eqb s.phase 1)
    (step_outcome accepted 0 (masked_first c l.triples s.wires s.gate) (masked_second c l.triples s.wires s.gate) s l)
    (step_outcome accepted (length c.outputs) 0 0 s (with_outputs c l s))

-- a refused step returns zeros, the state and all that is lent as it was
abbrev pub refused_step : StepLent → StepState → ℕ → StepOutcome
refused_step l s number = step_outcome number 0 0 0 s l

-- the step: the reading's number, else that of the first test that is not met, else what an accepted step gives
unfoldable pub step : StepLent → StepState → StepOutcome
step l s =
    after_reading (read_circuit l.circuit) (refused_step l s)
    (λ c. answered (step_tests c l s) (refused_step l s) (accepted_step c l (state_after c l s)))
