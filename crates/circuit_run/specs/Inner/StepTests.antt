-- Inner: no promise cites this file. The tests of a step by what the code has.
use Rattle.std.specs.Prelude.{ℕ, ◌*◌, ◌%◌, Bool, List, [], ◌∷◌, length}
use Rattle.answer.specs.Numbers.{bad_length, not_element, wrong_end, buffer_short, bad_circuit, too_few_triples}
use Rattle.answer.specs.Tests.{Test, ◌is◌, ◌at_most◌, all_at_most, holds, ◌or◌}
use Rattle.circuit.specs.declared.Layout.{Layout}
use Rattle.circuit_run.specs.Step.{far_admitted, is_role}
use Rattle.circuit_run.specs.declared.places.Asked.{Asked}

-- by the circuit's layout, whether the state is admitted being known
abbrev pub asked_tests : Layout → Bool → Asked → List ℕ → List ℕ → ℕ → List Test
asked_tests f admitted a shares triples room =
    length shares is f.inputs or bad_length
    ∷ length triples % 3 is 0 or bad_length
    ∷ f.outputs at_most room or buffer_short
    ∷ all_at_most 1 shares or not_element
    ∷ all_at_most 1 triples or not_element
    ∷ holds (far_admitted a.waits a.far_first a.far_second) or not_element
    ∷ 3 * f.ands at_most length triples or too_few_triples
    ∷ holds admitted or bad_circuit
    ∷ holds (is_role a.role) or wrong_end
    ∷ []
