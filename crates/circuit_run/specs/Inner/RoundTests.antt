-- Inner: no promise cites this file. The tests of a round by what the code has.
use Rattle.std.specs.Prelude.{ℕ, ◌*◌, ◌%◌, List, [], ◌∷◌, length}
use Rattle.algebra.specs.Choice.{choose}
use Rattle.answer.specs.Numbers.{bad_length, not_element, wrong_end, buffer_short, too_few_triples}
use Rattle.answer.specs.Tests.{Test, ◌is◌, ◌at_most◌, all_at_most, holds, ◌or◌}
use Rattle.circuit.specs.declared.Layout.{Layout}
use Rattle.circuit_run.specs.Step.{is_role}
use Rattle.circuit_run.specs.Round.{waits}

-- one for a byte that waits, else none
abbrev pub wait_of : ℕ → ℕ
wait_of byte = choose (waits byte) 1 0

-- those of the bytes, of a circuit of so many ANDs, and of the role
abbrev pub byte_tests : ℕ → ℕ → List ℕ → List ℕ → List ℕ → List Test
byte_tests ands role shares triples far =
    all_at_most 1 shares or not_element
    ∷ all_at_most 1 triples or not_element
    ∷ all_at_most 1 far or not_element
    ∷ 3 * ands at_most length triples or too_few_triples
    ∷ holds (is_role role) or wrong_end
    ∷ []

-- all of them, by the circuit's layout and how many gates wait
abbrev pub asked_tests : Layout → ℕ → ℕ → List ℕ → List ℕ → List ℕ → ℕ → ℕ → List Test
asked_tests f waiting role shares triples far room bits_room =
    length shares is f.inputs or bad_length
    ∷ length triples % 3 is 0 or bad_length
    ∷ length far is 2 * waiting or bad_length
    ∷ f.outputs at_most room or buffer_short
    ∷ 2 * f.ands at_most bits_room or buffer_short
    ∷ byte_tests f.ands role shares triples far
