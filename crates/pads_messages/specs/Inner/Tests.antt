-- Inner: no promise cites this file. The tests that answers and their opening share.
use Rattle.std.specs.Prelude.{List, [], ◌∷◌, ℕ, ◌*◌, length}
use Rattle.answer.specs.Numbers.{bad_length, not_element, buffer_short}
use Rattle.answer.specs.Tests.{Test, ◌is◌, ◌at_most◌, all_at_most, ◌or◌}

-- the bits have a byte an output, the pads `width` and both blocks 32, and room is asked for as many as the pads have: of width 32 these
-- are the tests of the answers, and of width 16 those of the opening
abbrev pub blocks_tests : ℕ → ℕ → List ℕ → List ℕ → List ℕ → ℕ → List Test
blocks_tests width count bits pads blocks room =
    count at_most 4096 or bad_length
    ∷ length bits is count or bad_length
    ∷ length pads is width * count or bad_length
    ∷ length blocks is 32 * count or bad_length
    ∷ all_at_most 1 bits or not_element
    ∷ width * count at_most room or buffer_short
    ∷ []
