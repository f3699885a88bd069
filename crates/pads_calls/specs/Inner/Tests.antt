-- Inner: no promise cites this file. The tests with which both pad calls begin.
use Rattle.std.specs.Prelude.{List, [], ◌∷◌, ℕ, ◌+◌, ◌*◌, length}
use Rattle.answer.specs.Numbers.{bad_length, window_past_end}
use Rattle.answer.specs.Tests.{Test, ◌is◌, ◌at_most◌, ◌or◌}

-- the blocks have 16 bytes an output and the end's other slice `size` bytes; the window ends by 32,768
abbrev pub window_tests : ℕ → ℕ → List ℕ → List ℕ → ℕ → List Test
window_tests first count blocks other size =
    length blocks is 16 * count or bad_length
    ∷ length other is size or bad_length
    ∷ (first + count) at_most 32768 or window_past_end
    ∷ []
