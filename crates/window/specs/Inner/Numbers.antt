-- Inner: no promise cites this file. The tests 3, 7 and 13 of an online call, by what the code has.
use Rattle.std.specs.Prelude.{List, [], ◌∷◌, ℕ, ◌+◌, ◌*◌, ◌^◌}
use Rattle.answer.specs.Numbers.{bad_length, window_past_end, buffer_short}
use Rattle.answer.specs.Tests.{Test, ◌is◌, ◌at_most◌, ◌or◌}
use Rattle.code.specs.declared.Window.{Window}
use Rattle.field.specs.Kind.{element_words}
use Rattle.record.specs.declared.Layout.{Layout}

-- from the lengths of the noise, of a vector of elements, and of the buffers for a window of both
abbrev pub length_tests : Layout → ℕ → ℕ → Window → ℕ → ℕ → List Test
length_tests f noise vector w u_room room =
    noise is 2 ^ f.depth or bad_length
    ∷ vector is 2 ^ f.depth * element_words f.field or bad_length
    ∷ (w.first + w.count) at_most f.outputs or window_past_end
    ∷ w.count at_most u_room or buffer_short
    ∷ w.count * element_words f.field at_most room or buffer_short
    ∷ []

-- those of them that concern the elements
abbrev pub element_tests : Layout → ℕ → Window → ℕ → List Test
element_tests f vector w room =
    vector is 2 ^ f.depth * element_words f.field or bad_length
    ∷ (w.first + w.count) at_most f.outputs or window_past_end
    ∷ w.count * element_words f.field at_most room or buffer_short
    ∷ []
