-- The noise end's online call (document 01, 'Offline and online', 'Numbers of the calls': the record, then 3, 7, 13, 8):
-- from everything lent to everything that stands on return, the record and the vectors too.
use Rattle.std.specs.Prelude.{Bool, ◌&&◌, List, [], ◌∷◌, ℕ, ◌+◌, ◌*◌, length}
use Rattle.answer.specs.Numbers.{bad_length, window_past_end, not_element, buffer_short}
use Rattle.answer.specs.Tests.{Test, ◌is◌, ◌at_most◌, holds, ◌or◌}
use Rattle.answer.specs.Outcome.{Outcome, TwoWritten, answered, refused_two, wrote}
use Rattle.algebra.specs.Field.{Field}
use Rattle.number.specs.Reading.{after_reading}
use Rattle.record.specs.Content.{Head}
use Rattle.record.specs.Reading.{read_noise}
use Rattle.window.specs.Head.{field_of, of_noise, places, row}
use Rattle.window.specs.Usable.{window_usable}
use Rattle.ends.specs.Parts.{vector_words, is_value, values_over}

-- what is lent: the record, the accumulated vectors, and the output buffers
pub record Lent : Type 0 where
  pub source : List ℕ
  pub noise : List ℕ
  pub v : List ℕ
  pub u_out : List ℕ
  pub v_out : List ℕ

abbrev pub lent_with : List ℕ → List ℕ → List ℕ → List ℕ → List ℕ → Lent
lent_with source noise v u_out v_out = record { source = source; noise = noise; v = v; u_out = u_out; v_out = v_out }

-- 8: at a place the words of v are an element, and the word of the accumulated noise is a noise value: 0 or 1 in field 1, below p in
-- field 2
unfoldable pub usable : Field → Lent → ℕ → Bool
usable F l j = is_value (of_noise F) l.noise j && is_value F l.v j

-- the window's c words of u and c elements of v over the fronts of the output buffers
unfoldable pub filled : Head → Lent → ℕ → ℕ → Lent
filled h l first count =
    record {
      source = l.source;
      noise = l.noise;
      v = l.v;
      u_out = values_over (of_noise (field_of h)) (row h) l.noise first count l.u_out;
      v_out = values_over (field_of h) (row h) l.v first count l.v_out;
    }

-- its tests: N words of noise and N elements of v; the window ends by n; room for c words of u and c elements of v; the words that
-- the window's rows use are such
abbrev pub online_tests : Head → Lent → ℕ → ℕ → List Test
online_tests h l first count =
    length l.noise is places h or bad_length
    ∷ length l.v is vector_words h or bad_length
    ∷ (first + count) at_most h.outputs or window_past_end
    ∷ count at_most length l.u_out or buffer_short
    ∷ count * (field_of h).elements.width at_most length l.v_out or buffer_short
    ∷ holds (window_usable (usable (field_of h) l) h first count) or not_element
    ∷ []

-- the call: the record's number, else that of the first test that is not met, else c words of u and c elements of v
unfoldable pub online : Lent → ℕ → ℕ → Outcome TwoWritten Lent
online l first count =
    after_reading (read_noise l.source) (refused_two l)
    (λ P. answered (online_tests P.head l first count) (refused_two l)
    (wrote (record { first_written = count; second_written = count * (field_of P.head).elements.width }) (filled P.head l first count)))
