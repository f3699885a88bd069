-- The scalar end's online call (document 01, 'Offline and online', 'Numbers of the calls': the record, then 3, 7, 13, 8):
-- from everything lent to everything that stands on return, the record and the vector too.
use Rattle.std.specs.Prelude.{Bool, List, [], ◌∷◌, ℕ, ◌+◌, ◌*◌, length}
use Rattle.answer.specs.Numbers.{bad_length, window_past_end, not_element, buffer_short}
use Rattle.answer.specs.Tests.{Test, ◌is◌, ◌at_most◌, holds, ◌or◌}
use Rattle.answer.specs.Outcome.{Outcome, answered, refused_one, wrote}
use Rattle.algebra.specs.Field.{Field}
use Rattle.number.specs.Reading.{after_reading}
use Rattle.record.specs.Content.{Head}
use Rattle.record.specs.Reading.{read_scalar}
use Rattle.window.specs.Head.{field_of, row}
use Rattle.window.specs.Usable.{window_usable}
use Rattle.ends.specs.Parts.{vector_words, is_value, values_over}

-- what is lent: the record, the accumulated vector, and the output buffer
pub record Lent : Type 0 where
  pub source : List ℕ
  pub w : List ℕ
  pub w_out : List ℕ

abbrev pub lent_with : List ℕ → List ℕ → List ℕ → Lent
lent_with source w w_out = record { source = source; w = w; w_out = w_out }

-- 8: the words of w at a place are an element
unfoldable pub usable : Field → Lent → ℕ → Bool
usable F l j = is_value F l.w j

-- the window's c elements of w over the front of the output buffer
unfoldable pub filled : Head → Lent → ℕ → ℕ → Lent
filled h l first count =
    record {
      source = l.source;
      w = l.w;
      w_out = values_over (field_of h) (row h) l.w first count l.w_out;
    }

-- its tests: N elements of w; the window ends by n; room for c elements of w; the words that the window's rows use are elements
abbrev pub online_tests : Head → Lent → ℕ → ℕ → List Test
online_tests h l first count =
    length l.w is vector_words h or bad_length
    ∷ (first + count) at_most h.outputs or window_past_end
    ∷ count * (field_of h).elements.width at_most length l.w_out or buffer_short
    ∷ holds (window_usable (usable (field_of h) l) h first count) or not_element
    ∷ []

-- the call: the record's number, else that of the first test that is not met, else c elements of w
unfoldable pub online : Lent → ℕ → ℕ → Outcome ℕ Lent
online l first count =
    after_reading (read_scalar l.source) (refused_one l)
    (λ P. answered (online_tests P.head l first count) (refused_one l)
    (wrote (count * (field_of P.head).elements.width) (filled P.head l first count)))
