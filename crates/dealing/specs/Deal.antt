-- The dealing call (document 01, 'Dealing', 'Numbers of the calls'): from everything lent to everything that stands on
-- return, the input too. It tests 1, 2, 3, 4, 5, 6, 13.
use Rattle.std.specs.Prelude.{List, [], ◌∷◌, ◌++◌, ℕ, length, take, drop}
use Rattle.answer.specs.Numbers.{buffer_short}
use Rattle.answer.specs.Outcome.{Outcome, TwoWritten, answered, refused_two, wrote}
use Rattle.answer.specs.Tests.{Test, ◌at_most◌, ◌or◌}
use Rattle.record.specs.Writing.{write_noise, write_scalar}
use Rattle.dealing.specs.Input.{Input, size_tests, length_tests, content_tests}
use Rattle.dealing.specs.Parts.{noise_part, scalar_part}

-- what is lent: the input and both record buffers
pub record DealLent : Type 0 where
  pub input : Input
  pub noise_record : List ℕ
  pub scalar_record : List ℕ

abbrev pub lent_deal : Input → List ℕ → List ℕ → DealLent
lent_deal input noise_record scalar_record = record { input = input; noise_record = noise_record; scalar_record = scalar_record }

-- the number, the bytes written to each record buffer, and all that is lent
abbrev pub DealOutcome : Type 0
DealOutcome = Outcome TwoWritten DealLent

-- each end's record: the front of its buffer, of the returned length
abbrev pub noise_record_of : DealOutcome → List ℕ
noise_record_of d = take d.written.first_written d.lent.noise_record

abbrev pub scalar_record_of : DealOutcome → List ℕ
scalar_record_of d = take d.written.second_written d.lent.scalar_record

-- each record has room in its buffer
abbrev pub room_tests : Input → ℕ → ℕ → List Test
room_tests I noise_room scalar_room =
    length (write_noise (noise_part I)) at_most noise_room or buffer_short
    ∷ length (write_scalar (scalar_part I)) at_most scalar_room or buffer_short
    ∷ []

-- its tests
abbrev pub deal_tests : Input → ℕ → ℕ → List Test
deal_tests I noise_room scalar_room = size_tests I ++ (length_tests I ++ (content_tests I ++ room_tests I noise_room scalar_room))

-- bytes over the front of a buffer, the rest as it was
abbrev pub front : List ℕ → List ℕ → List ℕ
front bytes buffer = bytes ++ drop (length bytes) buffer

-- the call: both records, each over the front of its buffer
unfoldable pub deal : Input → List ℕ → List ℕ → DealOutcome
deal I a b =
    answered (deal_tests I (length a) (length b)) (refused_two (lent_deal I a b))
    (wrote (record { first_written = length (write_noise (noise_part I)); second_written = length (write_scalar (scalar_part I)) })
    (lent_deal I (front (write_noise (noise_part I)) a) (front (write_scalar (scalar_part I)) b)))
