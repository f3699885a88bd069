-- Inner: no promise cites this file. Bytes that were accepted as a record with these numbers.
use Rattle.std.specs.Prelude.{◌≡◌, List, ℕ}
use Rattle.number.specs.Reading.{Whole}
use Rattle.record.specs.Answer.{head_of, head_if_whole}
use Rattle.record.specs.Reading.{read_head, read_noise, read_scalar}
use Rattle.record.specs.declared.Layout.{Layout}

abbrev pub NoiseAccepted : List ℕ → Layout → Type 0
NoiseAccepted s f = Whole (head_of s f, f.body) ≡ head_if_whole (read_noise s) (read_head 1 s)

abbrev pub ScalarAccepted : List ℕ → Layout → Type 0
ScalarAccepted s f = Whole (head_of s f, f.body) ≡ head_if_whole (read_scalar s) (read_head 2 s)
