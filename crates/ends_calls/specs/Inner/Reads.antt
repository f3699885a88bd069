-- Inner: no promise cites this file. What the result of reading a whole record stands for (document 01, 'Numbers of the calls'): its
-- bytes and its content where it is accepted, else the number of its refusal.
use Rattle.std.specs.Prelude.{◌≡◌, ℕ, List, Result, Ok, Err}
use Rattle.answer.specs.declared.Refusal.{Refusal}
use Rattle.answer.specs.Refused.{number_of}
use Rattle.number.specs.Reading.{Whole, Refused}
use Rattle.record.specs.Reading.{read_noise, read_scalar}
use Rattle.ends.specs.Inner.Noise as noise
use Rattle.ends.specs.Inner.Scalar as scalar
use Rattle.ends_calls.specs.declared.accepted.NoiseRecord.{NoiseRecord}
use Rattle.ends_calls.specs.declared.accepted.ScalarRecord.{ScalarRecord}

abbrev pub NoiseRead : List ℕ → Result NoiseRecord Refusal → Type 0
NoiseRead s (Ok r) = (r.source.now ≡ s) × (Whole (noise.content_of s r.layout) ≡ read_noise s)
NoiseRead s (Err refusal) = Refused (number_of refusal) ≡ read_noise s

abbrev pub ScalarRead : List ℕ → Result ScalarRecord Refusal → Type 0
ScalarRead s (Ok r) = (r.source.now ≡ s) × (Whole (scalar.content_of s r.layout) ≡ read_scalar s)
ScalarRead s (Err refusal) = Refused (number_of refusal) ≡ read_scalar s
