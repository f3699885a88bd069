-- What document 01 says of records ('Key records', 'Numbers of the calls'): each record that a dealing writes reads back as
-- that end's part of it, an accepted record is the only writing of its content, and none is accepted at both ends. Of workings: the
-- promise is `Records` of `page_claims`, over the page.
use Rattle.std.specs.Prelude.{◌≡◌, List, ℕ}
use Rattle.dealing.specs.Admitted.{InMemory}
use Rattle.dealing.specs.Deal.{deal, noise_record_of, scalar_record_of}
use Rattle.dealing.specs.Input.{Input}
use Rattle.dealing.specs.Parts.{noise_part, scalar_part}
use Rattle.number.specs.Reading.{Whole, Bytes}
use Rattle.record.specs.Admitted.{AdmittedNoise, AdmittedScalar}
use Rattle.record.specs.Content.{NoisePart, ScalarPart}
use Rattle.record.specs.Reading.{read_noise, read_scalar}
use Rattle.record.specs.Writing.{write_noise, write_scalar}

pub record Records : Type 0 where
  -- what an accepted dealing wrote, the front of each buffer of the returned length, reads back
  pub noise-back : (I : Input) → InMemory I → (a b : List ℕ) → (deal I a b).number ≡ 0
      → read_noise (noise_record_of (deal I a b)) ≡ Whole (noise_part I)
  pub scalar-back : (I : Input) → InMemory I → (a b : List ℕ) → (deal I a b).number ≡ 0
      → read_scalar (scalar_record_of (deal I a b)) ≡ Whole (scalar_part I)
  -- bytes that read as a content are its writing, and the content is admitted
  pub noise-one : (s : List ℕ) → Bytes s → (p : NoisePart) → read_noise s ≡ Whole p → AdmittedNoise p × (s ≡ write_noise p)
  pub scalar-one : (s : List ℕ) → Bytes s → (p : ScalarPart) → read_scalar s ≡ Whole p → AdmittedScalar p × (s ≡ write_scalar p)
  -- the writing of admitted content is accepted
  pub noise-accepted : (p : NoisePart) → AdmittedNoise p → read_noise (write_noise p) ≡ Whole p
  pub scalar-accepted : (p : ScalarPart) → AdmittedScalar p → read_scalar (write_scalar p) ≡ Whole p
  -- no record is accepted at both ends
  pub one_end : (s : List ℕ) (p : NoisePart) (q : ScalarPart) → read_noise s ≡ Whole p → read_scalar s ≡ Whole q → ⊥
