-- What an accepted dealing gives: admitted input, room in both buffers, and records that are the writings of both ends' parts
-- and read as those parts.
use mathlib.Core.Path.{◌≡◌, refl, ap, ◌∙◌}
use mathlib.Core.List.{List, ◌++◌}
use mathlib.Core.Logic.{◌↔◌}
use Prim.Native.Nat.{ℕ, ◌≤◌}
use lib.ListN.{length}
use lib.Seq.{take-append_seam}
use borrow.Author.Tests.{ne_eqb}
use Rattle.answer.specs.Outcome.{TwoWritten, wrote, refused_two}
use Rattle.answer.specs.Tests.{AllMet}
use Rattle.answer.proofs.Answers.{refused-with, outcome-accepts, outcome_is}
use Rattle.answer.proofs.Joined.{met_before, met_after, met_both}
use Rattle.number.specs.Reading.{Whole}
use Rattle.record.proofs.Laws.{noise-reads as record-noise, scalar-reads as record-scalar}
use Rattle.record.specs.Reading.{read_noise, read_scalar}
use Rattle.record.specs.Writing.{write_noise, write_scalar}
use Rattle.dealing.specs.Admitted.{InMemory, Admitted}
use Rattle.dealing.specs.Deal.{lent_deal, room_tests, deal_tests, deal, noise_record_of, scalar_record_of, front}
use Rattle.dealing.specs.Input.{Input, size_tests, length_tests, content_tests}
use Rattle.dealing.specs.Inner.Steps.{deal_number}
use Rattle.dealing.specs.Parts.{noise_part, scalar_part}
use Rattle.dealing.proofs.Faults.{admitted, sizes_met, lengths_met, content_met}
use Rattle.dealing.proofs.Parts.{noise-admitted, scalar-admitted}

-- the writings of both ends' parts
abbrev pub noise_writing : Input → List ℕ
noise_writing I = write_noise (noise_part I)

abbrev pub scalar_writing : Input → List ℕ
scalar_writing I = write_scalar (scalar_part I)

-- what number 0 says of the input and the buffers
pub record Accepted (I : Input) (a b : List ℕ) : Type 0 where
  pub admitted : Admitted I
  pub noise-room : length (noise_writing I) ≤ length a
  pub scalar-room : length (scalar_writing I) ≤ length b

-- all tests met, by the room in each buffer
pub tests_say : (I : Input) (m n : ℕ) → AllMet (deal_tests I m n) → Admitted I × (length (noise_writing I) ≤ m) × (length (scalar_writing I) ≤ n)
tests_say I m n met =
    let room = room_tests I m n in
    let lengths = met_after (size_tests I) (length_tests I ++ (content_tests I ++ room)) met in
    let content = met_after (length_tests I) (content_tests I ++ room) lengths in
    let rooms = met_after (content_tests I) room content in (
      admitted I (met_before (size_tests I) _ met) (met_before (length_tests I) _ lengths) (met_before (content_tests I) room content),
      search rooms,
      search rooms,
    )

pub tests-accepted : (I : Input) (a b : List ℕ) → AllMet (deal_tests I (length a) (length b)) → Accepted I a b
tests-accepted I a b met = let t = tests_say I (length a) (length b) met in record { admitted = t.0; noise-room = t.1; scalar-room = t.2 }

module _ (I : Input) (a b : List ℕ) where
  accepts : AllMet (deal_tests I (length a) (length b)) ↔ (deal I a b).number ≡ 0
  unfolding deal
  accepts = outcome-accepts _ _ _ _ _ refl

  -- a refused call returns zeros, and leaves all that is lent as it was
  pub deal-refused : {n : ℕ} → n ≡ deal_number I (length a) (length b) → (n ≡ 0 → ⊥) → refused_two (lent_deal I a b) n ≡ deal I a b
  unfolding deal deal_number
  deal-refused {n} tested some = refused-with _ _ _ _ n tested (ne_eqb n 0 some) refl

  -- admitted input with room in both buffers is dealt
  pub deal-accepted : Accepted I a b → (deal I a b).number ≡ 0
  deal-accepted A =
      let room : AllMet (room_tests I (length a) (length b)) = record { all = search A depth 12 } in
      accepts.0
      (met_both (size_tests I) _ (sizes_met I A.admitted)
      (met_both (length_tests I) _ (lengths_met I A.admitted) (met_both (content_tests I) _ (content_met I A.admitted) room)))

  -- number 0 is given to no other
  pub deal-number : (deal I a b).number ≡ 0 → Accepted I a b
  deal-number z = tests-accepted I a b (accepts.1 z)

module _ (I : Input) (a b : List ℕ) (z : (deal I a b).number ≡ 0) where
  -- the records of an accepted dealing
  dealt-whole : deal I a b
      ≡ wrote {Written = TwoWritten} (record { first_written = length (noise_writing I); second_written = length (scalar_writing I) })
      (lent_deal I (front (noise_writing I) a) (front (scalar_writing I) b))
  unfolding deal
  dealt-whole = outcome_is _ _ _ _ _ z

  pub noise-record : noise_record_of (deal I a b) ≡ noise_writing I
  noise-record = ap noise_record_of dealt-whole ∙ take-append_seam (noise_writing I) _

  pub scalar-record : scalar_record_of (deal I a b) ≡ scalar_writing I
  scalar-record = ap scalar_record_of dealt-whole ∙ take-append_seam (scalar_writing I) _

  -- each record reads as that end's part
  module _ (M : InMemory I) where
    pub noise-reads : read_noise (noise_record_of (deal I a b)) ≡ Whole (noise_part I)
    noise-reads = ap read_noise noise-record ∙ record-noise (noise_part I) (noise-admitted I (deal-number I a b z).admitted M)

    pub scalar-reads : read_scalar (scalar_record_of (deal I a b)) ≡ Whole (scalar_part I)
    scalar-reads = ap read_scalar scalar-record ∙ record-scalar (scalar_part I) (scalar-admitted I (deal-number I a b z).admitted M)
