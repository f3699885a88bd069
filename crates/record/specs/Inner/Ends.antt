-- Inner: no promise cites this file. The end bytes of records, by the enum of the code.
use Rattle.std.specs.Prelude.{ℕ, ◌≡◌, Result, MatchResult}
use Rattle.answer.specs.declared.Refusal.{Refusal}
use Rattle.answer.specs.declared.Refusal.TheVariants.{WrongEnd}
use Rattle.record.specs.declared.End.{End}
use Rattle.record.specs.declared.End.TheVariants.{Noise, Scalar}

-- the end byte of a record
abbrev pub end_byte : End → ℕ
end_byte Noise = 1
end_byte Scalar = 2

-- the end with this byte, or the refusal of a byte that no end has
abbrev pub OfByte : ℕ → Result End Refusal → Type 0
OfByte byte r = MatchResult r (λ end. end_byte end ≡ byte) (λ refusal. (refusal ≡ WrongEnd) × ((end : End) → end_byte end ≡ byte → ⊥))
