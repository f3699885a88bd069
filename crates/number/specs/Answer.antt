-- What the result of reading a number stands for (document 01, 'Numbers of the calls'): its values where it is accepted, else the number
-- of its refusal.
use Rattle.std.specs.Prelude.{ℕ, Result, Ok, Err}
use Rattle.answer.specs.declared.Refusal.{Refusal}
use Rattle.answer.specs.Refused.{number_of}
use Rattle.number.specs.Reading.{Whole, Refused, Parsed}

-- `Ok` is accepted, with the number that was read and the place after its last byte; `Err` is refused with its number
abbrev pub number_read : Result (ℕ × ℕ) Refusal → Parsed ℕ
number_read (Ok read) = Whole read
number_read (Err refusal) = Refused (number_of refusal)
