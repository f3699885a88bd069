-- What a call answers (document 01, 'Numbers of the calls'): an accepted call 0, its lengths and what it wrote; a refused one the
-- first fault's number, zero for each length, and all that is lent as it was.
use Rattle.std.specs.Prelude.{List, ℕ, zero, suc}
use Rattle.answer.specs.Numbers.{accepted}
use Rattle.answer.specs.declared.OneLength.{OneLength}
use Rattle.answer.specs.declared.TwoLengths.{TwoLengths}
use Rattle.answer.specs.Tests.{Test, first_fault}

-- by a number: what a refused call gives, or what an accepted one, of number 0, gives
unfoldable pub by_number : {O : Type 0} → ℕ → (ℕ → O) → O → O
by_number zero refusal acceptance = acceptance
by_number (suc n) refusal acceptance = refusal (suc n)

-- a call: refused with the number of the first test that is not met, else accepted
unfoldable pub answered : {O : Type 0} → List Test → (ℕ → O) → O → O
answered tests refusal acceptance = by_number (first_fault tests) refusal acceptance

-- ---- calls that answer by a number and lengths

-- the number, what was written to each output buffer, and all that is lent
pub record Outcome (Written Lent : Type 0) : Type 0 where
  pub number : ℕ
  pub written : Written
  pub lent : Lent

-- the lengths written to two output buffers
pub record TwoWritten : Type 0 where
  pub first_written : ℕ
  pub second_written : ℕ

-- what a returned number, and all that is lent at exit, say
abbrev pub outcome_none : {Lent : Type 0} → ℕ → Lent → Outcome (Unit {0}) Lent
outcome_none number lent = record { number = number; written = tt; lent = lent }

-- what an answer with one length, or with two, and all that is lent at exit, say
abbrev pub outcome_one : {Lent : Type 0} → OneLength → Lent → Outcome ℕ Lent
outcome_one r lent = record { number = r.number; written = r.written; lent = lent }

abbrev pub outcome_two : {Lent : Type 0} → TwoLengths → Lent → Outcome TwoWritten Lent
outcome_two r lent = record { number = r.number; written = record { first_written = r.first_written; second_written = r.second_written }; lent = lent }

-- a refused call: its number, zero for each length, and all that is lent as it was
abbrev pub refused_none : {Lent : Type 0} → Lent → ℕ → Outcome (Unit {0}) Lent
refused_none lent n = record { number = n; written = tt; lent = lent }

abbrev pub refused_one : {Lent : Type 0} → Lent → ℕ → Outcome ℕ Lent
refused_one lent n = record { number = n; written = 0; lent = lent }

abbrev pub refused_two : {Lent : Type 0} → Lent → ℕ → Outcome TwoWritten Lent
refused_two lent n = record { number = n; written = record { first_written = 0; second_written = 0 }; lent = lent }

-- an accepted call: 0, its lengths, and all that is lent as it leaves it
abbrev pub wrote : {Written Lent : Type 0} → Written → Lent → Outcome Written Lent
wrote written lent = record { number = accepted; written = written; lent = lent }
