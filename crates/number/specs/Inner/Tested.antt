-- Inner: no promise cites this file. What was read, tested by what a test answers.
use Rattle.std.specs.Prelude.{ℕ, Bool, Result, Ok, Err, ◌≡◌}
use Rattle.answer.specs.declared.Refusal.{Refusal}
use Rattle.number.specs.Reading.{choose}

-- what passes the test is answered as it was read, and what fails it is refused
abbrev pub Tested : {A : Type 0} → (A → Bool → Type 0) → Refusal → Result (A × ℕ) Refusal → Result (A × ℕ) Refusal → Type 0
Tested answers reason (Ok read) result = (passed : Bool) × answers read.0 passed × (result ≡ choose passed (Ok read) (Err reason))
Tested answers reason (Err refusal) result = result ≡ Err refusal
