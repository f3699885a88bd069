-- What a call on a record answers, by what the reading gave.
use mathlib.Core.Path.{◌≡◌}
use Prim.Native.Nat.{ℕ}
use Rattle.number.specs.Reading.{Reading, Whole, Refused, after_reading}

module _ {A O : Type 0} (r : Reading A) (refusal : ℕ → O) (answer : A → O) (y : O) where
  pub read-refused : (n : ℕ) → r ≡ Refused n → y ≡ refusal n → y ≡ after_reading r refusal answer
  unfolding after_reading
  read-refused n e g = rw e g

  pub read_whole : (x : A) → r ≡ Whole x → y ≡ answer x → y ≡ after_reading r refusal answer
  unfolding after_reading
  read_whole x e g = rw e g

-- what holds of each refusal and of each answer
pub read_either : {A O : Type 0} (Q : O → Type 0) (r : Reading A) (refusal : ℕ → O) (answer : A → O) → ((n : ℕ) → Q (refusal n)) → ((x : A) → Q (answer x))
    → Q (after_reading r refusal answer)
unfolding after_reading
read_either Q (Whole x) refusal answer refuses answers = answers x
read_either Q (Refused n) refusal answer refuses answers = refuses n
