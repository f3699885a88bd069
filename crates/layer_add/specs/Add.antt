-- The call that adds one vector of words to another ('Layers'): from everything lent to everything that stands on return. It tests 1
-- (the field), 3 (the lengths differ) and 8 (in field 2, a word of either that is p or more), in that order.
use Rattle.std.specs.Prelude.{Bool, not, ◌||◌, List, [], ◌∷◌, ℕ, ◌+◌, ◌-◌, ◌%◌, eqb, length, get_or}
use Rattle.std.specs.Int.Bits.{bit_xor}
use Rattle.algebra.specs.Choice.{choose}
use Rattle.algebra.specs.Coding.{Coding, over}
use Rattle.algebra.specs.Words.{one_word}
use Rattle.answer.specs.Bytes.{any_above}
use Rattle.answer.specs.Numbers.{bad_field, bad_length, not_element}
use Rattle.answer.specs.Tests.{Test, ◌is◌, holds, ◌or◌}
use Rattle.answer.specs.Outcome.{Outcome, answered, refused_one, wrote}
use Rattle.field.specs.ByNumber.{is_field}
use Rattle.prime.specs.Prime.{modulus}

-- what is lent: the words to add, and those that they are added to
pub record AddLent : Type 0 where
  pub from : List ℕ
  pub into : List ℕ

abbrev pub lent_add : List ℕ → List ℕ → AddLent
lent_add from into = record { from = from; into = into }

-- the sum of two words: exclusive or in field 1, modulo p in field 2
unfoldable pub prime_sum : ℕ → ℕ → ℕ
prime_sum a b = (a + b) % modulus

abbrev pub word_sum : ℕ → ℕ → ℕ → ℕ
word_sum field a b = choose (eqb field 1) (bit_xor a b) (prime_sum a b)

-- a word by itself
abbrev pub word : Coding ℕ
word = one_word (λ w. w) (λ w. w)

-- word for word, by a sum of words
unfoldable pub sum_at : (ℕ → ℕ → ℕ) → List ℕ → List ℕ → ℕ → ℕ
sum_at sum from into k = sum (get_or from k 0) (get_or into k 0)

unfoldable pub summed : (ℕ → ℕ → ℕ) → List ℕ → List ℕ → List ℕ
summed sum from into = over word (length into) (sum_at sum from into) into

-- 8: field 2 asks each word to be below p; in field 1 every word serves
abbrev pub are_words : ℕ → List ℕ → Bool
are_words field words = eqb field 1 || not (any_above (modulus - 1) words)

-- its tests
abbrev pub add_tests : ℕ → AddLent → List Test
add_tests field l =
    holds (is_field field) or bad_field
    ∷ length l.from is length l.into or bad_length
    ∷ holds (are_words field l.from) or not_element
    ∷ holds (are_words field l.into) or not_element
    ∷ []

-- the call: the sum in the place of the second words, as many as there are
unfoldable pub add : ℕ → AddLent → Outcome ℕ AddLent
add field l =
    answered (add_tests field l) (refused_one l) (wrote (length l.into) (lent_add l.from (summed (word_sum field) l.from l.into)))
