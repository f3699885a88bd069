-- What holds of reading and writing together (document 02, 13), for every element and every number; every i64 is one, the
-- least too.
use Rattle.std.specs.Prelude.{◌≡◌, ◌↔◌, ℕ, ◌<◌, ℤ, pos, neg_ℤ, ◌+ℤ◌, ◌≤ℤ◌}
use Rattle.answer.specs.Numbers.{accepted}
use Rattle.prime.specs.Prime.{modulus, prime, prime_add}
use Rattle.prime.specs.Signed.{greatest_amount, prime_negate}
use Rattle.amounts.specs.Calls.{read, written, read_amount, write_amount}

-- from −(2^60 − 1) to 2^60 − 1
pub record InRange (amount : ℤ) : Type 0 where
  pub from_least : neg_ℤ (pos greatest_amount) ≤ℤ amount
  pub to_greatest : amount ≤ℤ pos greatest_amount

pub record Agree : Type 0 where
  -- exactly the elements are read, and exactly the amounts in range are written
  pub reads : (element : ℕ) → element < modulus ↔ (read_amount element).number ≡ accepted
  pub writes : (amount : ℤ) → InRange amount ↔ (write_amount amount).number ≡ accepted
  -- reading a written amount returns it
  pub read-written : (amount : ℤ) → InRange amount → read_amount (write_amount amount).element ≡ read accepted amount
  -- writing what was read returns the element
  pub written_read : (element : ℕ) → element < modulus → write_amount (read_amount element).amount ≡ written accepted element
  -- the sum in the field of two written amounts is read as their sum, while that is in range
  pub sums : (a b : ℤ) → InRange a → InRange b → InRange (a +ℤ b)
      → read_amount (prime_add (prime (write_amount a).element) (prime (write_amount b).element)).word ≡ read accepted (a +ℤ b)
  -- the negation in the field is read as the opposite
  pub negation : (element : ℕ) → element < modulus
      → read_amount (prime_negate (prime element)).word ≡ read accepted (neg_ℤ (read_amount element).amount)
