-- Both calls on signed amounts (document 02, 13). Nothing is lent, so a call's answer is all that stands on return; a refused
-- call answers zero beside its number.
use Rattle.std.specs.Prelude.{ℕ, ltb, ℤ, pos, Option, Some, None}
use Rattle.algebra.specs.Choice.{choose}
use Rattle.answer.specs.Numbers.{accepted, not_element, amount_out_of_range}
use Rattle.prime.specs.declared.prime.Prime.{Prime}
use Rattle.prime.specs.Prime.{modulus}
use Rattle.prime.specs.Signed.{signed_of, from_signed}
use Rattle.amounts.specs.declared.Amount.{Amount}
use Rattle.amounts.specs.declared.WrittenAmount.{WrittenAmount}

-- the answer of reading, and of writing
abbrev pub read : ℕ → ℤ → Amount
read number amount = record { number = number; amount = amount }

abbrev pub written : ℕ → ℕ → WrittenAmount
written number element = record { number = number; element = element }

-- reading an element: up to 2^60 − 1 as itself, above that as element − p; p or more gives 8
unfoldable pub read_amount : ℕ → Amount
read_amount element = choose (ltb element modulus) (read accepted (signed_of element)) (read not_element (pos 0))

-- the number and the element of each case of the way back: out of range gives 19
abbrev pub written_as : Option Prime → WrittenAmount
written_as (Some a) = written accepted a.word
written_as None = written amount_out_of_range 0

-- writing an amount: its element; below −(2^60 − 1) or above 2^60 − 1 gives 19
unfoldable pub write_amount : ℤ → WrittenAmount
write_amount amount = written_as (from_signed amount)
