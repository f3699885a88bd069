-- Elements of field 2 as signed numbers (document 02, 13), and the way back.
use Rattle.std.specs.Prelude.{◌||◌, ℕ, suc, ◌-◌, ◌^◌, leb, ℤ, pos, negsuc, neg_ℤ, ◌-ℤ◌, Option, Some, None}
use Rattle.std.specs.Int.Signed.{lt_z}
use Rattle.algebra.specs.Choice.{choose}
use Rattle.prime.specs.declared.prime.Prime.{Prime}
use Rattle.prime.specs.Prime.{modulus, prime, prime_zero, prime_reduce, prime_sub}

-- 2^60 − 1, the greatest amount
abbrev pub greatest_amount : ℕ
greatest_amount = 2 ^ 60 - 1

-- a number below p read as a signed one: up to 2^60 − 1 as itself, above that as element − p
unfoldable pub signed_of : ℕ → ℤ
signed_of element = choose (leb element greatest_amount) (pos element) (pos element -ℤ pos modulus)

-- an element read so; any other word is reduced first
unfoldable pub to_signed : Prime → ℤ
to_signed a = signed_of (prime_reduce a.word).word

-- the negation modulo p
unfoldable pub prime_negate : Prime → Prime
prime_negate a = prime_sub prime_zero a

-- the element that is read as a number of the range: the number itself, or, of −(n + 1), p less n + 1
unfoldable pub signed_element : ℤ → Prime
signed_element (pos n) = prime n
signed_element (negsuc n) = prime (modulus - suc n)

-- the way back: no element for a number below −(2^60 − 1) or above 2^60 − 1
unfoldable pub from_signed : ℤ → Option Prime
from_signed amount =
    choose (lt_z amount (neg_ℤ (pos greatest_amount)) || lt_z (pos greatest_amount) amount) None (Some (signed_element amount))
