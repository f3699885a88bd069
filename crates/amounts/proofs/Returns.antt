-- What both calls return.
use mathlib.Core.Path.{◌≡◌, ap, ◌∙◌}
use Prim.Native.Nat.{ℕ, ◌<◌, ◌≤◌}
use native.Mathlib.Nat.{mod-eq_of_lt}
use native.Mathlib.Omega.{arith}
use borrow.Author.Tests.{lt-ltb, le-ltb}
use lib.IntN.{ℤ, pos, negsuc, nat_abs}
use mir.Syntax.{w64}
use mir.Val.{to_z, of_z, SFits}
use mir.Facts.{to_z-of_z}
use Rattle.answer.specs.Numbers.{accepted, not_element}
use Rattle.prime.specs.declared.prime.Prime.{Prime}
use Rattle.std.specs.Prelude.{Option}
use Rattle.prime.specs.Prime.{modulus, prime, prime_reduce}
use Rattle.prime.specs.Signed.{greatest_amount, signed_of, to_signed, from_signed}
use Rattle.prime.proofs.Around.{near_read}
use Rattle.amounts.specs.Calls.{read, read_amount, written_as, write_amount}

-- a number of the range fits 64 bits
fits : (z : ℤ) → nat_abs z ≤ greatest_amount → SFits w64 z
fits (pos n) h = record { sfits = omega arith }
fits (negsuc n) h = record { sfits = omega arith }

-- an element is its own class, and what it is read as fits
pub elements : (x : ℕ) (y : ℤ) → x < modulus → y ≡ to_signed (prime x) → read accepted (to_z w64 (of_z w64 y)) ≡ read_amount x
unfolding read_amount to_signed prime_reduce
elements x y h e =
    let s : y ≡ signed_of x = e ∙ ap signed_of (mod-eq_of_lt h) in
    let f : SFits w64 y = rw s (fits (signed_of x) (near_read x h)) in
    rw (lt-ltb x modulus h) (ap (read accepted) (to_z-of_z f ∙ s))

pub no_elements : (x : ℕ) → modulus ≤ x → read not_element (pos 0) ≡ read_amount x
unfolding read_amount
no_elements x h = rw (le-ltb x modulus h)

-- both cases of the way back, whose argument is read from its bits
pub as_written : {z : ℤ} → SFits w64 z → (r : Option Prime) → r ≡ from_signed (to_z w64 (of_z w64 z)) → written_as r ≡ write_amount z
unfolding write_amount
as_written f r e = ap written_as (e ∙ ap from_signed (to_z-of_z f))
