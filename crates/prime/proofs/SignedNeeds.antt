-- What `to_signed` and `from_signed` ask and return. A signed local holds bits, so the machine's number is
-- `to_z w64 (of_z w64 z)`, which is z since z fits.
use mathlib.Core.Path.{◌≡◌, refl, sym, ap, ◌∙◌}
use mathlib.Core.Bool.{Bool, true, false, ◌||◌, true≢false}
use Prim.Native.Nat.{ℕ, ◌≤◌, ◌<◌}
use native.Mathlib.Omega.{arith}
use borrow.Author.Tests.{ltb-true, ltb-false}
use lib.Dec.{leb}
use lib.IntN.{ℤ, pos, negsuc, nat_abs, ◌-ℤ◌}
use lib.Signed.{lt_z, le_z}
use mir.Syntax.{w64}
use mir.Val.{SFits, to_z, of_z}
use mir.Facts.{to_z-of_z, to_z_pos}
use Rattle.prime.specs.declared.prime.Prime.{Prime}
use Rattle.std.proofs.Common.{Some, None}
use Rattle.prime.specs.Prime.{modulus, prime, prime_reduce}
use Rattle.prime.specs.Signed.{greatest_amount, signed_of, to_signed, prime_negate, signed_element, from_signed}
use Rattle.prime.proofs.Around.{less, negate_suc}

or_right : (a : Bool) {b : Bool} → b ≡ true → (a || b) ≡ true
or_right true e = refl
or_right false e = e

-- −(2^60 − 1)
abbrev least : ℤ
least = negsuc 1152921504606846974

-- what `from_signed` refuses, z being what it is given
module _ {z : ℤ} (fits : SFits w64 z) where
  pub too_low : lt_z (to_z w64 (of_z w64 z)) least ≡ true → None ≡ from_signed z
  unfolding from_signed
  too_low t = let e : lt_z z least ≡ true = rw (to_z-of_z fits) at t in rw e

  pub too_high : lt_z (pos greatest_amount) (to_z w64 (of_z w64 z)) ≡ true → None ≡ from_signed z
  unfolding from_signed
  too_high t =
      let e : lt_z (pos greatest_amount) z ≡ true = rw (to_z-of_z fits) at t in
      let o : (lt_z z least || lt_z (pos greatest_amount) z) ≡ true = or_right (lt_z z least) e in
      rw o

-- a number of the range is at most 2^60 − 1 from zero
near : (z : ℤ) → lt_z z least ≡ false → lt_z (pos greatest_amount) z ≡ false → nat_abs z ≤ greatest_amount
near (pos n) low high = ltb-false greatest_amount n high
near (negsuc n) low high = let h : n ≤ 1152921504606846974 = ltb-false 1152921504606846974 n low in omega arith

-- a number of the range has its element
ranged : (z : ℤ) → lt_z z least ≡ false → lt_z (pos greatest_amount) z ≡ false → Some (signed_element z) ≡ from_signed z
unfolding from_signed
ranged z low high = rw (low, high)

-- the element of a number below zero is the negation of its opposite
opposite_element : (z : ℤ) → lt_z z (pos 0) ≡ true → nat_abs z ≤ greatest_amount → prime_negate (prime (nat_abs z)) ≡ signed_element z
unfolding signed_element
opposite_element (pos n) t h = let k : n < 0 = ltb-true n 0 t in absurd (omega arith)
opposite_element (negsuc n) t h = negate_suc n (omega arith)

itself-element : (z : ℤ) → lt_z z (pos 0) ≡ false → prime (nat_abs z) ≡ signed_element z
unfolding signed_element
itself-element (pos n) t = refl
itself-element (negsuc n) t = absurd (true≢false t)

-- what `from_signed` returns of a number of the range, m being its distance from zero
module _ {z : ℤ} (fits : SFits w64 z)
    (low : lt_z (to_z w64 (of_z w64 z)) least ≡ false) (high : lt_z (pos greatest_amount) (to_z w64 (of_z w64 z)) ≡ false)
    {m : ℕ} (size : m ≡ nat_abs (to_z w64 (of_z w64 z))) where
  its_size : m ≡ nat_abs z
  its_size = rw (to_z-of_z fits) at size

  in_range : nat_abs z ≤ greatest_amount
  in_range = near z (rw (to_z-of_z fits) at low) (rw (to_z-of_z fits) at high)

  its_element : Some (signed_element z) ≡ from_signed z
  its_element = ranged z (rw (to_z-of_z fits) at low) (rw (to_z-of_z fits) at high)

  pub opposite_written : lt_z (to_z w64 (of_z w64 z)) (pos 0) ≡ true → {r : Prime} → r ≡ prime_negate (prime m) → Some r ≡ from_signed z
  opposite_written below e =
      let o = opposite_element z (rw (to_z-of_z fits) at below) in_range in
      ap Some (e ∙ rw its_size o) ∙ its_element

  pub itself-written : lt_z (to_z w64 (of_z w64 z)) (pos 0) ≡ false → Some (prime m) ≡ from_signed z
  itself-written above =
      let i = itself-element z (rw (to_z-of_z fits) at above) in
      rw its_size (ap Some i ∙ its_element)

-- what `to_signed` asks and returns, r being the word reduced
module _ (a r : Prime) (reduced : r ≡ prime_reduce a.word) where
  word_below_lem : r.word < modulus
  unfolding prime_reduce
  word_below_lem = rw reduced (omega arith)

  pub word_fits : SFits w64 (pos r.word)
  word_fits = record { sfits = omega (arith, word_below_lem) }

  read_word : to_z w64 r.word ≡ pos r.word
  read_word = to_z_pos w64 word_fits.sfits

  pub less-fits : SFits w64 (to_z w64 r.word -ℤ pos modulus)
  less-fits = rw (read_word, less r.word word_below_lem) (record { sfits = omega arith })

  pub read_low : le_z (to_z w64 r.word) (pos greatest_amount) ≡ true → to_z w64 r.word ≡ to_signed a
  unfolding to_signed signed_of
  read_low t =
      let e : leb r.word greatest_amount ≡ true = rw read_word at t in
      read_word ∙ sym (rw (← reduced, e))

  pub read-high : le_z (to_z w64 r.word) (pos greatest_amount) ≡ false
      → to_z w64 (of_z w64 (to_z w64 r.word -ℤ pos modulus)) ≡ to_signed a
  unfolding to_signed signed_of
  read-high t =
      let e : leb r.word greatest_amount ≡ false = rw read_word at t in
      to_z-of_z less-fits ∙ rw (read_word, ← reduced, e)
