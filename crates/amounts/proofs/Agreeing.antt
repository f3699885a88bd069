-- Reading and writing agree with each other and with the field.
use mathlib.Core.Path.{◌≡◌, refl, ap, ◌∙◌}
use mathlib.Core.Bool.{Bool, true, false, ◌||◌}
use Prim.Native.Nat.{ℕ, ◌≤◌, ◌<◌}
use native.Mathlib.Omega.{arith}
use borrow.Author.Tests.{lt-ltb, ltb-true, ltb-false, le-ltb}
use lib.Dec.{ltb, leb→le, le→leb}
use lib.IntN.{ℤ, pos, negsuc, neg_ℤ, nat_abs, ◌+ℤ◌}
use lib.Signed.{lt_z}
use Rattle.algebra.specs.Choice.{choose}
use Rattle.algebra.proofs.Tests.{or_none}
use Rattle.answer.specs.Numbers.{accepted, not_element}
use Rattle.prime.specs.declared.prime.Prime.{Prime}
use Rattle.std.specs.Prelude.{Option, Some, None}
use Rattle.prime.specs.Prime.{modulus}
use Rattle.prime.specs.Signed.{greatest_amount, signed_of, signed_element, from_signed}
use Rattle.prime.proofs.Around.{element-below, read-element, near_read, element-read, sum-element, negate_element, near_opposite}
use Rattle.amounts.specs.declared.Amount.{Amount}
use Rattle.amounts.specs.declared.WrittenAmount.{WrittenAmount}
use Rattle.amounts.specs.Calls.{read, written, read_amount, written_as, write_amount}
use Rattle.amounts.specs.Agree.{InRange, Agree}

-- the range is the distance of 2^60 − 1 from zero
near : (z : ℤ) → InRange z → nat_abs z ≤ greatest_amount
near (pos n) r = leb→le n greatest_amount r.to_greatest.le
near (negsuc n) r = let h : n ≤ 1152921504606846974 = leb→le n 1152921504606846974 r.from_least.le in omega arith

ranges : (z : ℤ) → nat_abs z ≤ greatest_amount → InRange z
ranges (pos n) h = record { from_least = record { le = tt }; to_greatest = record { le = le→leb n greatest_amount h } }
ranges (negsuc n) h =
    record { from_least = record { le = le→leb n 1152921504606846974 (omega arith) }; to_greatest = record { le = tt } }

-- a number of the range passes both tests of the way back, and no other does
written_near : (z : ℤ) → nat_abs z ≤ greatest_amount → write_amount z ≡ written accepted (signed_element z).word
unfolding write_amount from_signed
written_near (pos n) h = rw (le-ltb greatest_amount n h)
written_near (negsuc n) h = let k : n ≤ 1152921504606846974 = omega arith in rw (le-ltb 1152921504606846974 n k)

far_by : (t : Bool) (a : Option Prime) → (written_as (choose t None a)).number ≡ accepted → t ≡ false
far_by true a e = absurd (omega arith)
far_by false a e = refl

far : (z : ℤ) → (write_amount z).number ≡ accepted → nat_abs z ≤ greatest_amount
unfolding write_amount from_signed
far (pos n) e =
    let t = far_by (lt_z (pos n) (neg_ℤ (pos greatest_amount)) || lt_z (pos greatest_amount) (pos n)) (Some (signed_element (pos n))) e in
    ltb-false greatest_amount n t
far (negsuc n) e =
    let t = far_by (lt_z (negsuc n) (neg_ℤ (pos greatest_amount)) || lt_z (pos greatest_amount) (negsuc n)) (Some (signed_element (negsuc n))) e in
    let h : n ≤ 1152921504606846974 = ltb-false 1152921504606846974 n (or_none _ _ t).0 in
    omega arith

-- an element is read, and nothing else
read_below : (x : ℕ) → x < modulus → read_amount x ≡ read accepted (signed_of x)
unfolding read_amount
read_below x h = rw (lt-ltb x modulus h)

below_by : (t : Bool) (a : Amount) → (choose t a (read not_element (pos 0))).number ≡ accepted → t ≡ true
below_by true a e = refl
below_by false a e = absurd (omega arith)

below : (x : ℕ) → (read_amount x).number ≡ accepted → x < modulus
unfolding read_amount
below x e = ltb-true x modulus (below_by (ltb x modulus) (read accepted (signed_of x)) e)

-- the element of a number of the range is read as that number
read_near : (z : ℤ) → nat_abs z ≤ greatest_amount → read_amount (signed_element z).word ≡ read accepted z
read_near z h = read_below (signed_element z).word (element-below z h) ∙ ap (read accepted) (read-element z h)

pub agree : Agree
agree =
    record {
      reads = λ x. ((λ h. ap (λ (a : Amount). a.number) (read_below x h)), below x);
      writes = λ z. ((λ r. ap (λ (a : WrittenAmount). a.number) (written_near z (near z r))), (λ e. ranges z (far z e)));
      read-written = λ z r. rw (written_near z (near z r)) (read_near z (near z r));
      written_read = λ x h.
          rw (read_below x h) (written_near (signed_of x) (near_read x h) ∙ ap (λ (a : Prime). written accepted a.word) (element-read x h));
      sums = λ y z r s t.
          rw (written_near y (near y r), written_near z (near z s), sum-element y z (near y r) (near z s) (near (y +ℤ z) t))
          (read_near (y +ℤ z) (near (y +ℤ z) t));
      negation = λ x h.
          rw (read_below x h, ← element-read x h, negate_element (signed_of x) (near_read x h))
          (read_near (neg_ℤ (signed_of x)) (near_opposite (signed_of x) (near_read x h)));
    }
