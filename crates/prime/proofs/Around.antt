-- Reading and writing around the middle of the field undo each other, and sum and negation agree. A number of the range is one
-- whose distance from zero, `nat_abs`, is at most 2^60 − 1.
use mathlib.Core.Path.{◌≡◌, refl, ap, ◌∙◌}
use mathlib.Core.Bool.{Bool, true, false}
use Prim.Native.Nat.{ℕ, zero, suc, ◌+◌, ◌-◌, ◌%◌, ◌≤◌, ◌<◌}
use native.Mathlib.Nat.{mod-eq_of_lt, add-mod_right, add_comm}
use native.Mathlib.Omega.{arith}
use borrow.Author.Tests.{lt-ltb, le-leb, lt-leb, leb-true, leb-false, ltb-true, ltb-false}
use lib.Dec.{leb, ltb}
use lib.IntN.{ℤ, pos, negsuc, neg_ℤ, nat_abs, ◌+ℤ◌, ◌-ℤ◌, sub_ℕ}
use Rattle.prime.specs.Prime.{modulus, prime, prime_add, prime_sub}
use Rattle.prime.specs.Signed.{greatest_amount, signed_of, prime_negate, signed_element}

-- an element less p
pub less : (x : ℕ) → x < modulus → pos x -ℤ pos modulus ≡ negsuc (modulus - suc x)
less x h = rw (lt-ltb x modulus h)

-- what is written is an element, and reading it returns the number
pub element-below : (z : ℤ) → nat_abs z ≤ greatest_amount → (signed_element z).word < modulus
unfolding signed_element
element-below (pos n) h = omega arith
element-below (negsuc n) h = omega arith

pub read-element : (z : ℤ) → nat_abs z ≤ greatest_amount → signed_of (signed_element z).word ≡ z
unfolding signed_element signed_of
read-element (pos n) h = rw (le-leb n greatest_amount h)
read-element (negsuc n) h =
    let above : greatest_amount < modulus - suc n = omega arith in
    rw (lt-leb (modulus - suc n) greatest_amount above) (less (modulus - suc n) (omega arith) ∙ ap negsuc (omega arith))

-- what is read is in the range, and writing it returns the element
read_by : (x : ℕ) → x < modulus → (t : Bool) → leb x greatest_amount ≡ t → (nat_abs (signed_of x) ≤ greatest_amount) × (signed_element (signed_of x) ≡ prime x)
unfolding signed_element signed_of
read_by x h true e = let k : x ≤ greatest_amount = leb-true x greatest_amount e in rw e (k, refl)
read_by x h false e =
    let k : greatest_amount < x = leb-false x greatest_amount e in
    rw (e, less x h) (omega arith, ap prime (omega arith))

pub near_read : (x : ℕ) → x < modulus → nat_abs (signed_of x) ≤ greatest_amount
near_read x h = (read_by x h (leb x greatest_amount) refl).0

pub element-read : (x : ℕ) → x < modulus → signed_element (signed_of x) ≡ prime x
element-read x h = (read_by x h (leb x greatest_amount) refl).1

-- the sum of two elements is the element of the sum, while that is in the range
mixed_by : (a b : ℕ) → a ≤ greatest_amount → suc b ≤ greatest_amount → (t : Bool) → ltb a (suc b) ≡ t
    → prime ((a + (modulus - suc b)) % modulus) ≡ signed_element (sub_ℕ a (suc b))
unfolding signed_element
mixed_by a b h k true e =
    let l : a < suc b = ltb-true a (suc b) e in
    rw e (ap prime (mod-eq_of_lt (omega arith) ∙ omega arith))
mixed_by a b h k false e =
    let l : suc b ≤ a = ltb-false a (suc b) e in
    let s : a + (modulus - suc b) ≡ (a - suc b) + modulus = omega arith in
    rw (e, s) (ap prime (add-mod_right (a - suc b) modulus ∙ mod-eq_of_lt (omega arith)))

mixed : (a b : ℕ) → a ≤ greatest_amount → suc b ≤ greatest_amount → prime ((a + (modulus - suc b)) % modulus) ≡ signed_element (sub_ℕ a (suc b))
mixed a b h k = mixed_by a b h k (ltb a (suc b)) refl

pub sum-element : (y z : ℤ) → nat_abs y ≤ greatest_amount → nat_abs z ≤ greatest_amount → nat_abs (y +ℤ z) ≤ greatest_amount
    → prime_add (signed_element y) (signed_element z) ≡ signed_element (y +ℤ z)
unfolding prime_add signed_element
sum-element (pos a) (pos b) h k s = ap prime (mod-eq_of_lt (omega arith))
sum-element (pos a) (negsuc b) h k s = mixed a b h k
sum-element (negsuc a) (pos b) h k s = ap (λ (x : ℕ). prime (x % modulus)) (add_comm (modulus - suc a) b) ∙ mixed b a k h
sum-element (negsuc a) (negsuc b) h k s =
    let e : modulus - suc a + (modulus - suc b) ≡ modulus - suc (suc (a + b)) + modulus = omega arith in
    ap prime (ap (λ (x : ℕ). x % modulus) e ∙ add-mod_right (modulus - suc (suc (a + b))) modulus ∙ mod-eq_of_lt (omega arith))

-- the negation of an element is the element of the number's opposite
pub negate_suc : (n : ℕ) → suc n < modulus → prime_negate (prime (suc n)) ≡ prime (modulus - suc n)
unfolding prime_negate prime_sub
negate_suc n h =
    let e : suc n % modulus ≡ suc n = mod-eq_of_lt h in
    ap prime (ap (λ (k : ℕ). (0 + (modulus - k)) % modulus) e ∙ mod-eq_of_lt (omega arith) ∙ omega arith)

pub negate_element : (z : ℤ) → nat_abs z ≤ greatest_amount → prime_negate (signed_element z) ≡ signed_element (neg_ℤ z)
unfolding prime_negate prime_sub signed_element
negate_element (pos zero) h = refl
negate_element (pos (suc n)) h = negate_suc n (omega arith)
negate_element (negsuc n) h =
    let e : (modulus - suc n) % modulus ≡ modulus - suc n = mod-eq_of_lt (omega arith) in
    ap prime (ap (λ (k : ℕ). (0 + (modulus - k)) % modulus) e ∙ mod-eq_of_lt (omega arith) ∙ omega arith)

pub near_opposite : (z : ℤ) → nat_abs z ≤ greatest_amount → nat_abs (neg_ℤ z) ≤ greatest_amount
near_opposite (pos zero) h = h
near_opposite (pos (suc n)) h = h
near_opposite (negsuc n) h = h
