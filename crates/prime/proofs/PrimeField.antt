-- The laws of field 2.
use mathlib.Core.Path.{◌≡◌, refl, sym, ap, ◌∙◌}
use mathlib.Core.Bool.{true}
use Prim.Native.Nat.{ℕ, ◌+◌, ◌-◌, ◌*◌, ◌%◌, ◌<◌}
use native.Mathlib.Omega.{arith}
use native.Mathlib.Nat.{mod-eq_of_lt, mul_comm, add_comm, mod-add-mod, add-mod-mod, add-mod_right}
use lib.Dec.{ltb}
use borrow.Author.Tests.{lt-ltb, ltb-true}
use Rattle.algebra.specs.Group.{RingLaws}
use Rattle.algebra.specs.Field.{FieldLaws}
use Rattle.algebra.proofs.Sum.{itself_laws}
use Rattle.prime.specs.declared.prime.Prime.{Prime}
use Rattle.prime.specs.Prime.{modulus, prime, prime_reduce, prime_add, prime_sub, prime_mul, prime_ring, primes}
use Rattle.prime.proofs.Modular.{mod_mul_mod, mod_mul_assoc, mod_mul-add, mod_add_assoc}
use Rattle.algebra.proofs.Words.{one-word_laws}

-- what is reduced modulo p is an element
reduced : (x : ℕ) → ltb (x % modulus) modulus ≡ true
reduced x = lt-ltb (x % modulus) modulus (omega arith)

-- an element is its own class
whole : (a : ℕ) → ltb a modulus ≡ true → a % modulus ≡ a
whole a h = mod-eq_of_lt (ltb-true a modulus h)

add_difference : (a b : ℕ) → a < modulus → b < modulus → (b + (a + (modulus - b % modulus)) % modulus) % modulus ≡ a
add_difference a b h k =
    let m : b % modulus ≡ b = mod-eq_of_lt k in
    let e : b + (a + (modulus - b % modulus)) ≡ a + modulus = rw m (omega arith) in
    add-mod-mod b (a + (modulus - b % modulus)) modulus ∙ ap (λ (x : ℕ). x % modulus) e ∙ add-mod_right a modulus ∙ mod-eq_of_lt h

pub prime_ring_laws : RingLaws prime_ring
unfolding prime_add prime_sub prime_mul
prime_ring_laws =
    record {
      group = record {
        zero-element = refl;
        add-element = λ a b. reduced (a.word + b.word);
        sub-element = λ a b. reduced (a.word + (modulus - b.word % modulus));
        add_comm = λ a b. ap (λ (x : ℕ). prime (x % modulus)) (add_comm a.word b.word);
        add_assoc = λ a b c. ap prime (mod_add_assoc a.word b.word c.word modulus);
        zero-add = λ a h. ap prime (ap (λ (x : ℕ). x % modulus) (omega arith) ∙ whole a.word h);
        add-sub = λ a b h k. ap prime (add_difference a.word b.word (ltb-true a.word modulus h) (ltb-true b.word modulus k));
      };
      one-element = refl;
      mul-element = λ a b. reduced (a.word * b.word);
      mul_comm = λ a b. ap (λ (x : ℕ). prime (x % modulus)) (mul_comm a.word b.word);
      mul_assoc = λ a b c. ap prime (mod_mul_assoc a.word b.word c.word modulus);
      one-mul = λ a h. ap prime (ap (λ (x : ℕ). x % modulus) (omega arith) ∙ whole a.word h);
      mul-add = λ a b c. ap prime (mod_mul-add a.word b.word c.word modulus);
    }

-- any word reduced is an element
pub reduce_element : (x : ℕ) → ltb (prime_reduce x).word modulus ≡ true
unfolding prime_reduce
reduce_element x = reduced x

-- a word of a sum or of a product may be reduced first
pub reduced_add : (a : ℕ) (b : Prime) → prime_add (prime a) b ≡ prime_add (prime_reduce a) b
unfolding prime_add prime_reduce
reduced_add a b = ap prime (sym (mod-add-mod a modulus b.word))

pub reduced_mul : (a : ℕ) (b : Prime) → prime_mul (prime a) b ≡ prime_mul (prime_reduce a) b
unfolding prime_mul prime_reduce
reduced_mul a b = ap prime (sym (mod_mul_mod a b.word modulus))

-- field 2 obeys the laws
pub prime_laws : FieldLaws primes
prime_laws =
    record {
      ring = prime_ring_laws;
      scaled = itself_laws prime_ring prime_ring_laws;
      noise_values = one-word_laws (λ a. a.word) prime (λ a. refl) (λ w. refl);
      elements = one-word_laws (λ a. a.word) prime (λ a. refl) (λ w. refl);
    }
