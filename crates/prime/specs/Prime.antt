-- Field 2, prime (document 01, 'Two fields'): noise and elements are words below p = 2^61 − 1, arithmetic is modulo p.
use Rattle.std.specs.Prelude.{ℕ, ◌+◌, ◌-◌, ◌*◌, ◌%◌, ◌^◌, ltb}
use Rattle.algebra.specs.Group.{Ring, itself}
use Rattle.algebra.specs.Field.{Field}
use Rattle.prime.specs.declared.prime.Prime.{Prime}
use Rattle.algebra.specs.Words.{one_word}

-- p = 2^61 − 1
abbrev pub modulus : ℕ
modulus = 2 ^ 61 - 1

-- a word as a value of field 2; it is an element if it is below p
abbrev pub prime : ℕ → Prime
prime word = record { word = word }

-- zero and one of field 2
abbrev pub prime_zero : Prime
prime_zero = prime 0

abbrev pub prime_one : Prime
prime_one = prime 1

-- any word reduced modulo p
unfoldable pub prime_reduce : ℕ → Prime
prime_reduce word = prime (word % modulus)

-- sum, difference and product modulo p
unfoldable pub prime_add : Prime → Prime → Prime
prime_add a b = prime ((a.word + b.word) % modulus)

unfoldable pub prime_sub : Prime → Prime → Prime
prime_sub a b = prime ((a.word + (modulus - b.word % modulus)) % modulus)

unfoldable pub prime_mul : Prime → Prime → Prime
prime_mul a b = prime ((a.word * b.word) % modulus)

-- the ring of words modulo p: the elements are the words below p
abbrev pub prime_ring : Ring
prime_ring =
    record {
      group = record {
        Of = Prime;
        is_element = λ a. ltb a.word modulus;
        zero = prime_zero;
        add = prime_add;
        sub = prime_sub;
      };
      one = prime_one;
      mul = prime_mul;
    }

-- field 2: noise values and elements are of one type
abbrev pub primes : Field
primes =
    record {
      ring = prime_ring;
      scaled = itself prime_ring;
      noise_values = one_word (λ a. a.word) prime;
      elements = one_word (λ a. a.word) prime;
    }
