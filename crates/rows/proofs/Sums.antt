-- A row's sums after its first n terms: none, one term more, and all, as they are walked.
use mathlib.Core.Bool.{Bool, true, false, ◌&&◌}
use mathlib.Core.List.{List}
use mathlib.Core.Path.{◌≡◌, refl, ap₂, ◌∙◌}
use Prim.Native.Nat.{ℕ, zero, suc, ◌+◌}
use native.Mathlib.Numerals.{add-one}
use native.Mathlib.Omega.{arith}
use Rattle.algebra.specs.Coding.{at}
use Rattle.algebra.specs.Group.{itself}
use Rattle.algebra.specs.Row.{output}
use Rattle.aes128.specs.Inner.Blocks.{cipher_of}
use Rattle.aes128.specs.Inner.Words.{round_keys}
use Rattle.field.specs.declared.block.Block.{Block}
use Rattle.prime.specs.declared.prime.Prime.{Prime}
use Rattle.field.specs.Binary.{binary, bit_ring, block, blocks, block_zero}
use Rattle.prime.specs.Prime.{primes, prime_ring, modulus, prime_reduce}
use Rattle.code.specs.declared.Shape.{Shape}
use Rattle.rows.specs.declared.row.Pair.{Pair}
use Rattle.rows.specs.declared.row.Single.{Single}
use Rattle.code.specs.Inner.Rows.{place_by, binary_row, prime_row}
use Rattle.rows.specs.Inner.Walked.{Walked}
use Rattle.rows.specs.Inner.Sums.{BinaryAdded, BlockAdded, PrimesAdded, PrimeAdded, blocks_sum, BinarySums, PrimesTotal, PrimeTotal}
use Rattle.code.specs.Inner.Used.{word_below, terms_below, row_below}
use Rattle.code.proofs.Terms.{place-word, place-block, word_is}
use Rattle.rows.proofs.Turns.{bits_none, bits_more, bits_done, blocks-none, blocks_more, blocks_done, primes-none, primes_more, primes_done}
use Rattle.code.proofs.Tested.{below_none, below_more, below_done}

-- ---- field 1 at the noise end

module _ (keys : List ℕ) (s : Shape) (x : ℕ) (noise values : List ℕ) {none : Block} (zero-block : none ≡ block_zero) where
  binary-none : BinarySums (round_keys keys) s x noise values 0 (record { u = 0; v = none; admitted = true })
  binary-none =
      record {
        u = bits_none (round_keys keys) s x noise;
        v = blocks-none (round_keys keys) s x values zero-block;
        admitted = below_none 2 noise (round_keys keys) s x;
      }

  binary_more : (i : ℕ) {r next : Pair ℕ Block} → BinaryAdded noise values (place_by s i (cipher_of keys (block x i)).low) r next
      → BinarySums (round_keys keys) s x noise values i r → BinarySums (round_keys keys) s x noise values (i + 1) next
  binary_more i added sums =
      record {
        u = bits_more (round_keys keys) s x noise i (place-word keys s x i refl) sums.u added.u;
        v = blocks_more (round_keys keys) s x values i (place-word keys s x i refl) sums.v refl added.v;
        admitted = below_more 2 noise (round_keys keys) s x i (place-word keys s x i refl) sums.admitted added.admitted;
      }

  binary-sums : (n : ℕ) (r : Pair ℕ Block) → Walked (λ j word. BinaryAdded noise values j) keys s x (record { u = 0; v = none; admitted = true }) n r
      → BinarySums (round_keys keys) s x noise values n r
  unfolding Walked
  binary-sums zero r e = rw e binary-none
  binary-sums (suc n) r (m, before, added) = rw (← add-one) (binary_more n added (binary-sums n m before))

  module _ (r : Pair ℕ Block) (walked : Walked (λ j word. BinaryAdded noise values j) keys s x (record { u = 0; v = none; admitted = true }) s.terms r) where
    binary-all : BinarySums (round_keys keys) s x noise values s.terms r
    binary-all = binary-sums s.terms r walked

    pub binary_u : r.u ≡ output (itself bit_ring) (binary_row (round_keys keys) s x) (at binary.noise_values noise)
    binary_u = bits_done (round_keys keys) s x noise s.terms binary-all.u (omega arith) (omega arith)

    pub binary_v : r.v ≡ output blocks (binary_row (round_keys keys) s x) (at binary.elements values)
    binary_v = blocks_done (round_keys keys) s x values s.terms binary-all.v (omega arith) (omega arith)

    pub binary-admitted : r.admitted ≡ row_below 2 noise (round_keys keys) s x
    binary-admitted = below_done 2 noise (round_keys keys) s x s.terms binary-all.admitted (omega arith) (omega arith)

-- ---- field 1 at the scalar end

module _ (keys : List ℕ) (s : Shape) (x : ℕ) (words : List ℕ) {none : Block} (zero-block : none ≡ block_zero) where
  block-sums : (n : ℕ) (r : Block) → Walked (BlockAdded words) keys s x none n r → r ≡ blocks_sum (round_keys keys) s x words n
  unfolding Walked
  block-sums zero r e = e ∙ blocks-none (round_keys keys) s x words zero-block
  block-sums (suc n) r (m, before, added) =
      rw (← add-one) (blocks_more (round_keys keys) s x words n (place-word keys s x n refl) (block-sums n m before) refl added)

  pub block_w : (r : Block) → Walked (BlockAdded words) keys s x none s.terms r → r ≡ output blocks (binary_row (round_keys keys) s x) (at binary.elements words)
  block_w r walked = blocks_done (round_keys keys) s x words s.terms (block-sums s.terms r walked) (omega arith) (omega arith)

-- ---- field 2 at the scalar end

module _ (keys : List ℕ) (s : Shape) (x : ℕ) (words : List ℕ) where
  prime-none : PrimeTotal (round_keys keys) s x words 0 (record { w = 0; admitted = true })
  prime-none = record { w = primes-none (round_keys keys) s x words; admitted = below_none modulus words (round_keys keys) s x }

  prime_more : (i : ℕ) {r next : Single ℕ}
      → PrimeAdded words (place_by s i (cipher_of keys (block x i)).low) (cipher_of keys (block x i)).high r next
      → PrimeTotal (round_keys keys) s x words i r → PrimeTotal (round_keys keys) s x words (i + 1) next
  prime_more i {r} {next} added sum =
      record {
        w = primes_more (round_keys keys) s x words i (place-block keys s x i refl) r.w next.w (cipher_of keys (block x i)).high sum.w
            (word_is keys s x i refl) added.w;
        admitted = below_more modulus words (round_keys keys) s x i (place-block keys s x i refl) sum.admitted added.admitted;
      }

  prime-sums : (n : ℕ) (r : Single ℕ) → Walked (PrimeAdded words) keys s x (record { w = 0; admitted = true }) n r
      → PrimeTotal (round_keys keys) s x words n r
  unfolding Walked
  prime-sums zero r e = rw e prime-none
  prime-sums (suc n) r (m, before, added) = rw (← add-one) (prime_more n added (prime-sums n m before))

  module _ (r : Single ℕ) (walked : Walked (PrimeAdded words) keys s x (record { w = 0; admitted = true }) s.terms r) where
    prime-all : PrimeTotal (round_keys keys) s x words s.terms r
    prime-all = prime-sums s.terms r walked

    pub prime_w : {w : Prime} → w ≡ prime_reduce r.w → w ≡ output (itself prime_ring) (prime_row (round_keys keys) s x) (at primes.elements words)
    prime_w e = primes_done (round_keys keys) s x words s.terms r.w prime-all.w (omega arith) (omega arith) e

    pub prime-admitted : r.admitted ≡ row_below modulus words (round_keys keys) s x
    prime-admitted = below_done modulus words (round_keys keys) s x s.terms prime-all.admitted (omega arith) (omega arith)

-- ---- field 2 at the noise end

-- the tests of two vectors, with one word more of each
and-two : (a b c d : Bool) → (((a && b) && c) && d) ≡ ((a && c) && (b && d))
and-two true true c d = refl
and-two true false true d = refl
and-two true false false d = refl
and-two false b c d = refl

module _ (keys : List ℕ) (s : Shape) (x : ℕ) (noise values : List ℕ) where
  primes-start : PrimesTotal (round_keys keys) s x noise values 0 (record { u = 0; v = 0; admitted = true })
  primes-start =
      record {
        u = primes-none (round_keys keys) s x noise;
        v = primes-none (round_keys keys) s x values;
        admitted = rw (← below_none modulus noise (round_keys keys) s x, ← below_none modulus values (round_keys keys) s x);
      }

  primes_turn : (i : ℕ) {r next : Pair ℕ ℕ}
      → PrimesAdded noise values (place_by s i (cipher_of keys (block x i)).low) (cipher_of keys (block x i)).high r next
      → PrimesTotal (round_keys keys) s x noise values i r → PrimesTotal (round_keys keys) s x noise values (i + 1) next
  primes_turn i {r} {next} added sums =
      record {
        u = primes_more (round_keys keys) s x noise i (place-block keys s x i refl) r.u next.u (cipher_of keys (block x i)).high sums.u
            (word_is keys s x i refl) added.u;
        v = primes_more (round_keys keys) s x values i (place-block keys s x i refl) r.v next.v (cipher_of keys (block x i)).high sums.v
            (word_is keys s x i refl) added.v;
        admitted =
            added.admitted ∙ rw sums.admitted
            (and-two (terms_below modulus noise (round_keys keys) s x i) (terms_below modulus values (round_keys keys) s x i)
            (word_below modulus noise (place_by s i (cipher_of keys (block x i)).low)) (word_below modulus values (place_by s i (cipher_of keys (block x i)).low)))
            ∙ ap₂ ◌&&◌
            (below_more modulus noise (round_keys keys) s x i (place-block keys s x i refl) refl refl)
            (below_more modulus values (round_keys keys) s x i (place-block keys s x i refl) refl refl);
      }

  primes-sums : (n : ℕ) (r : Pair ℕ ℕ) → Walked (PrimesAdded noise values) keys s x (record { u = 0; v = 0; admitted = true }) n r
      → PrimesTotal (round_keys keys) s x noise values n r
  unfolding Walked
  primes-sums zero r e = rw e primes-start
  primes-sums (suc n) r (m, before, added) = rw (← add-one) (primes_turn n added (primes-sums n m before))

  module _ (r : Pair ℕ ℕ) (walked : Walked (PrimesAdded noise values) keys s x (record { u = 0; v = 0; admitted = true }) s.terms r) where
    primes-all : PrimesTotal (round_keys keys) s x noise values s.terms r
    primes-all = primes-sums s.terms r walked

    pub primes_u : {w : Prime} → w ≡ prime_reduce r.u → w ≡ output (itself prime_ring) (prime_row (round_keys keys) s x) (at primes.elements noise)
    primes_u e = primes_done (round_keys keys) s x noise s.terms r.u primes-all.u (omega arith) (omega arith) e

    pub primes_v : {w : Prime} → w ≡ prime_reduce r.v → w ≡ output (itself prime_ring) (prime_row (round_keys keys) s x) (at primes.elements values)
    primes_v e = primes_done (round_keys keys) s x values s.terms r.v primes-all.v (omega arith) (omega arith) e

    pub primes-admitted : r.admitted ≡ (row_below modulus noise (round_keys keys) s x && row_below modulus values (round_keys keys) s x)
    primes-admitted =
        primes-all.admitted ∙ ap₂ ◌&&◌
        (below_done modulus noise (round_keys keys) s x s.terms refl (omega arith) (omega arith))
        (below_done modulus values (round_keys keys) s x s.terms refl (omega arith) (omega arith))
