-- A row's sums so far, from one term to the next.
use mathlib.Core.List.{List}
use mathlib.Core.Logic.{⊎_elim}
use mathlib.Core.Path.{◌≡◌, sym, ap, ap₂, ◌∙◌}
use Prim.Native.Nat.{ℕ, ◌+◌, ◌*◌, ◌≤◌, ◌<◌}
use native.Mathlib.Nat.{le_antisymm, eq-or-lt_of_le, mul-one}
use native.Mathlib.Numerals.{add-one}
use native.Mathlib.Omega.{arith}
use lib.ListN.{get_or}
use borrow.Author.Tests.{lt-ltb, le-ltb}
use Rattle.algebra.specs.Coding.{at}
use Rattle.algebra.specs.Group.{Ring, Scaled, itself}
use Rattle.algebra.specs.Row.{Row, output}
use Rattle.algebra.proofs.Sum.{sum-none, sum-suc}
use Rattle.field.specs.declared.block.Block.{Block}
use Rattle.prime.specs.declared.prime.Prime.{Prime}
use Rattle.field.specs.Binary.{binary, bit_ring, blocks, block_zero, block_add, block_scale, bit_add, bit_mul}
use Rattle.field.specs.Bytes.{high_of}
use Rattle.prime.specs.Prime.{primes, prime_ring, prime, prime_reduce, prime_add, prime_mul}
use Rattle.prime.proofs.PrimeField.{reduced_add, reduced_mul}
use Rattle.code.specs.Row.{row_of_blocks}
use Rattle.code.specs.declared.Shape.{Shape}
use Rattle.code.specs.Inner.Rows.{term_block_by, place_in, binary_row, prime_row}
use Rattle.rows.specs.Inner.Sums.{terms_to, terms_sum, bits_sum, blocks_sum, primes_sum}

-- ---- a turn of two terms

module _ (s : Shape) where
  pub to_none : 1 ≤ s.terms → terms_to s 0 ≡ 0
  unfolding terms_to
  to_none h = rw (lt-ltb 0 s.terms h)

  module _ (i : ℕ) where
    pub to_below : i < s.terms → terms_to s i ≡ i
    unfolding terms_to
    to_below h = rw (lt-ltb i s.terms h)

    pub to_past : s.terms ≤ i → terms_to s i ≡ s.terms
    unfolding terms_to
    to_past h = rw (le-ltb i s.terms h)

  -- after a turn of two, and after one of the last term
  pub to_two : (i : ℕ) → i + 1 < s.terms → terms_to s (i + 2) ≡ i + 1 + 1
  to_two i h =
      ⊎_elim
      (λ (e : i + 2 ≡ s.terms). to_past (i + 2) (omega arith) ∙ omega arith)
      (λ (k : i + 2 < s.terms). to_below (i + 2) k ∙ omega arith)
      (eq-or-lt_of_le (omega arith))

  pub to_last : (i : ℕ) → i < s.terms → s.terms ≤ i + 1 → terms_to s (i + 2) ≡ i + 1
  to_last i h k = to_past (i + 2) (omega arith) ∙ omega arith

-- ---- sums so far

module _ {R : Ring} (S : Scaled R) (row : Row R) (f : ℕ → S.group.Of) where
  terms-none : S.group.zero ≡ terms_sum S row f 0
  unfolding terms_sum
  terms-none = sym (sum-none S.group (λ i. S.scale (row.coefficient i) (f (row.place i))))

  terms_more : (i : ℕ) {a b next : S.group.Of} → a ≡ terms_sum S row f i → b ≡ S.scale (row.coefficient i) (f (row.place i))
      → next ≡ S.group.add a b → next ≡ terms_sum S row f (i + 1)
  unfolding terms_sum
  terms_more i e p q =
      q ∙ ap₂ S.group.add e p ∙ sym (sum-suc S.group i (λ k. S.scale (row.coefficient k) (f (row.place k))))
      ∙ ap (terms_sum S row f) (sym (add-one i))

  terms_done : (i : ℕ) {a : S.group.Of} → a ≡ terms_sum S row f i → i ≤ row.terms → row.terms ≤ i → a ≡ output S row f
  unfolding terms_sum output
  terms_done i e h k = e ∙ ap (terms_sum S row f) (le_antisymm {n = i} {m = row.terms} h k)

-- the word at a place that a term names
word-at : (l : List ℕ) {j k : ℕ} → j ≡ k → get_or l j 0 ≡ get_or l (k * 1) 0
word-at l {j} {k} e = ap (λ (n : ℕ). get_or l n 0) (e ∙ sym (mul-one k))

module _ (keys : List (List (List ℕ))) (s : Shape) (x : ℕ) (words : List ℕ) where
  pub bits_none : 0 ≡ bits_sum keys s x words 0
  unfolding bits_sum
  bits_none = terms-none (itself bit_ring) (binary_row keys s x) (at binary.noise_values words)

  pub blocks-none : {a : Block} → a ≡ block_zero → a ≡ blocks_sum keys s x words 0
  unfolding blocks_sum
  blocks-none e = e ∙ terms-none blocks (binary_row keys s x) (at binary.elements words)

  pub primes-none : prime_reduce 0 ≡ primes_sum keys s x words 0
  unfolding primes_sum prime_reduce
  primes-none = terms-none (itself prime_ring) (prime_row keys s x) (at primes.elements words)

  module _ (i : ℕ) where
    pub bits_done : {a : ℕ} → a ≡ bits_sum keys s x words i → i ≤ s.terms → s.terms ≤ i → a ≡ output (itself bit_ring) (binary_row keys s x) (at binary.noise_values words)
    unfolding row_of_blocks bits_sum
    bits_done = terms_done (itself bit_ring) (binary_row keys s x) (at binary.noise_values words) i

    pub blocks_done : {a : Block} → a ≡ blocks_sum keys s x words i → i ≤ s.terms → s.terms ≤ i → a ≡ output blocks (binary_row keys s x) (at binary.elements words)
    unfolding row_of_blocks blocks_sum
    blocks_done = terms_done blocks (binary_row keys s x) (at binary.elements words) i

    pub primes_done : (a : ℕ) {r : Prime} → prime_reduce a ≡ primes_sum keys s x words i → i ≤ s.terms → s.terms ≤ i → r ≡ prime_reduce a
        → r ≡ output (itself prime_ring) (prime_row keys s x) (at primes.elements words)
    unfolding row_of_blocks primes_sum
    primes_done a e h k p = p ∙ terms_done (itself prime_ring) (prime_row keys s x) (at primes.elements words) i e h k

    module _ {j : ℕ} (named : j ≡ place_in keys s x i) where
      pub bits_more : {u next : ℕ} → u ≡ bits_sum keys s x words i → next ≡ bit_add u (get_or words j 0) → next ≡ bits_sum keys s x words (i + 1)
      unfolding row_of_blocks bits_sum
      bits_more {u} {next} e q =
          let one : bit_mul 1 (get_or words j 0) ≡ bit_mul 1 (at binary.noise_values words (place_in keys s x i)) =
          ap (bit_mul 1) (word-at words named) in
          terms_more (itself bit_ring) (binary_row keys s x) (at binary.noise_values words) i e one (omega arith)

      pub blocks_more : {a e next : Block} → a ≡ blocks_sum keys s x words i → e ≡ at binary.elements words j → next ≡ block_add a e → next ≡ blocks_sum keys s x words (i + 1)
      unfolding row_of_blocks block_scale blocks_sum
      blocks_more e p q =
          terms_more blocks (binary_row keys s x) (at binary.elements words) i e
          (p ∙ ap (at binary.elements words) named) q

      pub primes_more : (a next word : ℕ) → prime_reduce a ≡ primes_sum keys s x words i → word ≡ high_of (term_block_by keys x i)
          → prime_reduce next ≡ prime_add (prime a) (prime_mul (prime word) (prime (get_or words j 0)))
          → prime_reduce next ≡ primes_sum keys s x words (i + 1)
      unfolding row_of_blocks primes_sum
      primes_more a next word e p q =
          terms_more (itself prime_ring) (prime_row keys s x) (at primes.elements words) i e
          (reduced_mul word (prime (get_or words j 0)) ∙ ap₂ prime_mul (ap prime_reduce p) (ap prime (word-at words named)))
          (q ∙ reduced_add a (prime_mul (prime word) (prime (get_or words j 0))))
