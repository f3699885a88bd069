-- Noise values and elements of either field by the field's number: laws shaped like what the functions of `noise` and `element` are
-- asked, and what their callers know in either field. Assumes nothing.
use mathlib.Core.Path.{◌≡◌, refl, sym, ap, subst, ◌∙◌}
use mathlib.Core.Bool.{Bool, true, false, true≢false}
use mathlib.Core.List.{List, [], ◌∷◌}
use Prim.Native.Nat.{ℕ, ◌+◌}
use lib.Dec.{eqb, ltb}
use lib.ListN.{get_or}
use borrow.Author.Tests.{eq-eqb, ne_eqb, eqb-true}
use Rattle.algebra.specs.Choice.{choose}
use Rattle.algebra.specs.Coding.{at}
use Rattle.field.specs.declared.block.Block.{Block}
use Rattle.field.specs.declared.element.Element.{Element}
use Rattle.prime.specs.declared.prime.Prime.{Prime}
use Rattle.field.specs.Binary.{bit_add, block, block_leaf, block_scale, binary, block_add, block_sub}
use Rattle.field.specs.Bytes.{word_at, low_of}
use Rattle.field.specs.ByNumber.{is_noise, element_of, is_element}
use Rattle.field.specs.Kind.{kind_of}
use Rattle.prime.specs.Prime.{modulus, prime, prime_add, prime_sub, prime_mul, prime_reduce, primes}
use Rattle.field.specs.Inner.Elements.{noise_in, element_in, noise_sum, element_at, Compared}
use Rattle.field.specs.Inner.Written.{with_word, with_words}
use Rattle.field.proofs.KindOf.{by_field, kind_by}

-- ---- fields and noise values

pub noise-one : (f y : ℕ) → f ≡ 1 → eqb y 1 ≡ is_noise f y
noise-one f y e = rw e

-- ---- in field 1

module _ (field : ℕ) (e : field ≡ 1) where
  pub leaf_1 : (leaf : List (List ℕ)) {b : Block} → b ≡ block_leaf leaf
      → element_in field (record { low = b.low; high = b.high }) ≡ (kind_of field).leaf leaf
  unfolding element_in
  leaf_1 leaf q = rw e q

  pub at_1 : (s : List ℕ) (place : ℕ) {low high : ℕ} → low ≡ word_at s place → high ≡ word_at s (place + 8)
      → record { low = low; high = high } ≡ element_at field s place
  unfolding element_at
  at_1 s place p q = rw (e, p, q)

  pub of_1 : (l : List ℕ) (i : ℕ) {b : Block} → b ≡ at binary.elements l i
      → element_in field (record { low = b.low; high = b.high }) ≡ at (kind_of field).field.elements l i
  unfolding element_in
  of_1 l i q = rw e q

  pub sum_1 : (a b : Element) {r : Block} → r ≡ block_add (block a.low a.high) (block b.low b.high)
      → element_in field (record { low = r.low; high = r.high }) ≡ (kind_of field).field.scaled.group.add (element_in field a) (element_in field b)
  unfolding element_in
  sum_1 a b q = rw e q

  pub difference_1 : (a b : Element) {r : Block} → r ≡ block_sub (block a.low a.high) (block b.low b.high)
      → element_in field (record { low = r.low; high = r.high }) ≡ (kind_of field).field.scaled.group.sub (element_in field a) (element_in field b)
  unfolding element_in
  difference_1 a b q = rw e q

  pub scaled_1 : (value : ℕ) (a : Element) {b : Block} → b ≡ block_scale value (block a.low a.high)
      → element_in field (record { low = b.low; high = b.high }) ≡ (kind_of field).field.scaled.scale (noise_in field value) (element_in field a)
  unfolding element_in
  scaled_1 value a q = rw e q

  pub element_1 : (a : Element) → true ≡ is_element field (element_of field a.low a.high)
  element_1 a = rw e

  pub coefficient_1 : (word : ℕ) → noise_in field 1 ≡ (kind_of field).coefficient word
  coefficient_1 word = rw e

  pub noise-sum_1 : (a b : ℕ) {r : ℕ} → r ≡ bit_add a b → r ≡ noise_sum field a b
  unfolding noise_sum
  noise-sum_1 a b q = rw e q

-- ---- in field 2

module _ (field : ℕ) (h : field ≡ 1 → ⊥) where
  -- what holds where the test of the field's number fails
  pub other : (P : Bool → Type 0) → P false → P (eqb field 1)
  other P x = subst P (sym (ne_eqb field 1 h)) x

  pub leaf_2 : (leaf : List (List ℕ)) {w : ℕ} {p : Prime} → w ≡ low_of leaf → p ≡ prime_reduce w
      → element_in field (record { low = p.word; high = 0 }) ≡ (kind_of field).leaf leaf
  unfolding element_in
  leaf_2 leaf {p = p} e q = other (λ t. (kind_by t).field.elements.read (p.word ∷ 0 ∷ []) 0 ≡ (kind_by t).leaf leaf) (q ∙ ap prime_reduce e)

  pub at_2 : (s : List ℕ) (place : ℕ) {low : ℕ} → low ≡ word_at s place → record { low = low; high = 0 } ≡ element_at field s place
  unfolding element_at
  at_2 s place p = rw (ne_eqb field 1 h, p)

  pub of_2 : (l : List ℕ) (i : ℕ) {p : Prime} → p ≡ at primes.elements l i
      → element_in field (record { low = p.word; high = 0 }) ≡ at (kind_of field).field.elements l i
  unfolding element_in
  of_2 l i {p} q = other (λ t. (kind_by t).field.elements.read (p.word ∷ 0 ∷ []) 0 ≡ at (kind_by t).field.elements l i) q

  module _ (a b : Element) {p : Prime} where
    pub sum_2 : p ≡ prime_add (prime a.low) (prime b.low)
        → element_in field (record { low = p.word; high = 0 }) ≡ (kind_of field).field.scaled.group.add (element_in field a) (element_in field b)
    unfolding element_in
    sum_2 q =
        other (λ t. (kind_by t).field.elements.read (p.word ∷ 0 ∷ []) 0
        ≡ (kind_by t).field.scaled.group.add ((kind_by t).field.elements.read (a.low ∷ a.high ∷ []) 0)
        ((kind_by t).field.elements.read (b.low ∷ b.high ∷ []) 0)) q

    pub difference_2 : p ≡ prime_sub (prime a.low) (prime b.low)
        → element_in field (record { low = p.word; high = 0 }) ≡ (kind_of field).field.scaled.group.sub (element_in field a) (element_in field b)
    unfolding element_in
    difference_2 q =
        other (λ t. (kind_by t).field.elements.read (p.word ∷ 0 ∷ []) 0
        ≡ (kind_by t).field.scaled.group.sub ((kind_by t).field.elements.read (a.low ∷ a.high ∷ []) 0)
        ((kind_by t).field.elements.read (b.low ∷ b.high ∷ []) 0)) q

  pub scaled_2 : (value : ℕ) (a : Element) {p : Prime} → p ≡ prime_mul (prime value) (prime a.low)
      → element_in field (record { low = p.word; high = 0 }) ≡ (kind_of field).field.scaled.scale (noise_in field value) (element_in field a)
  unfolding element_in
  scaled_2 value a {p} q =
      other (λ t. (kind_by t).field.elements.read (p.word ∷ 0 ∷ []) 0
      ≡ (kind_by t).field.scaled.scale ((kind_by t).field.noise_values.read (value ∷ []) 0) ((kind_by t).field.elements.read (a.low ∷ a.high ∷ []) 0)) q

  pub element_2 : (a : Element) → ltb a.low 2305843009213693951 ≡ is_element field (element_of field a.low a.high)
  element_2 a =
      other (λ t. ltb a.low modulus
      ≡ (kind_by t).field.scaled.group.is_element ((kind_by t).field.elements.read (choose t (a.low ∷ a.high ∷ []) (a.low ∷ [])) 0)) refl

  pub coefficient_2 : (word : ℕ) {p : Prime} → p ≡ prime_reduce word → noise_in field p.word ≡ (kind_of field).coefficient word
  coefficient_2 word {p} q = other (λ t. (kind_by t).field.noise_values.read (p.word ∷ []) 0 ≡ (kind_by t).coefficient word) q

  pub noise-sum_2 : (a b : ℕ) {p : Prime} → p ≡ prime_add (prime a) (prime b) → p.word ≡ noise_sum field a b
  unfolding noise_sum
  noise-sum_2 a b q = rw (ne_eqb field 1 h) (ap (λ (x : Prime). x.word) q)

-- ---- in either field

pub noise-sum_is : (field a b : ℕ) → noise_in field (noise_sum field a b) ≡ (kind_of field).field.ring.group.add (noise_in field a) (noise_in field b)
unfolding noise_sum
noise-sum_is field a b =
    by_field (λ t. (kind_by t).field.noise_values.read (choose t (bit_add a b) (prime_add (prime a) (prime b)).word ∷ []) 0
    ≡ (kind_by t).field.ring.group.add ((kind_by t).field.noise_values.read (a ∷ []) 0) ((kind_by t).field.noise_values.read (b ∷ []) 0)) refl refl field

pub noise-zero : (field : ℕ) → noise_in field 0 ≡ (kind_of field).field.ring.group.zero
noise-zero field = by_field (λ t. (kind_by t).field.noise_values.read (0 ∷ []) 0 ≡ (kind_by t).field.ring.group.zero) refl refl field

pub element-zero : (field : ℕ) → element_in field (record { low = 0; high = 0 }) ≡ (kind_of field).field.scaled.group.zero
unfolding element_in
element-zero field = by_field (λ t. (kind_by t).field.elements.read (0 ∷ 0 ∷ []) 0 ≡ (kind_by t).field.scaled.group.zero) refl refl field

-- an element's words are those that it takes of its two
pub element-words : (field low high : ℕ) → element_of field low high ≡ (kind_of field).field.elements.words (element_in field (record { low = low; high = high }))
unfolding element_in
element-words field low high =
    by_field (λ t. choose t (low ∷ high ∷ []) (low ∷ [])
    ≡ (kind_by t).field.elements.words ((kind_by t).field.elements.read (low ∷ high ∷ []) 0)) refl refl field

-- what is read of its words is the element
pub element-again : (field low high : ℕ)
    → element_in field (record { low = low; high = high }) ≡ (kind_of field).field.elements.read (element_of field low high) 0
unfolding element_in
element-again field low high =
    by_field (λ t. (kind_by t).field.elements.read (low ∷ high ∷ []) 0
    ≡ (kind_by t).field.elements.read (choose t (low ∷ high ∷ []) (low ∷ [])) 0) refl refl field

-- the words of an element in bytes, and its second word where it has one
module _ (field : ℕ) (s : List ℕ) (place : ℕ) where
  pub at_words : {e : Element} → e ≡ element_at field s place → element_of field e.low e.high ≡ element_of field (word_at s place) (word_at s (place + 8))
  unfolding element_at
  at_words q =
      rw q (by_field (λ t. choose t (word_at s place ∷ choose t (word_at s (place + 8)) 0 ∷ []) (word_at s place ∷ [])
      ≡ choose t (word_at s place ∷ word_at s (place + 8) ∷ []) (word_at s place ∷ [])) refl refl field)

  pub at_second : {e : Element} → e ≡ element_at field s place → e.high ≡ get_or (element_of field e.low e.high) 1 0
  unfolding element_at
  at_second q =
      rw q (by_field (λ t. choose t (word_at s (place + 8)) 0
      ≡ get_or (choose t (word_at s place ∷ choose t (word_at s (place + 8)) 0 ∷ []) (word_at s place ∷ [])) 1 0) refl refl field)

-- ---- comparison and tests

module _ (field : ℕ) (a b : Element) where
  lows : element_in field a ≡ element_in field b → a.low ≡ b.low
  unfolding element_in
  lows =
      by_field (λ t. (kind_by t).field.elements.read (a.low ∷ a.high ∷ []) 0
      ≡ (kind_by t).field.elements.read (b.low ∷ b.high ∷ []) 0 → a.low ≡ b.low)
      (ap (λ (x : Block). x.low)) (ap (λ (x : Prime). x.word)) field

  pub low_differs : (a.low ≡ b.low → ⊥) → Compared field a b false
  low_differs n = record { same = λ q. absurd (true≢false (sym q)); other = λ q e. n (lows e) }

  module _ (l : a.low ≡ b.low) where
    pub compared_1 : field ≡ 1 → Compared field a b (eqb a.high b.high)
    unfolding element_in
    compared_1 e =
        record {
          same = λ q. rw (e, l, eqb-true a.high b.high q);
          other = λ q i. true≢false (sym (eq-eqb a.high b.high (highs e i)) ∙ q);
        }
      where
        highs : field ≡ 1 → element_in field a ≡ element_in field b → a.high ≡ b.high
        highs f i = let j : block a.low a.high ≡ block b.low b.high = rw f at i in ap (λ (x : Block). x.high) j

    pub compared_2 : (field ≡ 1 → ⊥) → Compared field a b true
    unfolding element_in
    compared_2 h =
        record {
          same = λ q.
              other field h (λ t. (kind_by t).field.elements.read (a.low ∷ a.high ∷ []) 0 ≡ (kind_by t).field.elements.read (b.low ∷ b.high ∷ []) 0)
              (ap prime l);
          other = λ q. absurd (true≢false q);
        }

-- ---- an element stored

module _ (field : ℕ) (b : List ℕ) (place : ℕ) (a : Element) {c : List ℕ} (w : c ≡ with_word b place a.low) where
  pub stored_1 : field ≡ 1 → {d : List ℕ} → d ≡ with_word c (place + 8) a.high → d ≡ with_words b place (element_of field a.low a.high)
  unfolding with_words
  stored_1 e q = rw (q, w, e)

  pub stored_2 : (field ≡ 1 → ⊥) → c ≡ with_words b place (element_of field a.low a.high)
  unfolding with_words
  stored_2 h = rw (w, ne_eqb field 1 h)
