-- Added words stand for added values, of elements and of noise values, in both fields; and words of values may be added.
use mathlib.Core.Path.{◌≡◌, refl, sym, ap, ap₂, ◌∙◌}
use mathlib.Core.Bool.{Bool, true, false, not, ◌||◌}
use mathlib.Core.List.{List, [], ◌∷◌, ◌++◌}
use Prim.Native.Nat.{ℕ, zero, suc, ◌+◌, ◌-◌, ◌%◌, ◌<◌}
use native.Mathlib.Omega.{arith}
use lib.Bits.{bit_xor}
use lib.Dec.{eqb, ltb}
use lib.ListN.{length, get_or, length-append, get_or-append}
use lib.Seq.{get_or-append-add}
use borrow.Author.Tests.{ltb-true, le-ltb}
use Rattle.algebra.specs.Choice.{choose}
use Rattle.algebra.specs.Coding.{Coding, CodingLaws, flat, over}
use Rattle.algebra.specs.Group.{Group, Element}
use Rattle.algebra.proofs.Coding.{length-flat, flat-add, flat_cong, over-whole}
use Rattle.algebra.proofs.Words.{one-word_laws}
use Rattle.answer.specs.Bytes.{any_above}
use Rattle.answer.specs.Outcome.{wrote}
use Rattle.answer.proofs.Answers.{accepted_if}
use Rattle.field.specs.ByNumber.{is_field}
use Rattle.field.specs.Kind.{kind_of}
use Rattle.field.proofs.BothKinds.{kind_laws}
use Rattle.field.proofs.KindOf.{by_field, kind_by}
use Rattle.prime.specs.Prime.{modulus, prime_add}
use Rattle.layer_add.specs.Add.{lent_add, prime_sum, word_sum, word, sum_at, summed, are_words, add_tests, add}

word_laws : CodingLaws word
word_laws = one-word_laws (λ w. w) (λ w. w) (λ a. refl) (λ w. refl)

-- ---- lists one after the other

module _ (sum : ℕ → ℕ → ℕ) where
  summed-flat : (from into : List ℕ) → summed sum from into ≡ flat word (length into) (sum_at sum from into)
  unfolding summed
  summed-flat from into = over-whole word word_laws (length into) (sum_at sum from into) into (omega arith)

  summed_append : (xs us ys vs : List ℕ) → length xs ≡ length ys
      → summed sum (xs ++ us) (ys ++ vs) ≡ summed sum xs ys ++ summed sum us vs
  unfolding sum_at
  summed_append xs us ys vs e =
      let both : ℕ → ℕ = sum_at sum (xs ++ us) (ys ++ vs) in
      summed-flat (xs ++ us) (ys ++ vs)
      ∙ ap (λ (n : ℕ). flat word n both) (length-append ys vs)
      ∙ flat-add word word_laws (length ys) (length vs) both
      ∙ ap₂ (λ (l r : List ℕ). l ++ r)
      (flat_cong word word_laws (length ys) both (sum_at sum xs ys)
      (λ i h. ap₂ sum (get_or-append xs us 0 i (omega arith)) (get_or-append ys vs 0 i h))
      ∙ sym (summed-flat xs ys))
      (flat_cong word word_laws (length vs) (λ i. both (length ys + i)) (sum_at sum us vs)
      (λ i h.
      ap₂ sum (ap (λ (n : ℕ). get_or (xs ++ us) (n + i) 0) (sym e) ∙ get_or-append-add xs us i 0) (get_or-append-add ys vs i 0))
      ∙ sym (summed-flat us vs))

serve_append : (field : ℕ) (xs ys : List ℕ) → are_words field xs ≡ true → are_words field ys ≡ true → are_words field (xs ++ ys) ≡ true
unfolding any_above
serve_append field [] ys p q = q
serve_append field (x ∷ xs) ys p q =
    of (eqb field 1) (ltb (modulus - 1) x) (any_above (modulus - 1) xs) (any_above (modulus - 1) (xs ++ ys))
    (λ r. serve_append field xs ys r q) p
  where
    of : (t s a c : Bool) → (t || not a ≡ true → t || not c ≡ true) → t || not (s || a) ≡ true → t || not (s || c) ≡ true
    of true s a c more p = refl
    of false true a c more p = p
    of false false a c more p = more p

-- ---- any coding whose values' words are added as the values are, where t says whether the field is 1

abbrev sum_by : Bool → ℕ → ℕ → ℕ
sum_by t a b = choose t (bit_xor a b) (prime_sum a b)

pub record Additive (t : Bool) (G : Group) (C : Coding G.Of) : Type 0 where
  pub coding : CodingLaws C
  pub words-add : (a b : G.Of) → Element G a → Element G b → summed (sum_by t) (C.words a) (C.words b) ≡ C.words (G.add a b)
  pub words_serve : (a : G.Of) → Element G a → t || not (any_above (modulus - 1) (C.words a)) ≡ true

module _ (field : ℕ) {G : Group} {C : Coding G.Of} (A : Additive (eqb field 1) G C) where
  flat_serves : (n : ℕ) (f : ℕ → G.Of) → ((j : ℕ) → j < n → Element G (f j)) → are_words field (flat C n f) ≡ true
  unfolding flat any_above
  flat_serves zero f h = of (eqb field 1)
    where
      of : (t : Bool) → t || true ≡ true
      of true = refl
      of false = refl
  flat_serves (suc n) f h =
      serve_append field (flat C n f) (C.words (f n))
      (flat_serves n f (λ j k. h j (omega arith))) (A.words_serve (f n) (h n (omega arith)))

  module _ (f g : ℕ → G.Of) where
    flat-sum : (n : ℕ) → ((j : ℕ) → j < n → Element G (f j)) → ((j : ℕ) → j < n → Element G (g j))
        → summed (word_sum field) (flat C n f) (flat C n g) ≡ flat C n (λ j. G.add (f j) (g j))
    unfolding flat summed over
    flat-sum zero hf hg = refl
    flat-sum (suc n) hf hg =
        summed_append (word_sum field) (flat C n f) (C.words (f n)) (flat C n g) (C.words (g n))
        (length-flat C A.coding n f ∙ sym (length-flat C A.coding n g))
        ∙ ap₂ (λ (x y : List ℕ). x ++ y) (flat-sum n (λ j h. hf j (omega arith)) (λ j h. hg j (omega arith)))
        (A.words-add (f n) (g n) (hf n (omega arith)) (hg n (omega arith)))

    -- the call on the words of two vectors of elements is accepted and leaves those of their sum
    pub add-flat : is_field field ≡ true → (n : ℕ) → ((j : ℕ) → j < n → Element G (f j)) → ((j : ℕ) → j < n → Element G (g j))
        → add field (lent_add (flat C n f) (flat C n g))
        ≡ wrote (length (flat C n g)) (lent_add (flat C n f) (flat C n (λ j. G.add (f j) (g j))))
    unfolding add
    add-flat known n hf hg =
        let lengths = length-flat C A.coding n f ∙ sym (length-flat C A.coding n g) in
        accepted_if (add_tests field (lent_add (flat C n f) (flat C n g))) _ _
        (record { all = (known, (lengths, (flat_serves n f hf, (flat_serves n g hg, tt)))) })
        ∙ ap (λ (l : List ℕ). wrote (length (flat C n g)) (lent_add (flat C n f) l)) (flat-sum n hf hg)

-- ---- both fields

bits-add : (a b : ℕ) → a < 2 → b < 2 → bit_xor a b ≡ (a + b) % 2
bits-add zero zero h k = refl
bits-add zero (suc zero) h k = refl
bits-add (suc zero) zero h k = refl
bits-add (suc zero) (suc zero) h k = refl
bits-add zero (suc (suc b)) h k = absurd (omega arith)
bits-add (suc zero) (suc (suc b)) h k = absurd (omega arith)
bits-add (suc (suc a)) b h k = absurd (omega arith)

-- a word below p serves
below_serves : (a : ℕ) → ltb a modulus ≡ true → not (ltb (modulus - 1) a || false) ≡ true
below_serves a h = rw (le-ltb (modulus - 1) a (omega (arith, ltb-true a modulus h)))

pub elements_additive : (field : ℕ) → Additive (eqb field 1) (kind_of field).field.scaled.group (kind_of field).field.elements
unfolding summed sum_at over flat prime_sum prime_add any_above
elements_additive =
    by_field (λ t. Additive t (kind_by t).field.scaled.group (kind_by t).field.elements)
    (record { coding = (kind_laws 1).field.elements; words-add = λ a b h k. refl; words_serve = λ a h. refl })
    (record { coding = (kind_laws 2).field.elements; words-add = λ a b h k. refl; words_serve = λ a h. below_serves a.word h })

pub noise_additive : (field : ℕ) → Additive (eqb field 1) (kind_of field).field.ring.group (kind_of field).field.noise_values
unfolding summed sum_at over flat prime_sum prime_add any_above
noise_additive =
    by_field (λ t. Additive t (kind_by t).field.ring.group (kind_by t).field.noise_values)
    (record {
      coding = (kind_laws 1).field.noise_values;
      words-add = λ a b h k. ap (λ (x : ℕ). x ∷ []) (bits-add a b (ltb-true a 2 h) (ltb-true b 2 k));
      words_serve = λ a h. refl;
    })
    (record { coding = (kind_laws 2).field.noise_values; words-add = λ a b h k. refl; words_serve = λ a h. below_serves a.word h })
