-- What a turn of the loops leaves, and the words of either field.
use mathlib.Core.Path.{◌≡◌, refl, sym, ap, ◌∙◌, subst}
use mathlib.Core.Bool.{Bool, true, false, not, ◌&&◌, ◌||◌}
use mathlib.Core.List.{List, [], ◌∷◌}
use Prim.Native.Nat.{ℕ, ◌+◌, ◌-◌, ◌*◌, ◌/◌, ◌%◌, ◌≤◌, ◌<◌}
use native.Mathlib.Nat.{mul-one, mod-eq_of_lt, mod-eq-sub-mod}
use native.Mathlib.Omega.{arith}
use lib.Dec.{eqb, ltb}
use lib.ListN.{length, get_or, set}
use lib.Seq.{get_or-drop}
use borrow.Author.Tests.{ne_eqb, ltb-true, ltb-false, lt-ltb, le-ltb}
use Rattle.std.specs.List.{list_all}
use Rattle.algebra.specs.Coding.{over}
use Rattle.algebra.specs.Inner.Put.{with_value}
use Rattle.algebra.proofs.Written.{Wide, Placed, front_more, front-all, read_past}
use Rattle.prime.specs.Prime.{modulus}
use Rattle.answer.specs.Bytes.{any_above}
use Rattle.answer.specs.Tests.{first_fault}
use Rattle.answer.specs.Outcome.{refused_one, wrote}
use Rattle.answer.proofs.Above.{none_above}
use Rattle.answer.proofs.Faults.{admitted_by}
use Rattle.answer.proofs.Answers.{refused-one, accepted_with}
use Rattle.layer_add.specs.Add.{AddLent, lent_add, prime_sum, word_sum, word, sum_at, summed, are_words, add_tests, add}
use Rattle.layer_add.specs.Inner.{Addable, AreBelow}

pub wide_word : Wide word
wide_word w = refl

placed-word : Placed word
placed-word l i = ap (λ (n : ℕ). get_or l n 0) (omega arith) ∙ sym (get_or-drop i l 0 0)

pub word_below : (l : List ℕ) → AreBelow l → (k : ℕ) → get_or l k 0 < modulus
word_below l h k = h.each k

-- ---- the loops, by the sum of two words

module _ (sum : ℕ → ℕ → ℕ) (from b l : List ℕ) (k : ℕ) (so : l ≡ over word k (sum_at sum from b) b) where
  -- the words not yet added are as they were
  still : get_or l k 0 ≡ get_or b k 0
  still =
      read_past word wide_word placed-word k k k (sum_at sum from b) b l (omega arith) (omega arith) so
      ∙ ap (λ (n : ℕ). get_or b n 0) (mul-one k)

  pub still-below : AreBelow b → get_or l k 0 < modulus
  still-below h = subst (λ (x : ℕ). x < modulus) (sym still) (h.each k)

  -- one word more
  pub word_more : (x : ℕ) → k < length l → length l ≡ length b → x ≡ sum (get_or from k 0) (get_or l k 0)
      → set l k x ≡ over word (k + 1) (sum_at sum from b) b
  unfolding with_value sum_at
  word_more x h size e =
      front_more word wide_word (sum_at sum from b) b k k l _ (omega arith) (omega arith) so
      (ap (set l k) (e ∙ ap (sum (get_or from k 0)) still))

  -- after the last word
  pub words-all : k ≤ length b → length l ≤ k → length l ≡ length b → l ≡ summed sum from b
  unfolding summed
  words-all h m size = front-all word (sum_at sum from b) b k (length b) l h (omega arith) so

-- a sum of p or more has bit 61 once 1 is added
pub prime-word : (a b : ℕ) → (a < modulus) × (b < modulus)
    → ((a + b) + ((a + b) + 1) / 2305843009213693952) % 2305843009213693952 ≡ prime_sum a b
unfolding prime_sum
prime-word a b h = of (a + b) (omega (arith, h.0, h.1)) (ltb (a + b) modulus) refl
  where
    of : (s : ℕ) → s + 1 < 2 * modulus → (t : Bool) → ltb s modulus ≡ t
        → (s + (s + 1) / 2305843009213693952) % 2305843009213693952 ≡ s % modulus
    of s small true e =
        let below : s < modulus = ltb-true s modulus e in
        let bit : (s + 1) / 2305843009213693952 ≡ 0 = omega arith in
        rw bit (omega arith) ∙ sym (mod-eq_of_lt below)
    of s small false e =
        let above : modulus ≤ s = ltb-false s modulus e in
        let rest : s - modulus < modulus = omega arith in
        let bit : (s + 1) / 2305843009213693952 ≡ 1 = omega arith in
        rw bit (omega arith) ∙ sym (mod-eq_of_lt rest) ∙ sym (mod-eq-sub-mod above)

-- ---- by the field's number

-- field 2 asks that every word is below p: that none is above p − 1
below-none : (w : ℕ) (a b : Bool) → a ≡ not b → ltb w modulus && a ≡ not (ltb (modulus - 1) w || b)
below-none w a b e = of (ltb w modulus) refl
  where
    of : (t : Bool) → ltb w modulus ≡ t → t && a ≡ not (ltb (modulus - 1) w || b)
    of true t = let h : w ≤ modulus - 1 = omega (arith, ltb-true w modulus t) in rw (le-ltb (modulus - 1) w h) e
    of false t = let h : modulus - 1 < w = omega (arith, ltb-false w modulus t) in rw (lt-ltb (modulus - 1) w h)

elements-none : (l : List ℕ) → list_all (λ word. ltb word modulus) l ≡ not (any_above (modulus - 1) l)
unfolding any_above
elements-none [] = refl
elements-none (w ∷ l) = below-none w _ _ (elements-none l)

pub words_2 : (field : ℕ) (l : List ℕ) (t : Bool) → (field ≡ 1 → ⊥) → t ≡ list_all (λ word. ltb word modulus) l → t ≡ are_words field l
words_2 field l t f e = rw (ne_eqb field 1 f) (e ∙ elements-none l)

pub are_below : (field : ℕ) (l : List ℕ) → (field ≡ 1 → ⊥) → are_words field l ≡ true → AreBelow l
are_below field l f e =
    record {
      each = λ k. let h = none_above (modulus - 1) l (none (any_above (modulus - 1) l) (rw (ne_eqb field 1 f) at e)) k in omega arith;
    }
  where
    none : (t : Bool) → not t ≡ true → t ≡ false
    none false e = refl
    none true e = sym e

-- ---- the call

pub add-refused : (field n : ℕ) (l : AddLent) → eqb n 0 ≡ false → n ≡ first_fault (add_tests field l) → refused_one l n ≡ add field l
unfolding add
add-refused field n l h e = refused-one l _ n e h _

-- what an accepted call was lent
pub admitted : (field n : ℕ) (from into : List ℕ) → n ≡ first_fault (add_tests field (lent_add from into)) → n ≡ 0 → Addable field from into
admitted field n from into e z =
    let all = (admitted_by (add_tests field (lent_add from into)) n refl e z).all in
    record { equal = all.1.0; from_serves = all.1.1.0; into_serves = all.1.1.1.0 }

pub add-accepted : (field n : ℕ) (from b l : List ℕ) → n ≡ first_fault (add_tests field (lent_add from b)) → n ≡ 0 → length l ≡ length b
    → l ≡ summed (word_sum field) from b → wrote (length l) (lent_add from l) ≡ add field (lent_add from b)
unfolding add
add-accepted field n from b l e z size g =
    accepted_with (add_tests field (lent_add from b)) _ _ _ n e z (rw size (ap (λ (r : List ℕ). wrote (length b) (lent_add from r)) g))
