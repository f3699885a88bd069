-- Laws of the codings in one word and in two, and what reading and replacing a value is in words.
use mathlib.Core.Path.{◌≡◌, refl, sym, ap, ◌∙◌}
use mathlib.Core.List.{List, [], ◌∷◌, append_assoc}
use Prim.Native.Nat.{ℕ, suc, ◌+◌, ◌*◌, ◌<◌, ◌≤◌}
use native.Mathlib.Omega.{arith}
use native.Mathlib.Nat.{mul-one}
use native.Mathlib.Numerals.{add-one}
use lib.ListN.{length, take, drop, set}
use lib.Seq.{drop-cons, set_split, sets-eq, get_or-append_seam, get_or-append-add}
use Rattle.algebra.specs.Coding.{CodingLaws}
use Rattle.algebra.specs.Inner.Put.{put}
use Rattle.algebra.specs.Words.{one_word, two_words}

module _ {A : Type 0} (word : A → ℕ) (make : ℕ → A) where
  pub one-word_laws : ((a : A) → make (word a) ≡ a) → ((w : ℕ) → word (make w) ≡ w) → CodingLaws (one_word word make)
  one-word_laws there back =
      record {
        length-words = λ a. refl;
        read-words = λ before a after. ap make (get_or-append_seam before (word a) after 0) ∙ there a;
        words-read = λ l k h. rw (back, drop-cons l k 0 (omega arith));
      }

  -- replacing value i is storing its word at i
  pub put_one : (l : List ℕ) (i : ℕ) (a : A) → i < length l → put (one_word word make) l i a ≡ set l i (word a)
  unfolding put
  put_one l i a h = rw (mul-one, add-one, set_split l i (word a))

module _ {A : Type 0} (low high : A → ℕ) (make : ℕ → ℕ → A) where
  pub two-word_laws : ((a : A) → make (low a) (high a) ≡ a) → ((x y : ℕ) → low (make x y) ≡ x) → ((x y : ℕ) → high (make x y) ≡ y)
      → CodingLaws (two_words low high make)
  two-word_laws there back_low back-high =
      record {
        length-words = λ a. refl;
        read-words = λ before a after.
            cc (get_or-append_seam before (low a) (high a ∷ after) 0, get_or-append-add before (low a ∷ high a ∷ after) 1 0, there a);
        words-read = λ l k h.
            rw (back_low, back-high, add-one, drop-cons l k 0 (omega arith), drop-cons l (suc k) 0 (omega arith));
      }

  -- replacing value i is storing its two words
  pub put_two : (l : List ℕ) (i : ℕ) (a : A) → i * 2 + 2 ≤ length l
      → put (two_words low high make) l i a ≡ set (set l (i * 2) (low a)) (i * 2 + 1) (high a)
  unfolding put
  put_two l i a h =
      sym (append_assoc (take (i * 2) l) (low a ∷ high a ∷ []) (drop (i * 2 + 2) l))
      ∙ sym (sets-eq (low a ∷ high a ∷ []) l (i * 2) h)
      ∙ rw add-one
