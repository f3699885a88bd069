-- Every family of round keys has words in which it can be lent: eight times forty words of 64 bits, which `keys_for` reads as the
-- family. So what is proved for whatever round keys are lent (document 02, 3) is proved for every family.
use mathlib.Core.Path.{◌≡◌, refl, sym, ap, ◌∙◌}
use mathlib.Core.Bool.{Bool, true, false}
use mathlib.Core.List.{List, [], ◌∷◌}
use Prim.Native.Nat.{ℕ, zero, suc, ◌+◌, ◌*◌, ◌^◌, ◌<◌, ◌≤◌}
use native.Mathlib.Omega.{arith}
use lib.Dec.{ltb, lit<}
use lib.ListN.{length, get_or}
use lib.Seq.{ext_get_or}
use borrow.Author.Tests.{ltb-true, lt-ltb}
use Rattle.algebra.specs.Choice.{choose}
use Rattle.algebra.proofs.Choice.{choose-true}
use Rattle.field.specs.Bytes.{low_of, high_of}
use Rattle.field.proofs.ByteWords.{low_of-below, high_of-below}
use Rattle.aes_sbox.specs.Inner.Wide.{wide_rows}
use Rattle.aes_sbox.proofs.Columns.{rows_of_column}
use Rattle.aes128.specs.State.{four, column}
use Rattle.aes128.specs.Inner.Words.{round_keys}
use Rattle.aes128.specs.Inner.Sizes.{IsWord, IsState}
use Rattle.aes128.proofs.Sizes.{state-bytes}
use Rattle.aes128.proofs.Columns.{columns_of_block}
use Rattle.aes128.proofs.Words.{is_four, four_eq}
use Rattle.tree.specs.Tree.{listed}
use Rattle.tree.specs.Inner.Keys.{keys_for}
use Rattle.tree.proofs.Listed.{length-listed, listed_at}

-- eleven round keys of four columns of four bytes
pub record IsKeys (keys : List (List (List ℕ))) : Type 0 where
  pub size : length keys ≡ 11
  pub states : (i : ℕ) → i < 11 → IsState (get_or keys i [])

-- forty words
pub record IsForty (words : List ℕ) : Type 0 where
  pub size : length words ≡ 40
  pub below : (i : ℕ) → get_or words i 0 < 2 ^ 64

-- words in which the round keys of the first k children can be lent
pub record Lent (k : ℕ) (keys : ℕ → List (List (List ℕ))) : Type 0 where
  pub words : List (List ℕ)
  pub size : length words ≡ 8
  pub forty : (c : ℕ) → c < 8 → IsForty (get_or words c [])
  pub read : (c : ℕ) → c < k → keys_for words c ≡ keys c

-- ---- columns

wide : List ℕ → ℕ
wide a = get_or a 0 0 + get_or a 1 0 * 2 ^ 24 + get_or a 2 0 * 2 ^ 32 + get_or a 3 0 * 2 ^ 56

wide_read : (a : List ℕ) → IsWord a → wide_rows (wide a) ≡ a
unfolding wide
wide_read a h =
    rows_of_column (get_or a 0 0) (get_or a 1 0) (get_or a 2 0) (get_or a 3 0) (h.bytes 0) (h.bytes 1) (h.bytes 2) (h.bytes 3)
    ∙ sym (is_four 0 a h.size)

wide_below : (a : List ℕ) → ((r : ℕ) → get_or a r 0 < 256) → wide a < 2 ^ 64
unfolding wide
wide_below a h = omega (arith, h 0, h 1, h 2, h 3)

-- words of 64 bits
record Words (l : List ℕ) : Type 0 where
  below : (i : ℕ) → get_or l i 0 < 2 ^ 64

word_before : {w : ℕ} {rest : List ℕ} → w < 2 ^ 64 → Words rest → Words (w ∷ rest)
word_before {w} {rest} b r = record { below = at }
  where
    at : (i : ℕ) → get_or (w ∷ rest) i 0 < 2 ^ 64
    at zero = b
    at (suc i) = r.below i

-- ---- the words of eleven round keys

abbrev block_before : List (List ℕ) → List ℕ → List ℕ
block_before s rest = low_of s ∷ high_of s ∷ rest

abbrev wide_before : List (List ℕ) → List ℕ → List ℕ
wide_before s rest = wide (column s 0) ∷ wide (column s 1) ∷ wide (column s 2) ∷ wide (column s 3) ∷ rest

module _ (keys : List (List (List ℕ))) where
  abbrev key : ℕ → List (List ℕ)
  key i = get_or keys i []

  stored : List ℕ
  stored =
      block_before (key 0)
      (wide_before (key 1) (wide_before (key 2) (wide_before (key 3) (wide_before (key 4) (wide_before (key 5)
      (wide_before (key 6) (wide_before (key 7) (wide_before (key 8) (wide_before (key 9) (block_before (key 10) []))))))))))

  module _ (h : IsKeys keys) where
    wides_read : (i : ℕ) → i < 11 → four (λ c. wide_rows (wide (column (key i) c))) ≡ key i
    wides_read i l =
        let s = h.states i l in
        four_eq (wide_read _ (s.words 0 (lit< tt))) (wide_read _ (s.words 1 (lit< tt)))
        (wide_read _ (s.words 2 (lit< tt))) (wide_read _ (s.words 3 (lit< tt)))
        ∙ sym (is_four [] (key i) s.size)

    entry : (n : ℕ) → n < 11 → get_or (round_keys stored) n [] ≡ key n
    unfolding round_keys stored
    entry zero l = columns_of_block (key 0) (h.states 0 l)
    entry (suc zero) l = wides_read 1 l
    entry (suc (suc zero)) l = wides_read 2 l
    entry (suc (suc (suc zero))) l = wides_read 3 l
    entry (suc (suc (suc (suc zero)))) l = wides_read 4 l
    entry (suc (suc (suc (suc (suc zero))))) l = wides_read 5 l
    entry (suc (suc (suc (suc (suc (suc zero)))))) l = wides_read 6 l
    entry (suc (suc (suc (suc (suc (suc (suc zero))))))) l = wides_read 7 l
    entry (suc (suc (suc (suc (suc (suc (suc (suc zero)))))))) l = wides_read 8 l
    entry (suc (suc (suc (suc (suc (suc (suc (suc (suc zero))))))))) l = wides_read 9 l
    entry (suc (suc (suc (suc (suc (suc (suc (suc (suc (suc zero)))))))))) l = columns_of_block (key 10) (h.states 10 l)
    entry (suc (suc (suc (suc (suc (suc (suc (suc (suc (suc (suc n))))))))))) l = absurd (omega arith)

    stored-read : round_keys stored ≡ keys
    unfolding round_keys
    stored-read = ext_get_or [] (round_keys stored) keys (sym h.size) entry

  -- words of 64 bits, if all that is read of the round keys is bytes
  module _ (bytes : (n : ℕ) → n < 11 → (c r : ℕ) → get_or (get_or (key n) c []) r 0 < 256) where
    block-before : (n : ℕ) → n < 11 → {rest : List ℕ} → Words rest → Words (block_before (key n) rest)
    block-before n l r = word_before (low_of-below (key n) (bytes n l)) (word_before (high_of-below (key n) (bytes n l)) r)

    wide-before : (n : ℕ) → n < 11 → {rest : List ℕ} → Words rest → Words (wide_before (key n) rest)
    wide-before n l r =
        word_before (wide_below (column (key n) 0) (bytes n l 0)) (word_before (wide_below (column (key n) 1) (bytes n l 1))
        (word_before (wide_below (column (key n) 2) (bytes n l 2)) (word_before (wide_below (column (key n) 3) (bytes n l 3)) r)))

    stored-words : Words stored
    unfolding stored
    stored-words =
        block-before 0 (lit< tt) (wide-before 1 (lit< tt) (wide-before 2 (lit< tt) (wide-before 3 (lit< tt) (wide-before 4 (lit< tt)
        (wide-before 5 (lit< tt) (wide-before 6 (lit< tt) (wide-before 7 (lit< tt) (wide-before 8 (lit< tt) (wide-before 9 (lit< tt)
        (block-before 10 (lit< tt) (record { below = λ i. lit< tt })))))))))))

    stored_forty : IsForty stored
    unfolding stored
    stored_forty = record { size = refl; below = stored-words.below }

-- for every family whose first k members, k at most eight, are eleven round keys of four columns of four bytes
pub every_family : (k : ℕ) (keys : ℕ → List (List (List ℕ))) → k ≤ 8 → ((c : ℕ) → c < k → IsKeys (keys c)) → Lent k keys
every_family k keys most family =
    record {
      words = listed 8 words_of;
      size = length-listed 8 words_of;
      forty = λ c h. rw (listed_at 8 words_of [] c h) (forty c (ltb c k) refl);
      read = λ c h.
          ap round_keys (listed_at 8 words_of [] c (omega arith) ∙ choose-true (ltb c k) (stored (keys c)) (stored []) (lt-ltb c k h))
          ∙ stored-read (keys c) (family c h);
    }
  where
    words_of : ℕ → List ℕ
    words_of c = choose (ltb c k) (stored (keys c)) (stored [])

    forty : (c : ℕ) (t : Bool) → ltb c k ≡ t → IsForty (choose t (stored (keys c)) (stored []))
    forty c true e = stored_forty (keys c) (λ n l. state-bytes _ ((family c (ltb-true c k e)).states n l))
    forty c false e = stored_forty [] (λ n l c r. lit< tt)
