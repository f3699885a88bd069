-- The key schedule's schedule_words follow FIPS 197's recurrence, and four of them at a time are `next_key`. Assumes nothing.
use mathlib.Core.Path.{◌≡◌, refl, ◌∙◌, sym, ap}
use mathlib.Core.List.{List, [], ◌∷◌}
use mathlib.Core.Logic.{⊎_elim}
use Prim.Native.Nat.{ℕ, zero, suc, ◌+◌, ◌-◌, ◌*◌, ◌/◌, ◌%◌, ◌<◌, ◌≤◌}
use native.Mathlib.Nat.{zero-add, suc-add, eq-or-lt_of_le}
use native.Mathlib.Omega.{arith}
use Rattle.std.proofs.Common.{add-one}
use borrow.Author.Count.{below_more}
use borrow.Author.Tests.{ne_eqb}
use lib.Dec.{eqb, eqb→eq}
use lib.ListN.{length, get_or, set, length-set, length-append, get_or-append}
use lib.Seq.{get_or_at, get_or-set_same, get_or-set_other, ext_get_or}
use Rattle.aes_sbox.specs.Byte.{xtime}
use Rattle.aes_sbox.proofs.Every.{at}
use Rattle.aes128.specs.State.{xor_word}
use Rattle.aes128.specs.Cipher.{rot_word, sub_word, power, temp, next_word, schedule_words, key_of, keys_of, key_expansion}
use Rattle.aes128.specs.Inner.Steps.{next_key}
use Rattle.aes128.proofs.Words.{is_four, four_eq}

pub keys_size : (w : List (List ℕ)) (n : ℕ) → length (keys_of w n) ≡ n
unfolding keys_of
keys_size w zero = refl
keys_size w (suc n) = simp length-append (omega (arith, keys_size w n))

module _ (key : List (List ℕ)) (size : length key ≡ 4) where
  pub words_size : (n : ℕ) → length (schedule_words key n) ≡ n + 4
  unfolding schedule_words
  words_size zero = size
  words_size (suc n) = simp length-append (omega (arith, words_size n))

  -- a word stays as it was made
  kept : (i k j : ℕ) → j < i + 4 → get_or (schedule_words key (k + i)) j [] ≡ get_or (schedule_words key i) j []
  unfolding schedule_words
  kept i zero j h = rw zero-add
  kept i (suc k) j h =
      rw suc-add (get_or-append (schedule_words key (k + i)) _ [] j (omega (arith, words_size (k + i))) ∙ kept i k j h)

  module _ (m : ℕ) where
    -- word i of the first m + 4
    abbrev word : ℕ → List ℕ
    word i = get_or (schedule_words key m) i []

    was : (i j : ℕ) → i ≤ m → j < i + 4 → word j ≡ get_or (schedule_words key i) j []
    was i j h l =
        let e : (m - i) + i ≡ m = omega arith in
        rw e at (kept i (m - i) j l)

    -- 5.2: w[i] from w[i - 4] and w[i - 1]
    made : (i : ℕ) → i < m → word (i + 4) ≡ xor_word (word i) (temp (i + 4) (word (i + 3)))
    unfolding schedule_words
    made i h =
        let e4 : i + 4 - 4 ≡ i = omega arith in
        let e1 : i + 4 - 1 ≡ i + 3 = omega arith in
        was (suc i) (i + 4) (omega arith) (omega arith)
        ∙ get_or_at (schedule_words key i) (next_word (i + 4) (schedule_words key i)) [] [] (i + 4) (words_size i)
        ∙ rw (e4, e1, was i i (omega arith) (omega arith), was i (i + 3) (omega arith) (omega arith))

  abbrev all : List (List ℕ)
  all = schedule_words key 40

  temp-first : (n : ℕ) (t : List ℕ) → temp (4 * n + 4) t ≡ xor_word (sub_word (rot_word t)) (power n ∷ 0 ∷ 0 ∷ 0 ∷ [])
  unfolding temp
  temp-first n t =
      let e : (4 * n + 4) % 4 ≡ 0 = omega arith in
      let q : (4 * n + 4) / 4 - 1 ≡ n = omega arith in
      rw (e, q)

  temp-other : (i : ℕ) (t : List ℕ) → (i % 4 ≡ 0 → ⊥) → temp i t ≡ t
  unfolding temp
  temp-other i t h = rw (ne_eqb _ _ h)

  -- the word at j, four after i and one after k, where 4 does not divide j
  other : (i j k : ℕ) → i < 40 → j ≡ i + 4 → k ≡ i + 3 → (j % 4 ≡ 0 → ⊥) → word 40 j ≡ xor_word (word 40 i) (word 40 k)
  other i j k h e f ne = rw (e, f) (made 40 i h ∙ ap (xor_word (word 40 i)) (temp-other (i + 4) _ (rw e at ne)))

  -- the word at j, four after i and one after k, where j is 4 (n + 1)
  first : (n i j k : ℕ) → i < 40 → i ≡ 4 * n → j ≡ i + 4 → k ≡ i + 3
      → word 40 j ≡ xor_word (word 40 i) (xor_word (sub_word (rot_word (word 40 k))) (power n ∷ 0 ∷ 0 ∷ 0 ∷ []))
  first n i j k h g e f = rw (e, f, g) (made 40 (4 * n) (rw g at h) ∙ ap (xor_word (word 40 (4 * n))) (temp-first n _))

  -- round key n + 1 from round key n
  next : (n : ℕ) → n < 10 → key_of all (suc n) ≡ next_key (power n) (key_of all n)
  unfolding next_key
  next n h =
      let w0 = first n (4 * n + 0) (4 * suc n + 0) (4 * n + 3) (omega arith) (omega arith) (omega arith) (omega arith) in
      let w1 = other (4 * n + 1) (4 * suc n + 1) (4 * suc n + 0) (omega arith) (omega arith) (omega arith) (omega arith) in
      let w2 = other (4 * n + 2) (4 * suc n + 2) (4 * suc n + 1) (omega arith) (omega arith) (omega arith) (omega arith) in
      let w3 = other (4 * n + 3) (4 * suc n + 3) (4 * suc n + 2) (omega arith) (omega arith) (omega arith) (omega arith) in
      rw (w3, w2, w1, w0)

  zeroth : key_of all 0 ≡ key
  unfolding schedule_words
  zeroth =
      four_eq (was 40 0 0 (omega arith) (omega arith)) (was 40 0 1 (omega arith) (omega arith))
      (was 40 0 2 (omega arith) (omega arith)) (was 40 0 3 (omega arith) (omega arith)) ∙ sym (is_four [] key size)

-- the first round keys, n and key 0, stand among eleven
pub record Expanded (key : List (List ℕ)) (keys : List (List (List ℕ))) (n : ℕ) : Type 0 where
  pub size : length keys ≡ 11
  pub made : (j : ℕ) → j < n + 1 → get_or keys j [] ≡ key_of (schedule_words key 40) j

pub expanded_none : {key : List (List ℕ)} {keys : List (List (List ℕ))} → length key ≡ 4 → length keys ≡ 11 → get_or keys 0 [] ≡ key
    → Expanded key keys 0
expanded_none {key} {keys} e size is = record { size = size; made = at }
  where
    at : (j : ℕ) → j < 1 → get_or keys j [] ≡ key_of (schedule_words key 40) j
    at zero h = is ∙ sym (zeroth key e)
    at (suc j) h = absurd (omega arith)

-- one more round key
pub expanded_next : {key : List (List ℕ)} {keys : List (List (List ℕ))} {i : ℕ} {k : List (List ℕ)} → length key ≡ 4 → i < 10 → Expanded key keys i
    → k ≡ next_key (power i) (get_or keys i []) → Expanded key (set keys (i + 1) k) (i + 1)
expanded_next {key} {keys} {i} {k} e hi h is =
    record { size = length-set keys (i + 1) k ∙ h.size; made = below_more _ _ before here }
  where
    before : (j : ℕ) → j < i + 1 → get_or (set keys (i + 1) k) j [] ≡ key_of (schedule_words key 40) j
    before j l = get_or-set_other keys (i + 1) j k [] (omega arith) ∙ h.made j l

    here : get_or (set keys (i + 1) k) (i + 1) [] ≡ key_of (schedule_words key 40) (i + 1)
    here =
        get_or-set_same keys (i + 1) k [] (omega (arith, h.size))
        ∙ is ∙ ap (next_key (power i)) (h.made i (omega arith)) ∙ sym (rw (← add-one i) at (next key e i hi))

-- the round constants are the powers of x
pub constant : (i : ℕ) → i < 10 → get_or (0x01 ∷ 0x02 ∷ 0x04 ∷ 0x08 ∷ 0x10 ∷ 0x20 ∷ 0x40 ∷ 0x80 ∷ 0x1b ∷ 0x36 ∷ []) i 0 ≡ power i
unfolding xtime power
constant i h = eqb→eq _ _ (at (λ i v. eqb v (power i)) 10 (0x01 ∷ 0x02 ∷ 0x04 ∷ 0x08 ∷ 0x10 ∷ 0x20 ∷ 0x40 ∷ 0x80 ∷ 0x1b ∷ 0x36 ∷ []) tt i h)

keys_at : (w : List (List ℕ)) (n j : ℕ) → j < n → get_or (keys_of w n) j [] ≡ key_of w j
unfolding keys_of
keys_at w zero j h = absurd (omega arith)
keys_at w (suc n) j h =
    let below : j ≤ n = omega arith in
    ⊎_elim (λ q. get_or_at (keys_of w n) (key_of w n) [] [] j (keys_size w n ∙ omega arith) ∙ ap (key_of w) (omega arith))
    (λ q. get_or-append (keys_of w n) _ [] j (omega (arith, keys_size w n)) ∙ keys_at w n j q) (eq-or-lt_of_le below)

-- all eleven
pub expanded_all : {key : List (List ℕ)} {keys : List (List (List ℕ))} {n : ℕ} → Expanded key keys n → 10 ≤ n → keys ≡ key_expansion key
unfolding key_expansion
expanded_all {key} {keys} h all =
    ext_get_or [] keys _ (h.size ∙ sym (keys_size _ 11))
    (λ j l. h.made j (omega (arith, h.size)) ∙ sym (keys_at (schedule_words key 40) 11 j (omega (arith, h.size))))
