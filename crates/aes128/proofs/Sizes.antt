-- The results of the definitions are words of four bytes and states of four such words. Assumes nothing.
use mathlib.Core.Path.{◌≡◌, refl}
use mathlib.Core.Bool.{Bool, true, false}
use mathlib.Core.List.{List, [], ◌∷◌, ◌++◌}
use mathlib.Core.Logic.{⊎_elim}
use Prim.Native.Nat.{ℕ, zero, suc, ◌+◌, ◌-◌, ◌%◌, ◌<◌, ◌≤◌}
use native.Mathlib.Nat.{eq-or-lt_of_le, mod-lt}
use native.Mathlib.Omega.{arith}
use lib.Bits.{bit_xor, xor_lt}
use lib.Dec.{eqb, ltb, lit<}
use lib.ListN.{length, get_or, get_or-append, get_or-eq_default}
use borrow.Author.Tests.{ltb-true, ltb-false}
use lib.Seq.{get_or_at}
use Rattle.field.specs.Bytes.{le_bytes, columns_of}
use Rattle.field.specs.declared.block.Block.{Block}
use Rattle.aes_sbox.specs.Byte.{s_box}
use Rattle.aes_sbox.proofs.Bounds.{xtime_lt, sbox_lt}
use Rattle.aes128.specs.State.{column, xor_word, xor_state}
use Rattle.aes128.specs.Inner.Words.{round_keys}
use Rattle.aes128.specs.Inner.Blocks.{cipher_of}
use Rattle.aes128.specs.Inner.Sizes.{IsWord, IsState}
use Rattle.algebra.specs.Choice.{choose}
use Rattle.aes128.specs.Cipher.{sub_bytes, shift_rows, round_key, cipher, power, temp, schedule_words, keys_of, key_expansion, aes}
use Rattle.aes128.proofs.Columns.{columns_of_block}
use Rattle.aes128.proofs.Expansion.{words_size, keys_size}

pub four_bytes : {a b x y : ℕ} → a < 256 → b < 256 → x < 256 → y < 256 → IsWord (a ∷ b ∷ x ∷ y ∷ [])
four_bytes {a} {b} {x} {y} ha hb hx hy = record { size = refl; bytes = at }
  where
    at : (r : ℕ) → get_or (a ∷ b ∷ x ∷ y ∷ []) r 0 < 256
    at zero = ha
    at (suc zero) = hb
    at (suc (suc zero)) = hx
    at (suc (suc (suc zero))) = hy
    at (suc (suc (suc (suc r)))) = lit< tt

pub four-words : {a b x y : List ℕ} → IsWord a → IsWord b → IsWord x → IsWord y → IsState (a ∷ b ∷ x ∷ y ∷ [])
four-words {a} {b} {x} {y} ha hb hx hy = record { size = refl; words = at }
  where
    at : (c : ℕ) → c < 4 → IsWord (column (a ∷ b ∷ x ∷ y ∷ []) c)
    at zero h = ha
    at (suc zero) h = hb
    at (suc (suc zero)) h = hx
    at (suc (suc (suc zero))) h = hy
    at (suc (suc (suc (suc c)))) h = absurd (omega arith)

-- what is read of a state is a byte
pub state-bytes : (s : List (List ℕ)) → IsState s → (c r : ℕ) → get_or (get_or s c []) r 0 < 256
state-bytes s h c r = decide (ltb c 4) refl
  where
    decide : (t : Bool) → ltb c 4 ≡ t → get_or (get_or s c []) r 0 < 256
    decide true e = (h.words c (ltb-true c 4 e)).bytes r
    decide false e =
        let out : length s ≤ c = rw h.size (ltb-false c 4 e) in
        rw (get_or-eq_default s [] out) (lit< tt)

pub xor-word_is : {a b : List ℕ} → IsWord a → IsWord b → IsWord (xor_word a b)
unfolding xor_word
xor-word_is {a} {b} h k = four_bytes (byte 0) (byte 1) (byte 2) (byte 3)
  where
    byte : (r : ℕ) → bit_xor (get_or a r 0) (get_or b r 0) < 256
    byte r = xor_lt 8 _ _ (h.bytes r) (k.bytes r)

pub xor-state_is : {s t : List (List ℕ)} → IsState s → IsState t → IsState (xor_state s t)
unfolding xor_state
xor-state_is {s} {t} h k = four-words (col 0 (lit< tt)) (col 1 (lit< tt)) (col 2 (lit< tt)) (col 3 (lit< tt))
  where
    col : (c : ℕ) → c < 4 → IsWord (xor_word (column s c) (column t c))
    col c l = xor-word_is (h.words c l) (k.words c l)

sub-word_is : (a b x y : ℕ) → IsWord (s_box a ∷ s_box b ∷ s_box x ∷ s_box y ∷ [])
sub-word_is a b x y = four_bytes (sbox_lt a) (sbox_lt b) (sbox_lt x) (sbox_lt y)

sub_shift_is : (s : List (List ℕ)) → IsState (shift_rows (sub_bytes s))
unfolding shift_rows sub_bytes
sub_shift_is s = four-words (sub-word_is _ _ _ _) (sub-word_is _ _ _ _) (sub-word_is _ _ _ _) (sub-word_is _ _ _ _)

-- the cipher gives a state, whatever it is given, if its last round key is one
pub cipher_is : (w : List (List (List ℕ))) (s : List (List ℕ)) → IsState (round_key w 10) → IsState (cipher w s)
unfolding cipher
cipher_is w s h = xor-state_is (sub_shift_is _) h

le_word : (x : ℕ) → IsWord (le_bytes 4 x)
unfolding le_bytes
le_word x = four_bytes (mod-lt _ (lit< tt)) (mod-lt _ (lit< tt)) (mod-lt _ (lit< tt)) (mod-lt _ (lit< tt))

columns_are : (low high : ℕ) → IsState (columns_of low high)
unfolding columns_of
columns_are low high = four-words (le_word _) (le_word _) (le_word _) (le_word _)

-- the cipher under round keys that words hold gives a state
pub cipher_of_is : (words : List ℕ) (s : List (List ℕ)) → IsState (cipher (round_keys words) s)
unfolding round_keys
cipher_of_is words s = cipher_is (round_keys words) s (columns_are _ _)

-- so the columns of the cipher's block are the cipher's result
pub columns_of_cipher : (words : List ℕ) (b : Block)
    → columns_of (cipher_of words b).low (cipher_of words b).high ≡ cipher (round_keys words) (columns_of b.low b.high)
columns_of_cipher words b = columns_of_block _ (cipher_of_is words _)

pick_is : (t : Bool) {a b : List ℕ} → IsWord a → IsWord b → IsWord (choose t a b)
pick_is true h k = h
pick_is false h k = k

power_lt : (n : ℕ) → power n < 256
unfolding power
power_lt zero = lit< tt
power_lt (suc n) = xtime_lt (power n) (power_lt n)

temp_is : (i : ℕ) {t : List ℕ} → IsWord t → IsWord (temp i t)
unfolding temp
temp_is i h =
    pick_is (eqb (i % 4) 0)
    (xor-word_is (sub-word_is _ _ _ _) (four_bytes (power_lt _) (lit< tt) (lit< tt) (lit< tt))) h

-- what holds of a list's entries and of one more holds of the longer list's entries
with_last : {A : Type 0} (P : A → Type 0) (l : List A) (x d : A) (n : ℕ) → length l ≡ n → ((j : ℕ) → j < n → P (get_or l j d)) → P x
    → (j : ℕ) → j ≤ n → P (get_or (l ++ (x ∷ [])) j d)
with_last P l x d n e h p j b =
    ⊎_elim (λ q. rw (get_or_at l x [] d j (omega arith)) p) (λ q. rw (get_or-append l (x ∷ []) d j (omega arith)) (h j q)) (eq-or-lt_of_le b)

module _ (key : List (List ℕ)) (is : IsState key) where
  words_are : (n j : ℕ) → j < n + 4 → IsWord (get_or (schedule_words key n) j [])
  unfolding schedule_words
  words_are zero j h = is.words j (omega arith)
  words_are (suc n) j h =
      with_last IsWord (schedule_words key n) _ [] (n + 4) (words_size key is.size n) (words_are n)
      (xor-word_is (words_are n (n + 4 - 4) (omega arith)) (temp_is (n + 4) (words_are n (n + 4 - 1) (omega arith))))
      j (omega arith)

  keys_are : (n i : ℕ) → n ≤ 11 → i < n → IsState (get_or (keys_of (schedule_words key 40) n) i [])
  unfolding keys_of
  keys_are zero i m h = absurd (omega arith)
  keys_are (suc n) i m h =
      with_last IsState (keys_of (schedule_words key 40) n) _ [] n (keys_size _ n) (λ j. keys_are n j (omega arith))
      (four-words (words_are 40 _ (omega arith)) (words_are 40 _ (omega arith)) (words_are 40 _ (omega arith)) (words_are 40 _ (omega arith)))
      i (omega arith)

  -- each of the eleven round keys is a state
  pub round-key_is : (i : ℕ) → i < 11 → IsState (round_key (key_expansion key) i)
  unfolding key_expansion
  round-key_is i h = keys_are 11 i (omega arith) h

  -- so is every block that is encrypted
  pub aes_is : (block : List (List ℕ)) → IsState (aes key block)
  unfolding aes
  aes_is block = cipher_is (key_expansion key) block (round-key_is 10 (lit< tt))
