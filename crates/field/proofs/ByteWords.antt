-- Laws of words in bytes: a number and its bytes determine each other, and the words of columns are words.
use mathlib.Core.Path.{◌≡◌, refl, sym, ap, ◌∙◌}
use mathlib.Core.List.{List, [], ◌∷◌}
use Prim.Native.Nat.{ℕ, zero, suc, ◌+◌, ◌-◌, ◌*◌, ◌/◌, ◌%◌, ◌^◌, ◌<◌, ◌≤◌}
use native.Mathlib.Omega.{arith}
use native.Mathlib.Nat.{div-div-eq-div-mul, mod-one, mod-eq_of_lt, pow-suc, one-le-pow}
use native.Mathlib.Numerals.{towards_suc}
use lib.Arith.{mod-mul}
use lib.Bits.{bit_xor, xor_mod, xor_shr}
use lib.ListN.{length, get_or, take, drop, length-drop}
use lib.Seq.{drop-cons, get_or-drop, get_or-take, length-take-le}
use borrow.Rule.Slice.PartMut.{put_mid, Post-is}
use Rattle.std.proofs.Common.{w64, append_assoc}
use Rattle.std.proofs.lemmas.List.Edits.{sets-eq}
use Rattle.std.specs.Int.{to_le_bytes}
use Rattle.field.specs.Bytes.{le_number, le_bytes, word_at, columns_of, low_of, high_of}
use Rattle.field.specs.Inner.Written.{with_word}

pub length-le_bytes : (n x : ℕ) → length (le_bytes n x) ≡ n
unfolding le_bytes
length-le_bytes zero x = refl
length-le_bytes (suc n) x = ap suc (length-le_bytes n (x / 256))

-- the number of a number's lowest n bytes
pub le_number-le_bytes : (n x : ℕ) → le_number (le_bytes n x) ≡ x % 256 ^ n
unfolding le_number le_bytes
le_number-le_bytes zero x = sym (mod-one x)
le_number-le_bytes (suc n) x =
    let e : le_number (le_bytes n (x / 256)) ≡ x / 256 % 256 ^ n = le_number-le_bytes n (x / 256) in
    let s : x % (256 ^ n * 256) ≡ x / 256 % 256 ^ n * 256 + x % 256 = mod-mul x (one-le-pow n 256 (omega arith)) (omega arith) in
    let p : 256 ^ suc n ≡ 256 ^ n * 256 = pow-suc 256 n in
    rw p (omega arith)

pub le_number-le_bytes-word : (x : ℕ) → x < 18446744073709551616 → le_number (le_bytes 8 x) ≡ x
le_number-le_bytes-word x h = le_number-le_bytes 8 x ∙ mod-eq_of_lt h

-- the bytes of the number of bytes
le_bytes_cons : (n b x : ℕ) → b < 256 → le_bytes (suc n) (b + 256 * x) ≡ b ∷ le_bytes n x
unfolding le_bytes
le_bytes_cons n b x h =
    let r : (b + 256 * x) % 256 ≡ b = omega arith in
    let q : (b + 256 * x) / 256 ≡ x = omega arith in
    rw (r, q)

pub le_bytes-le_number : (l : List ℕ) → ((k : ℕ) → k < length l → get_or l k 0 < 256) → le_bytes (length l) (le_number l) ≡ l
unfolding le_number le_bytes
le_bytes-le_number [] h = refl
le_bytes-le_number (b ∷ l) h =
    le_bytes_cons (length l) b (le_number l) (h 0 (omega arith)) ∙ ap (λ (r : List ℕ). b ∷ r) (le_bytes-le_number l (λ k j. h (suc k) (omega arith)))

pub le_number-below : (l : List ℕ) → ((k : ℕ) → k < length l → get_or l k 0 < 256) → le_number l < 256 ^ length l
unfolding le_number
le_number-below [] h = omega arith
le_number-below (b ∷ l) h =
    let p : 256 ^ suc (length l) ≡ 256 ^ length l * 256 = pow-suc 256 (length l) in
    let s = le_number-below l (λ k j. h (suc k) (omega arith)) in
    let d : b < 256 = h 0 (omega arith) in
    rw p (omega arith)

-- ---- words in a list of bytes
pub word_at-take : (l : List ℕ) (at : ℕ) → at + 8 ≤ length l → word_at l at ≡ le_number (take 8 (drop at l))
unfolding word_at
word_at-take l at h = ap le_number (simp towards_suc eight)
  where
    eight : get_or l at 0
        ∷ get_or l (suc at) 0
        ∷ get_or l (suc (suc at)) 0
        ∷ get_or l (suc (suc (suc at))) 0
        ∷ get_or l (suc (suc (suc (suc at)))) 0
        ∷ get_or l (suc (suc (suc (suc (suc at))))) 0
        ∷ get_or l (suc (suc (suc (suc (suc (suc at)))))) 0
        ∷ get_or l (suc (suc (suc (suc (suc (suc (suc at))))))) 0
        ∷ [] ≡ take 8 (drop at l)
    eight =
        rw (
          drop-cons l at 0 (omega arith),
          drop-cons l (suc at) 0 (omega arith),
          drop-cons l (suc (suc at)) 0 (omega arith),
          drop-cons l (suc (suc (suc at))) 0 (omega arith),
          drop-cons l (suc (suc (suc (suc at)))) 0 (omega arith),
          drop-cons l (suc (suc (suc (suc (suc at))))) 0 (omega arith),
          drop-cons l (suc (suc (suc (suc (suc (suc at)))))) 0 (omega arith),
          drop-cons l (suc (suc (suc (suc (suc (suc (suc at))))))) 0 (omega arith),
        )

-- byte k of the word whose eight bytes begin at a place
pub word_byte : (l : List ℕ) (at : ℕ) → ((k : ℕ) → get_or l k 0 < 256) → at + 8 ≤ length l → (k : ℕ) → k < 8
    → get_or (le_bytes 8 (word_at l at)) k 0 ≡ get_or l (at + k) 0
word_byte l at bytes room k h =
    let size : length (take 8 (drop at l)) ≡ 8 = length-take-le 8 (drop at l) (simp length-drop (omega arith)) in
    let byte : (k : ℕ) → k < 8 → get_or (take 8 (drop at l)) k 0 ≡ get_or l (at + k) 0 =
    λ k h. get_or-take 8 (drop at l) k 0 h ∙ get_or-drop at l k 0 in
    let all : le_bytes 8 (le_number (take 8 (drop at l))) ≡ take 8 (drop at l) =
    rw size at (le_bytes-le_number (take 8 (drop at l)) (λ k j. rw (byte k (omega arith)) (bytes (at + k)))) in
    rw (word_at-take l at room, all) (byte k h)

-- what `u64::to_le_bytes` computes
pub bytes_of_number : (x : ℕ) → to_le_bytes w64 x ≡ le_bytes 8 x
unfolding le_bytes
bytes_of_number x = simp div-div-eq-div-mul

-- a word's bytes put over the part of them
pub word_put : (l bytes : List ℕ) (at x : ℕ) → at + 8 ≤ length l → bytes ≡ to_le_bytes w64 x → put_mid at (at + 8 - at) l bytes ≡ with_word l at x
unfolding with_word
word_put l bytes at x room e =
    let b : bytes ≡ le_bytes 8 x = e ∙ bytes_of_number x in
    let n : length (le_bytes 8 x) ≡ 8 = length-le_bytes 8 x in
    rw (b, Post-is at (at + 8) l (omega arith))
    (sym (append_assoc (take at l) (le_bytes 8 x) (drop (at + 8) l)) ∙ sym (rw n at (sets-eq (le_bytes 8 x) l at (rw n room))))

-- ---- exclusive or
-- the bytes of an exclusive or are the exclusive ors of the bytes
pub le_bytes-xor : (n x y k : ℕ) → get_or (le_bytes n (bit_xor x y)) k 0 ≡ bit_xor (get_or (le_bytes n x) k 0) (get_or (le_bytes n y) k 0)
unfolding le_bytes
le_bytes-xor zero x y k = refl
le_bytes-xor (suc n) x y zero = xor_mod x y 8
le_bytes-xor (suc n) x y (suc k) = rw (xor_shr x y 8) (le_bytes-xor n (x / 256) (y / 256) k)

-- and those of two words, each read from its place
pub word-xor : (l r : List ℕ) (i j : ℕ) → ((k : ℕ) → get_or l k 0 < 256) → ((k : ℕ) → get_or r k 0 < 256) → i + 8 ≤ length l → j + 8 ≤ length r
    → (k : ℕ) → k < 8 → get_or (le_bytes 8 (bit_xor (word_at l i) (word_at r j))) k 0 ≡ bit_xor (get_or l (i + k) 0) (get_or r (j + k) 0)
word-xor l r i j left right lroom rroom k h =
    le_bytes-xor 8 (word_at l i) (word_at r j) k ∙ rw (word_byte l i left lroom k h, word_byte r j right rroom k h)

-- ---- words and columns
-- the columns of two words' bytes
pub columns_of_bytes : (low high : ℕ) → (let l = to_le_bytes w64 low in let h = to_le_bytes w64 high in
    (get_or l 0 0 ∷ get_or l 1 0 ∷ get_or l 2 0 ∷ get_or l 3 0 ∷ []) ∷ (get_or l 4 0 ∷ get_or l 5 0 ∷ get_or l 6 0 ∷ get_or l 7 0 ∷ [])
    ∷ (get_or h 0 0 ∷ get_or h 1 0 ∷ get_or h 2 0 ∷ get_or h 3 0 ∷ []) ∷ (get_or h 4 0 ∷ get_or h 5 0 ∷ get_or h 6 0 ∷ get_or h 7 0 ∷ []) ∷ [])
    ≡ columns_of low high
unfolding columns_of le_bytes
columns_of_bytes low high = simp div-div-eq-div-mul

-- the words of columns are words
pub low_of-below : (s : List (List ℕ)) → ((c r : ℕ) → get_or (get_or s c []) r 0 < 256) → low_of s < 18446744073709551616
unfolding low_of le_number
low_of-below s b = omega (arith, b 0 0, b 0 1, b 0 2, b 0 3, b 1 0, b 1 1, b 1 2, b 1 3)

pub high_of-below : (s : List (List ℕ)) → ((c r : ℕ) → get_or (get_or s c []) r 0 < 256) → high_of s < 18446744073709551616
unfolding high_of le_number
high_of-below s b = omega (arith, b 2 0, b 2 1, b 2 2, b 2 3, b 3 0, b 3 1, b 3 2, b 3 3)
