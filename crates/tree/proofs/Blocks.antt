-- Blocks in bytes: what is written and what is read back.
use mathlib.Core.Path.{◌≡◌, refl, ap, sym, ◌∙◌}
use mathlib.Core.List.{List, [], ◌∷◌, ◌++◌}
use Prim.Native.Nat.{ℕ, zero, suc, ◌+◌, ◌*◌, ◌<◌}
use native.Mathlib.Nat.{add_assoc, add-zero, zero-add, suc-add}
use native.Mathlib.Omega.{arith}
use lib.ListN.{length, get_or, take, drop, length-append, get_or-append}
use lib.Seq.{get_or-append-add, get_or-take, get_or-drop}
pub use Rattle.aes128.proofs.Words.{is_four, four_eq}
use Rattle.aes128.specs.State.{four, column, byte_at, xor_word, xor_state}
use Rattle.tree.specs.Columns.{columns_at, columns_bytes, blocks_bytes, siblings_at}

-- ---- writing

pub length-block : (s : List (List ℕ)) → length (columns_bytes s) ≡ 16
unfolding columns_bytes
length-block s = refl

pub length-blocks : (xs : List (List (List ℕ))) → length (blocks_bytes xs) ≡ length xs * 16
unfolding blocks_bytes
length-blocks [] = refl
length-blocks (s ∷ xs) = omega (arith, length-append (columns_bytes s) (blocks_bytes xs), length-block s, length-blocks xs)

-- ---- reading

-- four columns of four
pub record Square (s : List (List ℕ)) : Type 0 where
  pub size : length s ≡ 4
  pub columns : (c : ℕ) → c < 4 → length (column s c) ≡ 4

square_is : (s : List (List ℕ)) → Square s → four (λ c. four (λ r. byte_at s r c)) ≡ s
square_is s h =
    sym (is_four [] s h.size
    ∙ four_eq (is_four 0 (column s 0) (h.columns 0 (omega arith))) (is_four 0 (column s 1) (h.columns 1 (omega arith)))
    (is_four 0 (column s 2) (h.columns 2 (omega arith))) (is_four 0 (column s 3) (h.columns 3 (omega arith))))

-- a byte of a part of a list
byte_of : (p x q : List ℕ) (at k : ℕ) → length p ≡ at → k < length x → get_or (p ++ (x ++ q)) (at + k) 0 ≡ get_or x k 0
byte_of p x q at k e h = rw (← e) (get_or-append-add p (x ++ q) k 0 ∙ get_or-append x q 0 k h)

byte-first : (p x q : List ℕ) (at : ℕ) → length p ≡ at → 0 < length x → get_or (p ++ (x ++ q)) at 0 ≡ get_or x 0 0
byte-first p x q at e h = ap (λ k. get_or (p ++ (x ++ q)) k 0) (sym (add-zero at)) ∙ byte_of p x q at 0 e h

-- the block that stands between p and q
pub columns_of_lem : (p q : List ℕ) (at : ℕ) (s : List (List ℕ)) → length p ≡ at → Square s → columns_at (p ++ (columns_bytes s ++ q)) at ≡ s
unfolding columns_at columns_bytes
columns_of_lem p q at s e h =
    four_eq
    (four_eq (byte-first p (columns_bytes s) q at e (omega arith)) (here 1 (omega arith)) (here 2 (omega arith)) (here 3 (omega arith)))
    (four_eq (here 4 (omega arith)) (next 4 1 (omega arith)) (next 4 2 (omega arith)) (next 4 3 (omega arith)))
    (four_eq (here 8 (omega arith)) (next 8 1 (omega arith)) (next 8 2 (omega arith)) (next 8 3 (omega arith)))
    (four_eq (here 12 (omega arith)) (next 12 1 (omega arith)) (next 12 2 (omega arith)) (next 12 3 (omega arith)))
    ∙ square_is s h
  where
    here : (k : ℕ) → k < 16 → get_or (p ++ (columns_bytes s ++ q)) (at + k) 0 ≡ get_or (columns_bytes s) k 0
    here k l = byte_of p (columns_bytes s) q at k e l

    next : (j k : ℕ) → j + k < 16 → get_or (p ++ (columns_bytes s ++ q)) (at + j + k) 0 ≡ get_or (columns_bytes s) (j + k) 0
    next j k l = ap (λ i. get_or (p ++ (columns_bytes s ++ q)) i 0) (add_assoc at j k) ∙ here (j + k) l

pub square_of : {a b c d : List ℕ} → length a ≡ 4 → length b ≡ 4 → length c ≡ 4 → length d ≡ 4 → Square (a ∷ b ∷ c ∷ d ∷ [])
square_of {a} {b} {c} {d} p q r s = record { size = refl; columns = sized }
  where
    sized : (i : ℕ) → i < 4 → length (column (a ∷ b ∷ c ∷ d ∷ []) i) ≡ 4
    sized zero h = p
    sized (suc zero) h = q
    sized (suc (suc zero)) h = r
    sized (suc (suc (suc zero))) h = s
    sized (suc (suc (suc (suc i)))) h = absurd (omega arith)

-- an exclusive or has four columns of four
pub xor_square : (s t : List (List ℕ)) → Square (xor_state s t)
unfolding xor_state xor_word
xor_square s t = square_of refl refl refl refl

-- ---- siblings, one after another

-- sibling i of those at a place
pub sibling_at : (bytes : List ℕ) (n at i : ℕ) → i < n → get_or (siblings_at bytes at n) i [] ≡ columns_at bytes (at + 16 * i)
unfolding siblings_at
sibling_at bytes zero at i l = absurd (omega arith)
sibling_at bytes (suc n) at zero l = ap (columns_at bytes) (omega arith)
sibling_at bytes (suc n) at (suc i) l = sibling_at bytes n (at + 16) i (omega arith) ∙ ap (columns_at bytes) (omega arith)

-- the siblings after the first n
pub siblings_past : (bytes : List ℕ) (n m at : ℕ) → drop n (siblings_at bytes at (n + m)) ≡ siblings_at bytes (at + 16 * n) m
unfolding siblings_at
siblings_past bytes zero m at = let e : at + 16 * 0 ≡ at = omega arith in cc (zero-add m)
siblings_past bytes (suc n) m at = let e : at + 16 + 16 * n ≡ at + 16 * suc n = omega arith in cc (suc-add n m, siblings_past bytes n m (at + 16))

-- the columns of the 16 bytes at a place
pub columns-part : (s : List ℕ) (at : ℕ) → columns_at (take 16 (drop at s)) 0 ≡ columns_at s at
unfolding columns_at
columns-part s at =
    four_eq
    (four_eq (byte 0 at (omega arith) (omega arith)) (byte 1 (at + 1) (omega arith) refl) (byte 2 (at + 2) (omega arith) refl) (byte 3 (at + 3) (omega arith) refl))
    (four_eq (byte 4 (at + 4) (omega arith) refl) (byte 5 (at + 4 + 1) (omega arith) (omega arith)) (byte 6 (at + 4 + 2) (omega arith) (omega arith)) (byte 7 (at + 4 + 3) (omega arith) (omega arith)))
    (four_eq (byte 8 (at + 8) (omega arith) refl) (byte 9 (at + 8 + 1) (omega arith) (omega arith)) (byte 10 (at + 8 + 2) (omega arith) (omega arith)) (byte 11 (at + 8 + 3) (omega arith) (omega arith)))
    (four_eq (byte 12 (at + 12) (omega arith) refl) (byte 13 (at + 12 + 1) (omega arith) (omega arith)) (byte 14 (at + 12 + 2) (omega arith) (omega arith)) (byte 15 (at + 12 + 3) (omega arith) (omega arith)))
  where
    byte : (k i : ℕ) → k < 16 → i ≡ at + k → get_or (take 16 (drop at s)) k 0 ≡ get_or s i 0
    byte k i h e = get_or-take 16 (drop at s) k 0 h ∙ get_or-drop at s k 0 ∙ ap (λ (m : ℕ). get_or s m 0) (sym e)
