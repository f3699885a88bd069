-- The forty words of eleven round keys, as they are written. Assumes nothing.
use mathlib.Core.Path.{◌≡◌, refl, ◌∙◌, sym, ap, ap₂}
use mathlib.Core.Bool.{Bool, true, false}
use mathlib.Core.List.{List, [], ◌∷◌}
use Prim.Native.Nat.{ℕ, zero, suc, ◌+◌, ◌*◌, ◌<◌, ◌≤◌}
use native.Mathlib.Nat.{add-zero}
use native.Mathlib.Omega.{arith}
use borrow.Author.Tests.{eqb-true, eqb-false}
use lib.Dec.{eqb, lit<}
use lib.ListN.{length, get_or, set, length-set}
use lib.Seq.{get_or-set_same, get_or-set_other, ext_get_or}
use Rattle.field.specs.Bytes.{columns_of}
use Rattle.aes_sbox.specs.Inner.Wide.{wide_rows}
use Rattle.aes128.specs.Inner.Words.{wide_key, block_key, round_keys}
use Rattle.aes128.proofs.Words.{four_eq}

-- round key 0 and the next n stand
pub record Held (k : List (List (List ℕ))) (words : List ℕ) (n : ℕ) : Type 0 where
  pub size : length words ≡ 40
  pub key_0 : block_key words 0 ≡ get_or k 0 []
  pub wide : (j : ℕ) → j < n → wide_key words (4 * j + 2) ≡ get_or k (j + 1) []

-- four words written
abbrev pub four_set : List ℕ → ℕ → ℕ → ℕ → ℕ → ℕ → List ℕ
four_set words at a b x y = set (set (set (set words at a) (at + 1) b) (at + 2) x) (at + 3) y

module _ (words : List ℕ) (at a b x y : ℕ) (room : at + 4 ≤ length words) where
  abbrev w1 : List ℕ
  w1 = set words at a

  abbrev w2 : List ℕ
  w2 = set w1 (at + 1) b

  abbrev w3 : List ℕ
  w3 = set w2 (at + 2) x

  other : (n : ℕ) → (n < at) → get_or (four_set words at a b x y) n 0 ≡ get_or words n 0
  other n h =
      get_or-set_other w3 (at + 3) n y 0 (omega arith)
      ∙ get_or-set_other w2 (at + 2) n x 0 (omega arith)
      ∙ get_or-set_other w1 (at + 1) n b 0 (omega arith)
      ∙ get_or-set_other words at n a 0 (omega arith)

  four-size : length (four_set words at a b x y) ≡ length words
  four-size = length-set w3 (at + 3) y ∙ length-set w2 (at + 2) x ∙ length-set w1 (at + 1) b ∙ length-set words at a

  size_3 : length w3 ≡ length words
  size_3 = length-set w2 (at + 2) x ∙ length-set w1 (at + 1) b ∙ length-set words at a

  size_2 : length w2 ≡ length words
  size_2 = length-set w1 (at + 1) b ∙ length-set words at a

  read_0 : get_or (four_set words at a b x y) at 0 ≡ a
  read_0 =
      get_or-set_other w3 (at + 3) at y 0 (omega arith)
      ∙ get_or-set_other w2 (at + 2) at x 0 (omega arith)
      ∙ get_or-set_other w1 (at + 1) at b 0 (omega arith)
      ∙ get_or-set_same words at a 0 (omega arith)

  read_1 : get_or (four_set words at a b x y) (at + 1) 0 ≡ b
  read_1 =
      get_or-set_other w3 (at + 3) (at + 1) y 0 (omega arith)
      ∙ get_or-set_other w2 (at + 2) (at + 1) x 0 (omega arith)
      ∙ get_or-set_same w1 (at + 1) b 0 (omega (arith, length-set words at a))

  read_2 : get_or (four_set words at a b x y) (at + 2) 0 ≡ x
  read_2 = get_or-set_other w3 (at + 3) (at + 2) y 0 (omega arith) ∙ get_or-set_same w2 (at + 2) x 0 (omega (arith, size_2))

  read_3 : get_or (four_set words at a b x y) (at + 3) 0 ≡ y
  read_3 = get_or-set_same w3 (at + 3) y 0 (omega (arith, size_3))

  wide_read : wide_key (four_set words at a b x y) at ≡ wide_rows a ∷ wide_rows b ∷ wide_rows x ∷ wide_rows y ∷ []
  wide_read =
      four_eq (ap wide_rows (ap (λ n. get_or (four_set words at a b x y) n 0) (add-zero at) ∙ read_0)) (ap wide_rows read_1) (ap wide_rows read_2)
      (ap wide_rows read_3)

  wide-other : (n : ℕ) → n + 4 ≤ at → wide_key (four_set words at a b x y) n ≡ wide_key words n
  wide-other n h =
      four_eq (ap wide_rows (other (n + 0) (omega arith))) (ap wide_rows (other (n + 1) (omega arith)))
      (ap wide_rows (other (n + 2) (omega arith))) (ap wide_rows (other (n + 3) (omega arith)))

-- one more round key
pub held_next : {k : List (List (List ℕ))} {words : List ℕ} (w : List ℕ) {i : ℕ} → Held k words i → i < 9 → wide_key w 0 ≡ get_or k (i + 1) []
    → Held k (four_set words (4 * i + 2) (get_or w 0 0) (get_or w 1 0) (get_or w 2 0) (get_or w 3 0)) (i + 1)
held_next {k} {words} w {i} held hi e =
    record {
      size = four-size words (4 * i + 2) _ _ _ _ room ∙ held.size;
      key_0 = ap₂ columns_of (other words (4 * i + 2) _ _ _ _ room 0 (omega arith)) (other words (4 * i + 2) _ _ _ _ room 1 (omega arith)) ∙ held.key_0;
      wide = λ j h. decide j h (eqb j i) refl;
    }
  where
    room : 4 * i + 2 + 4 ≤ length words
    room = omega (arith, held.size)

    decide : (j : ℕ) → j < i + 1 → (t : Bool) → eqb j i ≡ t
        → wide_key (four_set words (4 * i + 2) (get_or w 0 0) (get_or w 1 0) (get_or w 2 0) (get_or w 3 0)) (4 * j + 2) ≡ get_or k (j + 1) []
    decide j h true q = rw (eqb-true j i q) (wide_read words (4 * i + 2) _ _ _ _ room ∙ e)
    decide j h false q =
        let l : j < i = omega (arith, eqb-false j i q) in
        wide-other words (4 * i + 2) _ _ _ _ room (4 * j + 2) (omega arith) ∙ held.wide j l

module _ {k : List (List (List ℕ))} {words : List ℕ} {i : ℕ} (a b : ℕ) (size : length k ≡ 11) (held : Held k words i) (all : 9 ≤ i)
    (last : columns_of a b ≡ get_or k 10 []) where
  abbrev ended : List ℕ
  ended = set (set words 38 a) 39 b

  kept : (n : ℕ) → n < 38 → get_or ended n 0 ≡ get_or words n 0
  kept n h = get_or-set_other (set words 38 a) 39 n b 0 (omega arith) ∙ get_or-set_other words 38 n a 0 (omega arith)

  wide-kept : (j n : ℕ) → j < 9 → n ≡ 4 * j + 2 → wide_key ended n ≡ get_or k (j + 1) []
  wide-kept j n h e =
      four_eq (ap wide_rows (kept (n + 0) (omega arith))) (ap wide_rows (kept (n + 1) (omega arith)))
      (ap wide_rows (kept (n + 2) (omega arith))) (ap wide_rows (kept (n + 3) (omega arith)))
      ∙ rw e (held.wide j (omega arith))

  first-kept : block_key ended 0 ≡ get_or k 0 []
  first-kept = ap₂ columns_of (kept 0 (lit< tt)) (kept 1 (lit< tt)) ∙ held.key_0

  last-kept : block_key ended 38 ≡ get_or k 10 []
  last-kept =
      ap₂ columns_of
      (get_or-set_other (set words 38 a) 39 38 b 0 (omega arith) ∙ get_or-set_same words 38 a 0 (omega (arith, held.size)))
      (get_or-set_same (set words 38 a) 39 b 0 (omega (arith, length-set words 38 a, held.size))) ∙ last

  entry : (n : ℕ) → n < 11 → get_or (round_keys ended) n [] ≡ get_or k n []
  unfolding round_keys
  entry zero h = first-kept
  entry (suc zero) h = wide-kept 0 2 (lit< tt) refl
  entry (suc (suc zero)) h = wide-kept 1 6 (lit< tt) refl
  entry (suc (suc (suc zero))) h = wide-kept 2 10 (lit< tt) refl
  entry (suc (suc (suc (suc zero)))) h = wide-kept 3 14 (lit< tt) refl
  entry (suc (suc (suc (suc (suc zero))))) h = wide-kept 4 18 (lit< tt) refl
  entry (suc (suc (suc (suc (suc (suc zero)))))) h = wide-kept 5 22 (lit< tt) refl
  entry (suc (suc (suc (suc (suc (suc (suc zero))))))) h = wide-kept 6 26 (lit< tt) refl
  entry (suc (suc (suc (suc (suc (suc (suc (suc zero)))))))) h = wide-kept 7 30 (lit< tt) refl
  entry (suc (suc (suc (suc (suc (suc (suc (suc (suc zero))))))))) h = wide-kept 8 34 (lit< tt) refl
  entry (suc (suc (suc (suc (suc (suc (suc (suc (suc (suc zero)))))))))) h = last-kept
  entry (suc (suc (suc (suc (suc (suc (suc (suc (suc (suc (suc n))))))))))) h = absurd (omega arith)

  -- all eleven
  pub held_all : round_keys ended ≡ k
  unfolding round_keys
  held_all = ext_get_or [] (round_keys ended) k (sym size) entry
