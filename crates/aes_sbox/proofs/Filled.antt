-- The tables that the rounds read, entry by entry as they are filled. Assumes nothing.
use mathlib.Core.Path.{◌≡◌, refl, ◌∙◌, ap}
use mathlib.Core.Bool.{Bool, true, false}
use mathlib.Core.List.{List, [], ◌∷◌}
use Prim.Native.Nat.{ℕ, zero, suc, ◌+◌, ◌*◌, ◌/◌, ◌%◌, ◌^◌, ◌<◌, ◌≤◌}
use native.Mathlib.Omega.{arith}
use borrow.Author.Tests.{eqb-true, eqb-false}
use lib.Dec.{eqb, lit<}
use lib.ListN.{length, get_or, set, length-set}
use lib.Seq.{get_or-set_same, get_or-set_other}
use Rattle.aes_sbox.specs.Byte.{mul_bytes, s_box}
use Rattle.aes_sbox.specs.Inner.Wide.{wide_rows}
use Rattle.aes_sbox.specs.Inner.Tables.{mixed, wide_column, half_turned, RoundTables}
use Rattle.aes_sbox.proofs.Bounds.{sbox_lt}
use Rattle.aes_sbox.proofs.Columns.{rows_of_column, half_turned_column}
use Rattle.aes_sbox.proofs.Bytes.{twice_lt, thrice_lt}

-- the six entries of a byte whose S-box value is s, twice which is d and three times e
unfoldable pub entries_of : ℕ → ℕ → ℕ → List ℕ
entries_of s d e =
    wide_column d s s e
    ∷ wide_column e d s s
    ∷ wide_column s e d s
    ∷ wide_column s s e d
    ∷ (s + s * 2 ^ 40)
    ∷ (s * 2 ^ 16 + s * 2 ^ 56)
    ∷ []

-- the entry of byte x in table k
unfoldable pub entry_at : ℕ → ℕ → ℕ
entry_at k x = get_or (entries_of (s_box x) (mul_bytes 2 (s_box x)) (mul_bytes 3 (s_box x))) k 0

-- the first p entries stand, taken byte by byte, and each byte's table by table
pub record Filled (t : List ℕ) (p : ℕ) : Type 0 where
  pub size : length t ≡ 1536
  pub entries : (i : ℕ) → i < 1536 → 6 * (i % 256) + i / 256 < p → get_or t i 0 ≡ entry_at (i / 256) (i % 256)

filled_next : {t : List ℕ} {p x k at v : ℕ} → Filled t p → p ≡ 6 * x + k → k < 6 → x < 256 → at ≡ 256 * k + x → v ≡ entry_at k x
    → Filled (set t at v) (suc p)
filled_next {t} {p} {x} {k} {at} {v} f q hk hx e ev =
    record { size = length-set t at v ∙ f.size; entries = λ i h l. decide i h l (eqb i at) refl }
  where
    decide : (i : ℕ) → i < 1536 → 6 * (i % 256) + i / 256 < suc p → (b : Bool) → eqb i at ≡ b
        → get_or (set t at v) i 0 ≡ entry_at (i / 256) (i % 256)
    decide i h l true z =
        let same : i ≡ at = eqb-true i at z in
        let table : i / 256 ≡ k = omega arith in
        let byte : i % 256 ≡ x = omega arith in
        rw (table, byte) (rw same (get_or-set_same t at v 0 (omega (arith, f.size)) ∙ ev))
    decide i h l false z =
        let other : i ≡ at → ⊥ = eqb-false i at z in
        get_or-set_other t at i v 0 other ∙ f.entries i h (omega arith)

module _ {t : List ℕ} {x s d e m0 m1 m2 m3 : ℕ} (f : Filled t (6 * x)) (hx : x < 256) (es : s ≡ s_box x)
    (ed : (d ≡ mul_bytes 2 s) × (d < 256)) (ee : (e ≡ mul_bytes 3 s) × (e < 256)) (e0 : m0 ≡ wide_column d s s e) (e1 : m1 ≡ wide_column e d s s)
    (e2 : m2 ≡ half_turned m0) (e3 : m3 ≡ half_turned m1) where
  is-byte : s < 256
  is-byte = rw es (sbox_lt x)

  entry_is : (k : ℕ) → get_or (entries_of s d e) k 0 ≡ entry_at k x
  unfolding entry_at
  entry_is k = rw (ed.0, ee.0, es)

  -- the entries of one more byte
  pub filled-byte : Filled (set (set (set (set (set (set t x m0) (256 + x) m1) (512 + x) m2) (768 + x) m3) (1024 + x) (s + s * 2 ^ 40)) (1280 + x) (s * 2 ^ 16 + s * 2 ^ 56))
      (6 * (x + 1))
  unfolding entries_of
  filled-byte =
      let f0 = filled_next {x = x} {k = 0} {at = x} f (omega arith) (lit< tt) hx (omega arith) (e0 ∙ entry_is 0) in
      let f1 = filled_next {x = x} {k = 1} {at = 256 + x} f0 (omega arith) (lit< tt) hx (omega arith) (e1 ∙ entry_is 1) in
      let v2 = e2 ∙ ap half_turned e0 ∙ half_turned_column d s s e ed.1 is-byte is-byte ee.1 in
      let v3 = e3 ∙ ap half_turned e1 ∙ half_turned_column e d s s ee.1 ed.1 is-byte is-byte in
      let f2 = filled_next {x = x} {k = 2} {at = 512 + x} f1 (omega arith) (lit< tt) hx (omega arith) (v2 ∙ entry_is 2) in
      let f3 = filled_next {x = x} {k = 3} {at = 768 + x} f2 (omega arith) (lit< tt) hx (omega arith) (v3 ∙ entry_is 3) in
      let f4 = filled_next {x = x} {k = 4} {at = 1024 + x} f3 (omega arith) (lit< tt) hx (omega arith) (entry_is 4) in
      let f5 = filled_next {x = x} {k = 5} {at = 1280 + x} f4 (omega arith) (lit< tt) hx (omega arith) (entry_is 5) in
      let n : 6 * (x + 1) ≡ suc (suc (suc (suc (suc (suc (6 * x)))))) = omega arith in
      rw n f5

module _ {t : List ℕ} {n : ℕ} (f : Filled t (6 * n)) (all : 256 ≤ n) where
  entry : (k i x : ℕ) → k < 6 → x < 256 → i ≡ 256 * k + x → get_or t i 0 ≡ entry_at k x
  entry k i x hk hx e =
      let table : i / 256 ≡ k = omega arith in
      let byte : i % 256 ≡ x = omega arith in
      f.entries i (omega arith) (omega arith) ∙ rw (table, byte)

  -- all of them are the tables
  pub filled-all : RoundTables t
  unfolding entry_at entries_of
  filled-all =
      record {
        mix = rows;
        low = λ x h. entry 4 (1024 + x) x (lit< tt) h (omega arith);
        high = λ x h. entry 5 (1280 + x) x (lit< tt) h (omega arith);
      }
    where
      one : (x : ℕ) → s_box x < 256
      one x = sbox_lt x

      two : (x : ℕ) → mul_bytes 2 (s_box x) < 256
      two x = twice_lt (s_box x) (sbox_lt x)

      three : (x : ℕ) → mul_bytes 3 (s_box x) < 256
      three x = thrice_lt (s_box x) (sbox_lt x)

      rows : (row x : ℕ) → row < 4 → x < 256 → wide_rows (get_or t (256 * row + x) 0) ≡ mixed row x
      rows zero x r h = ap wide_rows (entry 0 (0 + x) x (lit< tt) h (omega arith)) ∙ rows_of_column _ _ _ _ (two x) (one x) (one x) (three x)
      rows (suc zero) x r h = ap wide_rows (entry 1 (256 + x) x (lit< tt) h (omega arith)) ∙ rows_of_column _ _ _ _ (three x) (two x) (one x) (one x)
      rows (suc (suc zero)) x r h =
          ap wide_rows (entry 2 (512 + x) x (lit< tt) h (omega arith)) ∙ rows_of_column _ _ _ _ (one x) (three x) (two x) (one x)
      rows (suc (suc (suc zero))) x r h =
          ap wide_rows (entry 3 (768 + x) x (lit< tt) h (omega arith)) ∙ rows_of_column _ _ _ _ (one x) (one x) (three x) (two x)
      rows (suc (suc (suc (suc row)))) x r h = absurd (omega arith)
