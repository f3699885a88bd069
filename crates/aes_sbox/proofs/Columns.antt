-- Wide columns of four bytes. Assumes nothing.
use mathlib.Core.Path.{◌≡◌, ap, ◌∙◌}
use mathlib.Core.List.{List, [], ◌∷◌}
use Prim.Native.Nat.{ℕ, ◌+◌, ◌*◌, ◌/◌, ◌%◌, ◌^◌, ◌<◌}
use native.Mathlib.Omega.{arith}
use lib.ListN.{length, get_or}
use Rattle.aes_sbox.specs.Inner.Wide.{wide_rows}
use Rattle.aes_sbox.specs.Inner.Tables.{wide_column, half_turned}

-- the rows of a wide column are the bytes that it is made of
pub rows_of_column : (a b x y : ℕ) → a < 256 → b < 256 → x < 256 → y < 256 → wide_rows (wide_column a b x y) ≡ a ∷ b ∷ x ∷ y ∷ []
unfolding wide_rows
rows_of_column a b x y ha hb hx hy =
    let q1 : wide_column a b x y / 2 ^ 24 ≡ b + x * 2 ^ 8 + y * 2 ^ 32 = omega arith in
    let q2 : wide_column a b x y / 2 ^ 32 ≡ x + y * 2 ^ 24 = omega arith in
    let q3 : wide_column a b x y / 2 ^ 56 ≡ y = omega arith in
    let e0 : wide_column a b x y % 2 ^ 8 ≡ a = omega arith in
    let e1 : (b + x * 2 ^ 8 + y * 2 ^ 32) % 2 ^ 8 ≡ b = omega arith in
    let e2 : (x + y * 2 ^ 24) % 2 ^ 8 ≡ x = omega arith in
    let e3 : y % 2 ^ 8 ≡ y = omega arith in
    rw (e0, q1, e1, q2, e2, q3, e3)

-- and they are four bytes again
pub rows_made : {l : List ℕ} {w : ℕ} → w ≡ wide_column (get_or l 0 0) (get_or l 1 0) (get_or l 2 0) (get_or l 3 0) → length l ≡ 4
    → get_or l 0 0 < 256 → get_or l 1 0 < 256 → get_or l 2 0 < 256 → get_or l 3 0 < 256 → wide_rows w ≡ l
rows_made {l = []} q e ha hb hx hy = absurd (omega arith)
rows_made {l = a ∷ []} q e ha hb hx hy = absurd (omega arith)
rows_made {l = a ∷ b ∷ []} q e ha hb hx hy = absurd (omega arith)
rows_made {l = a ∷ b ∷ x ∷ []} q e ha hb hx hy = absurd (omega arith)
rows_made {l = a ∷ b ∷ x ∷ y ∷ []} q e ha hb hx hy = ap wide_rows q ∙ rows_of_column a b x y ha hb hx hy
rows_made {l = a ∷ b ∷ x ∷ y ∷ z ∷ l} q e ha hb hx hy = absurd (omega arith)

-- the halves of a wide column exchanged: its rows moved down by two
pub half_turned_column : (a b x y : ℕ) → a < 256 → b < 256 → x < 256 → y < 256 → half_turned (wide_column a b x y) ≡ wide_column x y a b
half_turned_column a b x y ha hb hx hy =
    let low : wide_column a b x y % 2 ^ 32 ≡ a + b * 2 ^ 24 = omega arith in
    let high : wide_column a b x y / 2 ^ 32 ≡ x + y * 2 ^ 24 = omega arith in
    rw (low, high) (omega arith)
