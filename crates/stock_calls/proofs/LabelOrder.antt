-- Labels as LE numbers: the highest byte in which two differ decides.
use mathlib.Core.Path.{◌≡◌, refl, sym, ap, ◌∙◌}
use mathlib.Core.Bool.{false}
use mathlib.Core.List.{List, [], ◌∷◌}
use Prim.Native.Nat.{ℕ, zero, suc, ◌+◌, ◌*◌, ◌-◌, ◌≤◌, ◌<◌}
use native.Mathlib.Omega.{arith}
use lib.Dec.{ltb, eqb}
use lib.Pointwise.{pointwise}
use lib.ListN.{length, get_or, drop, drop_of_length-le}
use lib.Seq.{drop-cons}
use mir.Syntax.{w8}
use mir.Val.{Fits}
use borrow.Author.Tests.{lt-ltb, le-ltb, eq-eqb, ne_eqb}
use Rattle.stock.specs.declared.Label.{Label}
use Rattle.field.specs.Bytes.{le_number}
use Rattle.stock.specs.Label.{number_of}
use Rattle.stock.proofs.Cases.{by_order, by_equality}

-- two lists of bytes are equal as numbers from a place on
abbrev pub SameFrom : ℕ → List ℕ → List ℕ → Type 0
SameFrom i xs ys = le_number (drop i xs) ≡ le_number (drop i ys)

above_by : (i : ℕ) (xs ys : List ℕ) → i < length xs → i < length ys → ((k : ℕ) → Fits w8 (get_or ys k 0))
    → SameFrom (suc i) xs ys → get_or ys i 0 < get_or xs i 0 → le_number ys < le_number xs
unfolding le_number
above_by i [] ys h w fits same d = absurd (omega arith)
above_by i (x ∷ xs) [] h w fits same d = absurd (omega arith)
above_by zero (x ∷ xs) (y ∷ ys) h w fits same d = omega arith
above_by (suc i) (x ∷ xs) (y ∷ ys) h w fits same d =
    let ih = above_by i xs ys (omega arith) (omega arith) (λ k. fits (suc k)) same d in
    let f = fits 0 in
    omega arith

module _ (l o : Label) (left : ℕ) (fits-l : (k : ℕ) → Fits w8 (get_or l.bytes k 0)) (fits-o : (k : ℕ) → Fits w8 (get_or o.bytes k 0))
    (long-l : length l.bytes ≡ 16) (long-o : length o.bytes ≡ 16) (most : left ≤ 16) (some : 0 < left)
    (same : SameFrom left l.bytes o.bytes) where
  from_suc : SameFrom (suc (left - 1)) l.bytes o.bytes
  from_suc = let e : suc (left - 1) ≡ left = omega arith in rw e same

  pub label_decides : (get_or l.bytes (left - 1) 0 ≡ get_or o.bytes (left - 1) 0 → ⊥)
      → ltb (get_or o.bytes (left - 1) 0) (get_or l.bytes (left - 1) 0) ≡ ltb (number_of o) (number_of l)
  unfolding number_of
  label_decides differ =
      let x = get_or l.bytes (left - 1) 0 in
      let y = get_or o.bytes (left - 1) 0 in
      by_order y x
      (λ b.
      let w : le_number o.bytes < le_number l.bytes = above_by (left - 1) l.bytes o.bytes (omega arith) (omega arith) fits-o from_suc b in
      lt-ltb y x b ∙ sym (lt-ltb (le_number o.bytes) (le_number l.bytes) w))
      (λ a.
      let d : x < y = by_order x y (λ r. r) (λ r. absurd (differ (omega arith))) in
      let w : le_number l.bytes < le_number o.bytes = above_by (left - 1) o.bytes l.bytes (omega arith) (omega arith) fits-l (sym from_suc) d in
      le-ltb y x a ∙ sym (le-ltb (le_number o.bytes) (le_number l.bytes) (omega arith)))

  pub label_goes_on : get_or l.bytes (left - 1) 0 ≡ get_or o.bytes (left - 1) 0 → SameFrom (left - 1) l.bytes o.bytes
  unfolding le_number
  label_goes_on e =
      let f = from_suc in
      rw (drop-cons l.bytes (left - 1) 0 (omega arith), drop-cons o.bytes (left - 1) 0 (omega arith), e, f)

pub label-starts : (l o : Label) → length l.bytes ≡ 16 → length o.bytes ≡ 16 → SameFrom 16 l.bytes o.bytes
label-starts l o long-l long-o =
    ap le_number (drop_of_length-le l.bytes {i = 16} (omega arith) ∙ sym (drop_of_length-le o.bytes {i = 16} (omega arith)))

pub label-equal : (l o : Label) (left : ℕ) → left ≤ 0 → SameFrom left l.bytes o.bytes → false ≡ ltb (number_of o) (number_of l)
unfolding number_of
label-equal l o left none same =
    let z : left ≡ 0 = omega arith in
    let e : le_number l.bytes ≡ le_number o.bytes = rw z at same in
    sym (le-ltb (le_number o.bytes) (le_number l.bytes) (omega arith))

-- ---- is_same

-- as many bytes are the same exactly if their numbers are
pub same_numbers : (xs ys : List ℕ) → length xs ≡ length ys → ((k : ℕ) → Fits w8 (get_or xs k 0)) → ((k : ℕ) → Fits w8 (get_or ys k 0))
    → pointwise eqb xs ys ≡ eqb (le_number xs) (le_number ys)
unfolding le_number
same_numbers [] [] e f g = refl
same_numbers [] (y ∷ ys) e f g = absurd (omega arith)
same_numbers (x ∷ xs) [] e f g = absurd (omega arith)
same_numbers (x ∷ xs) (y ∷ ys) e f g =
    let rest = same_numbers xs ys (omega arith) (λ k. f (suc k)) (λ k. g (suc k)) in
    let a = f 0 in
    let b = g 0 in
    by_equality x y
    (λ p. rw (eq-eqb x y p, rest) (by_equality (le_number xs) (le_number ys)
    (λ q. rw (eq-eqb _ _ q, eq-eqb (x + 256 * le_number xs) (y + 256 * le_number ys) (omega arith)))
    (λ q. rw (ne_eqb _ _ q, ne_eqb (x + 256 * le_number xs) (y + 256 * le_number ys) (λ z. q (omega arith))))))
    (λ p. rw (ne_eqb x y p, ne_eqb (x + 256 * le_number xs) (y + 256 * le_number ys) (λ z. p (omega arith))))

pub label-same : (l o : Label) → length l.bytes ≡ 16 → length o.bytes ≡ 16 → ((k : ℕ) → Fits w8 (get_or l.bytes k 0)) → ((k : ℕ) → Fits w8 (get_or o.bytes k 0))
    → pointwise eqb l.bytes o.bytes ≡ eqb (number_of l) (number_of o)
unfolding number_of
label-same l o long-l long-o f g = same_numbers l.bytes o.bytes (omega arith) f g
