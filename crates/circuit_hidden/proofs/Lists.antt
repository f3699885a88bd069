-- Lists made of a function, lists of triples, and combined lists. Assumes nothing.
use Prim.Native.Nat.{ℕ, zero, suc, ◌+◌, ◌*◌, ◌/◌, ◌%◌, ◌≤◌, ◌<◌}
use mathlib.Core.List.{List, [], ◌∷◌}
use mathlib.Core.Option.{some}
use mathlib.Core.Path.{◌≡◌, refl, sym, ap, ap₂, ◌∙◌}
use native.Mathlib.Omega.{arith}
use lib.Bits.{bit_xor, xor_comm}
use lib.ListN.{length, get_or, get_elem?, get_or-eq_default}
use lib.Seq.{ext_get_or}
use Rattle.algebra.specs.Coding.{at}
use Rattle.circuit_claims.proofs.Calls.{some_is, none-some}
use Rattle.circuit_claims.specs.Evaluation.{combined}
use Rattle.circuit_run.proofs.Bits.{xor-bit}
use Rattle.field.proofs.Xor.{xor-back}
use Rattle.number.proofs.Places.{split}
use Rattle.pads.proofs.Triples.Matching.{triple_eq}
use Rattle.pads.specs.Triples.Triple.{Triple, triple_bytes}

-- ---- the values of a function at 0 to n − 1

unfoldable pub from : {A : Type 0} → (ℕ → A) → ℕ → List A
from f zero = []
from f (suc n) = f 0 ∷ from (λ i. f (suc i)) n

pub from-length : {A : Type 0} (f : ℕ → A) (n : ℕ) → length (from f n) ≡ n
unfolding from
from-length f zero = refl
from-length f (suc n) = ap suc (from-length (λ i. f (suc i)) n)

pub from_get : (f : ℕ → ℕ) (n k : ℕ) → k < n → get_or (from f n) k 0 ≡ f k
unfolding from
from_get f zero k h = absurd (omega arith)
from_get f (suc n) zero h = refl
from_get f (suc n) (suc k) h = from_get (λ i. f (suc i)) n k (omega arith)

pub from_at : {A : Type 0} (f : ℕ → A) (n k : ℕ) → k < n → get_elem? (from f n) k ≡ some (f k)
unfolding from
from_at f zero k h = absurd (omega arith)
from_at f (suc n) zero h = refl
from_at f (suc n) (suc k) h = from_at (λ i. f (suc i)) n k (omega arith)

pub from_is : {A : Type 0} (f : ℕ → A) (n k : ℕ) {m : A} → get_elem? (from f n) k ≡ some m → (f k ≡ m) × (k < n)
unfolding from
from_is f zero k e = absurd (none-some e)
from_is f (suc n) zero e = (some_is e, omega arith)
from_is f (suc n) (suc k) e = let r = from_is (λ i. f (suc i)) n k e in (r.0, omega (arith, r.1))

-- ---- triples, byte by byte

abbrev pub part : Triple → ℕ → ℕ
part t zero = t.bit1
part t (suc zero) = t.bit2
part t (suc (suc n)) = t.bit3

pub byte_of : (l : List ℕ) (k : ℕ) → get_or l k 0 ≡ part (at triple_bytes l (k / 3)) (k % 3)
byte_of l k = of (k % 3) refl
  where
    of : (r : ℕ) → k % 3 ≡ r → get_or l k 0 ≡ part (at triple_bytes l (k / 3)) r
    of zero e = ap (λ (n : ℕ). get_or l n 0) {x = k} {y = k / 3 * 3} (omega arith)
    of (suc zero) e = ap (λ (n : ℕ). get_or l n 0) {x = k} {y = k / 3 * 3 + 1} (omega arith)
    of (suc (suc n)) e = ap (λ (n : ℕ). get_or l n 0) {x = k} {y = k / 3 * 3 + 2} (omega arith)

-- so many triples
abbrev pub triples_from : (ℕ → Triple) → ℕ → List ℕ
triples_from f n = from (λ k. part (f (k / 3)) (k % 3)) (3 * n)

module _ (f : ℕ → Triple) (n : ℕ) where
  pub triples-length : length (triples_from f n) ≡ 3 * n
  triples-length = from-length (λ k. part (f (k / 3)) (k % 3)) (3 * n)

  triple-byte : (k : ℕ) → k < 3 * n → get_or (triples_from f n) k 0 ≡ part (f (k / 3)) (k % 3)
  triple-byte = from_get (λ k. part (f (k / 3)) (k % 3)) (3 * n)

  pub triple_at : (j : ℕ) → j < n → at triple_bytes (triples_from f n) j ≡ f j
  triple_at j h = triple_eq (byte (j * 3) 0 (omega arith) (omega arith)) (byte (j * 3 + 1) 1 (omega arith) (omega arith))
      (byte (j * 3 + 2) 2 (omega arith) (omega arith))
    where
      byte : (k r : ℕ) → k ≡ j * 3 + r → r < 3 → get_or (triples_from f n) k 0 ≡ part (f j) r
      byte k r e l =
          triple-byte k (omega arith) ∙ ap₂ (λ (m s : ℕ). part (f m) s) {x = k / 3} {y = j} {u = k % 3} {v = r} (omega arith) (omega arith)

  pub triple-bits : ((j : ℕ) → j < n → (r : ℕ) → part (f j) r ≤ 1) → (k : ℕ) → get_or (triples_from f n) k 0 ≤ 1
  triple-bits bit k =
      split k (3 * n) (λ h. omega (arith, triple-byte k h, bit (k / 3) (omega arith) (k % 3)))
      (λ h.
      let past : length (triples_from f n) ≤ k = omega (arith, triples-length) in
      omega (arith, get_or-eq_default (triples_from f n) 0 past))

  -- there are no others
  pub triples_are : (T : List ℕ) → length T ≡ 3 * n → ((j : ℕ) → j < n → at triple_bytes T j ≡ f j) → T ≡ triples_from f n
  triples_are T l each =
      ext_get_or 0 T (triples_from f n) (l ∙ sym triples-length)
      (λ k h. byte_of T k ∙ ap (λ (t : Triple). part t (k % 3)) (each (k / 3) (omega arith)) ∙ sym (triple-byte k (omega arith)))

-- ---- exclusive or

-- one of two from the other and both combined
pub cancel : (x y : ℕ) {v : ℕ} → bit_xor x y ≡ v → y ≡ bit_xor x v
cancel x y e = sym (xor-back y x) ∙ ap (bit_xor x) (xor_comm y x ∙ e)

pub twice : (x y : ℕ) → bit_xor x (bit_xor x y) ≡ y
twice x y = sym (cancel x y refl)

pub combined_comm : (xs ys : List ℕ) → combined xs ys ≡ combined ys xs
unfolding combined
combined_comm [] [] = refl
combined_comm [] (y ∷ ys) = refl
combined_comm (x ∷ xs) [] = refl
combined_comm (x ∷ xs) (y ∷ ys) = ap₂ (λ (z : ℕ) (l : List ℕ). z ∷ l) (xor_comm x y) (combined_comm xs ys)

-- of lists of one length
pub combined_get : (xs ys : List ℕ) → length xs ≡ length ys → (k : ℕ) → get_or (combined xs ys) k 0 ≡ bit_xor (get_or xs k 0) (get_or ys k 0)
unfolding combined
combined_get [] [] e k = refl
combined_get [] (y ∷ ys) e k = absurd (omega arith)
combined_get (x ∷ xs) [] e k = absurd (omega arith)
combined_get (x ∷ xs) (y ∷ ys) e zero = refl
combined_get (x ∷ xs) (y ∷ ys) e (suc k) = combined_get xs ys (omega arith) k

pub combined_twice : (xs ys : List ℕ) → length xs ≡ length ys → combined xs (combined xs ys) ≡ ys
unfolding combined
combined_twice [] [] e = refl
combined_twice [] (y ∷ ys) e = absurd (omega arith)
combined_twice (x ∷ xs) [] e = absurd (omega arith)
combined_twice (x ∷ xs) (y ∷ ys) e = ap₂ (λ (z : ℕ) (l : List ℕ). z ∷ l) (twice x y) (combined_twice xs ys (omega arith))

pub combined-bit : (xs ys : List ℕ) → length xs ≡ length ys → ((k : ℕ) → get_or xs k 0 ≤ 1) → ((k : ℕ) → get_or ys k 0 ≤ 1)
    → (k : ℕ) → get_or (combined xs ys) k 0 ≤ 1
combined-bit xs ys e h g k = omega (arith, combined_get xs ys e k, xor-bit (h k) (g k))
