-- The entry of the code matrix by strips. Assumes nothing.
use mathlib.Core.Path.{◌≡◌, sym, ap, ◌∙◌}
use Prim.Native.Nat.{ℕ, suc, ◌*◌, ◌/◌, ◌≤◌, ◌<◌}
use native.Mathlib.Nat.{mul-le-mul_right}
use native.Mathlib.Omega.{arith}
use lib.Dec.{leb}
use borrow.Author.Tests.{le-leb, lt-leb}
use Rattle.algebra.specs.Choice.{choose}
use Rattle.algebra.specs.Group.{GroupLaws, Ring, Scaled, ScaledLaws}
use Rattle.algebra.specs.Row.{Row, entry, row_times}
use Rattle.algebra.specs.Sum.{sum}
use Rattle.algebra.proofs.Choice.{choose-true, choose-false}
use Rattle.algebra.proofs.Falling.{from_top, top_more, top_cong, top_zeros, top-all, sum-front}
use Rattle.algebra.proofs.Sum.{sum_zeros}
use Rattle.code.specs.Strips.{ReadsStrips}

module _ {R : Ring} (L : GroupLaws R.group) (N ℓ : ℕ) (row : Row R) (reads : ReadsStrips N ℓ row) where
  abbrev term_at : ℕ → ℕ → R.group.Of
  term_at j t = choose (leb j (row.place t)) (row.coefficient t) R.group.zero

  -- the entry at a place of strip i: the coefficients of the terms above, and that of term i where its place is not below
  pub strip-entry : (i j : ℕ) → i < ℓ → i * (N / ℓ) ≤ j → j < suc i * (N / ℓ)
      → entry row j ≡ R.group.add (from_top R.group row.coefficient ℓ (suc i)) (choose (leb j (row.place i)) (row.coefficient i) R.group.zero)
  unfolding entry
  strip-entry i j h low high =
      ap (λ (n : ℕ). sum R.group n (term_at j)) reads.terms
      ∙ sym (top-all R.group L (term_at j) ℓ)
      ∙ top_zeros R.group (term_at j) ℓ L i (omega arith)
      (λ t k. choose-false (leb j (row.place t)) (row.coefficient t) R.group.zero
      (lt-leb j (row.place t) (let m : suc t * (N / ℓ) ≤ i * (N / ℓ) = mul-le-mul_right (N / ℓ) k in omega (arith, reads.to t (omega arith)))))
      ∙ top_more R.group (term_at j) ℓ i h
      ∙ ap (λ (x : R.group.Of). R.group.add x (term_at j i))
      (top_cong R.group (term_at j) ℓ row.coefficient (suc i)
      (λ t k l. choose-true (leb j (row.place t)) (row.coefficient t) R.group.zero
      (le-leb j (row.place t) (let m : suc i * (N / ℓ) ≤ t * (N / ℓ) = mul-le-mul_right (N / ℓ) k in omega (arith, reads.from t l)))))

  -- the places left at the top have an entry of zero
  pub top-entry : (j : ℕ) → ℓ * (N / ℓ) ≤ j → entry row j ≡ R.group.zero
  unfolding entry
  top-entry j h =
      ap (λ (n : ℕ). sum R.group n (term_at j)) reads.terms
      ∙ sum_zeros R.group L ℓ (term_at j)
      (λ t k. choose-false (leb j (row.place t)) (row.coefficient t) R.group.zero (lt-leb j (row.place t) (omega (arith, reads.top t k))))

  -- so a row times a vector is a sum from the top strip down
  pub strips_times : (S : Scaled R) → ScaledLaws R S → ℓ * (N / ℓ) ≤ N → (f : ℕ → S.group.Of)
      → from_top S.group (λ j. S.scale (entry row j) (f j)) (ℓ * (N / ℓ)) 0 ≡ row_times S N (entry row) f
  unfolding row_times
  strips_times S SL h f =
      top-all S.group SL.group (λ j. S.scale (entry row j) (f j)) (ℓ * (N / ℓ))
      ∙ sym (sum-front S.group SL.group (λ j. S.scale (entry row j) (f j)) N (ℓ * (N / ℓ)) h
      (λ j k l. ap (λ (c : R.group.Of). S.scale c (f j)) (top-entry j k) ∙ SL.zero-scale (f j)))
