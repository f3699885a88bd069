-- Rows of the code, a row's output, and the code matrix (document 01, 'Offline and online').
use Rattle.std.specs.Prelude.{ℕ, ◌<◌, leb}
use Rattle.algebra.specs.Choice.{choose}
use Rattle.algebra.specs.Group.{Element, Ring, Scaled}
use Rattle.algebra.specs.Sum.{sum}

-- a row: how many terms it has, and the place and the coefficient of each
pub record Row (R : Ring) : Type 0 where
  pub terms : ℕ
  pub place : ℕ → ℕ
  pub coefficient : ℕ → R.group.Of

-- every term's place is below N and its coefficient is an element
pub record RowWithin (R : Ring) (N : ℕ) (row : Row R) : Type 0 where
  pub place-below : (i : ℕ) → i < row.terms → row.place i < N
  pub coefficient-element : (i : ℕ) → i < row.terms → Element R.group (row.coefficient i)

-- a row's output: the sum of coefficient × value over its terms; repeated places count each time
unfoldable pub output : {R : Ring} (S : Scaled R) → Row R → (ℕ → S.group.Of) → S.group.Of
output S row f = sum S.group row.terms (λ i. S.scale (row.coefficient i) (f (row.place i)))

-- the code matrix at place j of a row: the sum of the coefficients of those terms whose place is j or more
unfoldable pub entry : {R : Ring} → Row R → ℕ → R.group.Of
entry {R} row j = sum R.group row.terms (λ i. choose (leb j (row.place i)) (row.coefficient i) R.group.zero)

-- a matrix row of N entries times a vector
unfoldable pub row_times : {R : Ring} (S : Scaled R) → ℕ → (ℕ → R.group.Of) → (ℕ → S.group.Of) → S.group.Of
row_times S N m f = sum S.group N (λ j. S.scale (m j) (f j))
