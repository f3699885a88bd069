-- What a row reads (document 02, 7): exactly ℓ different places, one in each strip, and none of the places left at the top.
use Rattle.std.specs.Prelude.{List, ◌≡◌, ℕ, suc, ◌*◌, ◌≤◌, ◌<◌}
use Rattle.algebra.specs.Group.{Ring}
use Rattle.algebra.specs.Row.{Row}
use Rattle.code.specs.Row.{strip, row_of}

-- a row that reads one place in each of ℓ strips of N places
pub record ReadsStrips (N ℓ : ℕ) {R : Ring} (row : Row R) : Type 0 where
  -- its terms are ℓ
  pub terms : row.terms ≡ ℓ
  -- term i has its place in strip i
  pub from : (i : ℕ) → i < ℓ → i * strip N ℓ ≤ row.place i
  pub to : (i : ℕ) → i < ℓ → row.place i < suc i * strip N ℓ
  -- so places left at the top are not read
  pub top : (i : ℕ) → i < ℓ → row.place i < ℓ * strip N ℓ
  -- every place is one of the N
  pub within : (i : ℕ) → i < ℓ → row.place i < N
  -- the places of different terms are different
  pub different : (i j : ℕ) → i < ℓ → j < ℓ → row.place i ≡ row.place j → i ≡ j

-- every row of a code whose ℓ is 1 to N reads exactly ℓ different places, under any code key and in any field
abbrev pub FullRows : Type 1
FullRows = (R : Ring) (coefficient_of : ℕ → R.group.Of) (key : List (List ℕ)) (N ℓ x : ℕ) → 1 ≤ ℓ → ℓ ≤ N
    → ReadsStrips N ℓ (row_of R coefficient_of key N ℓ x)
