-- The elements of leaves, and leaves added into the words of a buffer (document 01, 'Trees', 'Offline and online'), in either
-- field.
use Rattle.std.specs.Prelude.{List, ℕ, eqb}
use Rattle.algebra.specs.Choice.{choose}
use Rattle.algebra.specs.Coding.{at, flat}
use Rattle.algebra.specs.Field.{Field, Value}
use Rattle.tree.specs.Tree.{leaf_at, from_siblings}

-- the element of leaf j, `element` being the field's element of a block
unfoldable pub leaf_element : {A E : Type 0} → (A → E) → ℕ → (ℕ → A → A) → ℕ → A → ℕ → E
leaf_element element k child d root j = element (leaf_at k child d root j)

-- the element at leaf j of a tree punctured at s, the correction standing in for the punctured leaf
unfoldable pub punctured_element : {A E : Type 0} → (A → E) → ℕ → (ℕ → A → A) → A → List A → ℕ → ℕ → E → ℕ → E
punctured_element element k child none xs d s correction j =
    choose (eqb s j) correction (element (from_siblings k child none xs d s j))

-- the words of n elements after f at 0 to n − 1 is added to them
unfoldable pub added : (F : Field) → ℕ → (ℕ → Value F) → List ℕ → List ℕ
added F n f words = flat F.elements n (λ j. F.scaled.group.add (at F.elements words j) (f j))
