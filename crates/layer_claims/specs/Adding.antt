-- Vectors of all layers added up by calls of `expander_add`, in any order and any bracketing: threads add partial sums.
use Rattle.std.specs.Prelude.{◌≡◌, List, ℕ}
use Rattle.algebra.specs.Order.{Order, term, ◌into◌}
use Rattle.layer_add.specs.Add.{lent_add, add}

-- the words that the calls of an order leave, from the words of each layer: `a into b` adds what a left into what b left
unfoldable pub added_up : ℕ → (ℕ → List ℕ) → Order → List ℕ
added_up field words (term i) = words i
added_up field words (a into b) = (add field (lent_add (added_up field words a) (added_up field words b))).lent.into

-- all its calls are accepted
unfoldable pub Accepted : ℕ → (ℕ → List ℕ) → Order → Type 0
Accepted field words (term i) = Unit {0}
Accepted field words (a into b) =
    Accepted field words a × Accepted field words b × ((add field (lent_add (added_up field words a) (added_up field words b))).number ≡ 0)
