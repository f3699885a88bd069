-- Laws of `code` for its callers: what a row's terms are, what outputs depend on, and what the test of used words says.
use mathlib.Core.Bool.{true}
use mathlib.Core.List.{List}
use mathlib.Core.Path.{◌≡◌, ap}
use Prim.Native.Nat.{ℕ, ◌+◌, ◌≤◌, ◌<◌}
use borrow.Author.Tests.{lt-ltb, ltb-true}
use lib.ListN.{length, get_or}
use Rattle.algebra.specs.Group.{Ring, Scaled}
use Rattle.algebra.specs.Row.{Row, RowWithin, output}
use Rattle.algebra.proofs.Sum.{sum_cong}
use Rattle.field.specs.Kind.{Kind, KindLaws}
use Rattle.code.specs.Row.{term_place, row_of_blocks}
use Rattle.code.proofs.Strips.{place-within}
use Rattle.code.specs.declared.Shape.{Shape}
use Rattle.code.specs.declared.Window.{Window}
use Rattle.code.specs.Inner.Rows.{place_in}
use Rattle.code.specs.Inner.Used.{word_below, row_below, used_below, all_below}
use Rattle.algebra.proofs.Every.{every_at, every-all}

-- a row's output depends on the values at its places alone
pub output-places : {R : Ring} (S : Scaled R) (row : Row R) (f g : ℕ → S.group.Of)
    → ((i : ℕ) → i < row.terms → f (row.place i) ≡ g (row.place i)) → output S row f ≡ output S row g
unfolding output
output-places S row f g e =
    sum_cong S.group row.terms (λ i. S.scale (row.coefficient i) (f (row.place i)))
    (λ i. S.scale (row.coefficient i) (g (row.place i))) (λ i h. ap (S.scale (row.coefficient i)) (e i h))

-- what the test of a whole vector says of a word
pub all-word : (bound : ℕ) (words : List ℕ) → all_below bound words ≡ true → (j : ℕ) → j < length words → get_or words j 0 < bound
unfolding all_below
all-word bound words e j h = ltb-true _ _ (every_at (word_below bound words) j (length words) e h)

-- rows whose terms have any blocks
module _ (N ℓ : ℕ) where
  -- a place is below N
  pub place-below : (i : ℕ) (block : List (List ℕ)) → i < ℓ → ℓ ≤ N → term_place N ℓ i block < N
  unfolding term_place
  place-below i block h full = place-within N ℓ full i h _

  -- the terms of a row of either kind
  pub row_within : (K : Kind) → KindLaws K → (blocks : ℕ → List (List ℕ)) → ℓ ≤ N
      → RowWithin K.field.ring N (row_of_blocks K.field.ring K.coefficient N ℓ blocks)
  unfolding row_of_blocks
  row_within K L blocks full = record { place-below = λ i k. place-below i (blocks i) k full; coefficient-element = λ i k. L.coefficient-element _ }

  -- vectors that agree below N have the same outputs
  pub output-below : (K : Kind) (S : Scaled K.field.ring) (blocks : ℕ → List (List ℕ)) (f g : ℕ → S.group.Of) → ℓ ≤ N → ((j : ℕ) → j < N → f j ≡ g j)
      → output S (row_of_blocks K.field.ring K.coefficient N ℓ blocks) f ≡ output S (row_of_blocks K.field.ring K.coefficient N ℓ blocks) g
  unfolding row_of_blocks
  output-below K S blocks f g h e =
      output-places S (row_of_blocks K.field.ring K.coefficient N ℓ blocks) f g (λ i k. e (term_place N ℓ i (blocks i)) (place-below i (blocks i) k h))

module _ (keys : List (List (List ℕ))) (s : Shape) (bound : ℕ) (words : List ℕ) (w : Window) where
  -- where every word is below the bound no row can fail
  pub used_all : s.terms ≤ s.places → length words ≡ s.places → all_below bound words ≡ true → used_below bound words keys s w ≡ true
  unfolding used_below row_below
  used_all h size e =
      every-all (λ k. row_below bound words keys s (w.first + k)) w.count
      (λ k g. every-all (λ i. word_below bound words (place_in keys s (w.first + k) i)) s.terms
      (λ i m. lt-ltb _ _ (all-word bound words e (place_in keys s (w.first + k) i) (rw size (place-below s.places s.terms i _ m h)))))
