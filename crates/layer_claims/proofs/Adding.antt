-- What the calls of an order leave: the words of the sum of all layers' vectors. Each is accepted.
use mathlib.Core.Path.{◌≡◌, ap, ap₂, ◌∙◌}
use mathlib.Core.Bool.{true}
use mathlib.Core.List.{List}
use Prim.Native.Nat.{ℕ, ◌<◌}
use lib.Dec.{eqb}
use lib.ListN.{length}
use Rattle.algebra.specs.Coding.{Coding, flat}
use Rattle.algebra.specs.Group.{Group, Element, GroupLaws}
use Rattle.algebra.specs.Order.{Order, term, ◌into◌, Once}
use Rattle.algebra.specs.Sum.{sum}
use Rattle.algebra.proofs.Coding.{flat_cong}
use Rattle.algebra.proofs.Orders.{total, Below, once-below, term-below, left_below, right_below, total-element, total-once}
use Rattle.answer.specs.Outcome.{Outcome, wrote}
use Rattle.field.specs.ByNumber.{is_field}
use Rattle.layer_add.specs.Add.{AddLent, lent_add, add}
use Rattle.layer_add.proofs.Sums.{Additive, add-flat}
use Rattle.layer_claims.specs.Adding.{added_up, Accepted}

-- an order's calls are accepted and leave these words
pub record Leaves (field : ℕ) (words : ℕ → List ℕ) (o : Order) (sums : List ℕ) : Type 0 where
  pub left : added_up field words o ≡ sums
  pub accepted : Accepted field words o

-- k vectors of n elements each, and their words
module _ (field : ℕ) {G : Group} {C : Coding G.Of} (A : Additive (eqb field 1) G C) (L : GroupLaws G) (known : is_field field ≡ true)
    (k n : ℕ) (f : ℕ → ℕ → G.Of) (elements : (i j : ℕ) → Element G (f i j))
    (words : ℕ → List ℕ) (are : (i : ℕ) → i < k → words i ≡ flat C n (f i)) where
  abbrev totals : Order → ℕ → G.Of
  totals o j = total G (λ i. f i j) o

  added : (o : Order) → Below k o → Leaves field words o (flat C n (totals o))
  unfolding added_up Accepted total
  added (term i) none = record { left = are i (term-below k i none); accepted = tt }
  added (a into b) none =
      let none_left = left_below k a b none in
      let none_right = right_below k a b none in
      let from = added a none_left in
      let to = added b none_right in
      let call : add field (lent_add (added_up field words a) (added_up field words b))
      ≡ wrote (length (flat C n (totals b))) (lent_add (flat C n (totals a)) (flat C n (λ j. G.add (totals a j) (totals b j)))) =
      ap₂ (λ x y. add field (lent_add x y)) from.left to.left
      ∙ add-flat field A (totals a) (totals b) known n
      (λ j h. total-element G L k (λ i. f i j) (λ i b. elements i j) a none_left)
      (λ j h. total-element G L k (λ i. f i j) (λ i b. elements i j) b none_right) in
      record {
        left = ap (λ (o : Outcome ℕ AddLent). o.lent.into) call;
        accepted = (from.accepted, to.accepted, ap (λ (o : Outcome ℕ AddLent). o.number) call);
      }

  -- an order in which each layer stands once
  pub added-once : (o : Order) → Once k o → Leaves field words o (flat C n (λ j. sum G k (λ i. f i j)))
  added-once o once =
      let a = added o (once-below k o once) in
      record {
        left = a.left
            ∙ flat_cong C A.coding n _ _ (λ j h. total-once G L k (λ i. f i j) (λ i b. elements i j) o once);
        accepted = a.accepted;
      }
