-- Vectors that agree at the places that are read give the same sums, accumulations, outputs and dealt vectors.
use mathlib.Core.Path.{◌≡◌, refl, ap, ap₂, ◌∙◌}
use mathlib.Core.Bool.{Bool, true, false}
use Prim.Native.Nat.{ℕ, zero, suc, ◌<◌}
use native.Mathlib.Omega.{arith}
use borrow.Author.Tests.{eqb-false}
use lib.Dec.{eqb}
use Rattle.algebra.specs.Choice.{choose}
use Rattle.algebra.specs.Expansion.{noise, punctured, whole}
use Rattle.algebra.specs.Group.{Group, Ring, Scaled}
use Rattle.algebra.specs.Row.{Row, RowWithin, output}
use Rattle.algebra.specs.Sum.{accumulate}
use Rattle.algebra.proofs.Sum.{sum_cong}

pub accumulate-same : (G : Group) (N : ℕ) (f g : ℕ → G.Of) → ((j : ℕ) → j < N → f j ≡ g j)
    → (j : ℕ) → j < N → accumulate G f j ≡ accumulate G g j
unfolding accumulate
accumulate-same G N f g e j h = sum_cong G (suc j) f g (λ i k. e i (omega arith))

pub output-same : (R : Ring) (S : Scaled R) (N : ℕ) (row : Row R) → RowWithin R N row → (f g : ℕ → S.group.Of)
    → ((j : ℕ) → j < N → f j ≡ g j) → output S row f ≡ output S row g
unfolding output
output-same R S N row W f g e =
    sum_cong S.group row.terms _ _ (λ i h. ap (S.scale (row.coefficient i)) (e (row.place i) (W.place-below i h)))

pub noise-same : (R : Ring) (t : ℕ) (p q : ℕ → ℕ) (y z : ℕ → R.group.Of) → ((i : ℕ) → i < t → p i ≡ q i)
    → ((i : ℕ) → i < t → y i ≡ z i) → (j : ℕ) → noise R t p y j ≡ noise R t q z j
unfolding noise
noise-same R zero p q y z e f j = refl
noise-same R (suc t) p q y z e f j =
    ap₂ (λ (s : ℕ) (x : R.group.Of). choose (eqb s j) x (noise R t p y j)) (e t (omega arith)) (f t (omega arith))
    ∙ ap (λ (x : R.group.Of). choose (eqb (q t) j) (z t) x) (noise-same R t p q y z (λ i h. e i (omega arith)) (λ i h. f i (omega arith)) j)

-- leaves need to agree only beside the positions
pub punctured-same : (R : Ring) (S : Scaled R) (t : ℕ) (p q : ℕ → ℕ) (c d : ℕ → S.group.Of) (leaf twig : ℕ → ℕ → S.group.Of) (j : ℕ)
    → ((i : ℕ) → i < t → p i ≡ q i) → ((i : ℕ) → i < t → c i ≡ d i) → ((i : ℕ) → i < t → (q i ≡ j → ⊥) → leaf i j ≡ twig i j)
    → punctured S t p c leaf j ≡ punctured S t q d twig j
unfolding punctured
punctured-same R S t p q c d leaf twig j e f g =
    sum_cong S.group t _ _
    (λ i h.
    ap₂ (λ (s : ℕ) (x : S.group.Of). choose (eqb s j) x (leaf i j)) (e i h) (f i h)
    ∙ beside (eqb (q i) j) (d i) (leaf i j) (twig i j) (λ k. g i h (eqb-false (q i) j k)))
  where
    beside : (t : Bool) (x a b : S.group.Of) → (t ≡ false → a ≡ b) → choose t x a ≡ choose t x b
    beside true x a b k = refl
    beside false x a b k = k refl

pub whole_same : (R : Ring) (S : Scaled R) (t : ℕ) (leaf twig : ℕ → ℕ → S.group.Of) (j : ℕ)
    → ((i : ℕ) → i < t → leaf i j ≡ twig i j) → whole S t leaf j ≡ whole S t twig j
unfolding whole
whole_same R S t leaf twig j e = sum_cong S.group t _ _ e
