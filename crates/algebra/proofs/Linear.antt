-- Accumulation and rows' outputs are linear: of a sum of vectors they are the sum of those of each.
use mathlib.Core.Path.{◌≡◌, ap, ◌∙◌}
use Prim.Native.Nat.{ℕ, suc}
use Rattle.algebra.specs.Group.{Group, Element, GroupLaws, Ring, Scaled, ScaledLaws}
use Rattle.algebra.specs.Row.{Row, output}
use Rattle.algebra.specs.Sum.{sum, accumulate}
use Rattle.algebra.proofs.Sum.{sum-none, sum-suc, sum_cong, sum-element, sum_swap, scale-sum}

module _ (G : Group) (L : GroupLaws G) where
  pub accumulate-element : (f : ℕ → G.Of) (j : ℕ) → Element G (accumulate G f j)
  unfolding accumulate
  accumulate-element f j = sum-element G L (suc j) f

  pub accumulate-sum : (k : ℕ) (f : ℕ → ℕ → G.Of) (j : ℕ)
      → accumulate G (λ m. sum G k (λ i. f i m)) j ≡ sum G k (λ i. accumulate G (f i) j)
  unfolding accumulate
  accumulate-sum k f j = sum_swap G L (suc j) k (λ m i. f i m)

  -- the sum of one term
  pub sum_one : (f : ℕ → G.Of) → Element G (f 0) → sum G 1 f ≡ f 0
  sum_one f e = sum-suc G 0 f ∙ ap (λ (a : G.Of). G.add a (f 0)) (sum-none G f) ∙ L.zero-add (f 0) e

module _ (R : Ring) (S : Scaled R) (L : ScaledLaws R S) (row : Row R) where
  pub output-element : (f : ℕ → S.group.Of) → Element S.group (output S row f)
  unfolding output
  output-element f = sum-element S.group L.group row.terms _

  pub output-sum : (k : ℕ) (f : ℕ → ℕ → S.group.Of)
      → output S row (λ j. sum S.group k (λ i. f i j)) ≡ sum S.group k (λ i. output S row (f i))
  unfolding output
  output-sum k f =
      sum_cong S.group row.terms _ (λ t. sum S.group k (λ i. S.scale (row.coefficient t) (f i (row.place t))))
      (λ t h. scale-sum R S L (row.coefficient t) k (λ i. f i (row.place t)))
      ∙ sum_swap S.group L.group row.terms k (λ t i. S.scale (row.coefficient t) (f i (row.place t)))
