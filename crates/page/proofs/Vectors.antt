-- The page's μ, v0 and w0 are the library's, of records with the same content.
use Prim.Native.Nat.{ℕ, zero, suc, ◌/◌, ◌^◌}
use mathlib.Core.Path.{◌≡◌, refl, sym, ap, ◌∙◌}
use mathlib.Core.List.{List, [], ◌∷◌, map}
use lib.Dec.{eqb}
use lib.ListN.{get_or, get_or-map}
use Rattle.algebra.specs.Expansion.{noise, punctured, whole}
use Rattle.record.specs.Content.{NoiseTree, NoisePart, ScalarPart, tree_in}
use Rattle.tree.specs.Columns.{columns_at}
use Rattle.window.specs.Head.{field_of, kind}
use Rattle.ends.specs.Noise.Vectors as noise_end
use Rattle.ends.specs.Scalar.Vectors as scalar_end
use Rattle.page.specs.Document01 as page
use Rattle.page.proofs.Basics.{if_both}
use Rattle.page.proofs.Trees.{tidy, leaf-at, punctured_is}
use Rattle.page.proofs.Fields.{KindIs, kind_is, sum_is, sum-reads}
use Rattle.page.proofs.Rows.{head}

abbrev pub tree : NoiseTree → page.Tree
tree x = record { position = x.position; value = x.value; correction = x.correction; siblings = x.siblings }

abbrev pub noise_record : NoisePart → page.Head × List page.Tree
noise_record P = (head P.head, map tree P.trees)

abbrev pub scalar_record : ScalarPart → page.Head × List ℕ × List (List ℕ)
scalar_record P = (head P.head, P.delta, P.roots)

pub tree-at : (l : List NoiseTree) (i : ℕ) → page.tree_at (map tree l) i ≡ tree (tree_in l i)
tree-at l i = get_or-map tree l i (record { position = 0; value = 0; correction = []; siblings = [] })

module _ (P : NoisePart) where
  abbrev same : KindIs (page.field_of P.head.field) (kind P.head)
  same = kind_is P.head.field

  mu_to : (t j : ℕ) → page.μ (map tree P.trees) t j
      ≡ (field_of P.head).noise_values.words (noise (field_of P.head).ring t (λ i. (noise_end.tree P i).position) (noise_end.value P) j)
  unfolding page.μ noise
  mu_to zero j = same.none
  mu_to (suc t) j =
      ap (λ (x : page.Tree). page.when◌then◌else◌ (eqb x.position j) (x.value ∷ []) (page.μ (map tree P.trees) t j)) (tree-at P.trees t)
      ∙ if_both (λ a b. a ≡ (field_of P.head).noise_values.words b) (eqb (noise_end.tree P t).position j) _ _ _ _
      (sym (same.one _ ∙ ap (λ (y : ℕ). y ∷ []) (same.num_read _ 0))) (mu_to t j)

  pub mu_is : (j : ℕ) → page.μ (map tree P.trees) P.head.trees j ≡ (field_of P.head).noise_values.words (noise_end.mu P j)
  unfolding noise_end.mu
  mu_is = mu_to P.head.trees

  pub v0_is : (j : ℕ) → page.v0 (head P.head) (map tree P.trees) j ≡ (field_of P.head).elements.words (noise_end.v0 P j)
  unfolding page.v0 noise_end.v0 punctured
  v0_is j =
      sum-reads same.elements P.head.trees _ _ λ i.
      ap (λ (x : page.Tree). (field_of P.head).elements.read (page.when◌then◌else◌ (eqb x.position j) x.correction
      ((page.F (head P.head)).leaf_element
      (page.leaf_beside (2 ^ P.head.branch_bits) (P.head.depth / P.head.branch_bits) x.siblings x.position j))) 0)
      (tree-at P.trees i)
      ∙ if_both (λ a b. (field_of P.head).elements.read a 0 ≡ b) (eqb (noise_end.tree P i).position j) _ _ _ _
      refl
      (ap (λ (l : List ℕ). (field_of P.head).elements.read l 0)
      (same.leaf _ _ (punctured_is (2 ^ P.head.branch_bits) (P.head.depth / P.head.branch_bits) (noise_end.tree P i).siblings (noise_end.tree P i).position j))
      ∙ same.back _)

pub w0_is : (P : ScalarPart) (j : ℕ) → page.w0 (head P.head) P.roots j ≡ (field_of P.head).elements.words (scalar_end.w0 P j)
unfolding page.w0 scalar_end.w0 whole columns_at
w0_is P j =
    sum_is (kind_is P.head.field).elements P.head.trees _ _ λ i.
    (kind_is P.head.field).leaf _ _
    (ap tidy (leaf-at (2 ^ P.head.branch_bits) (P.head.depth / P.head.branch_bits) (get_or P.roots i []) j))
