-- u, v and w of a dealing, over the page, are those of the workings, so that w = Δu + v.
use Prim.Native.Nat.{ℕ, zero, suc, ◌/◌, ◌^◌, ◌<◌}
use native.Mathlib.Omega.{arith}
use mathlib.Core.Path.{◌≡◌, sym, ap, ap₂, ◌∙◌}
use mathlib.Core.List.{List, [], ◌∷◌}
use lib.Dec.{eqb, leb}
use lib.ListN.{get_or}
use Rattle.algebra.specs.Expansion as expansion
use Rattle.algebra.specs.Row as rows
use Rattle.code.specs.Row.{row_of_blocks}
use Rattle.field.specs.Kind.{kind_of}
use Rattle.tree.specs.Columns.{columns_at}
use Rattle.tree.specs.Tree.{listed}
use Rattle.tree.specs.Tree as trees
use Rattle.tree.specs.Child.{child}
use Rattle.tree.proofs.Listed.{listed_at}
use Rattle.dealing.specs.Input.{Input, input_with, position}
use Rattle.dealing.specs.Vectors as vectors
use Rattle.dealing.specs.Deal.{deal}
use Rattle.window.specs.Head.{row}
use Rattle.dealing.proofs.Laws.{deal-number}
use Rattle.claims.proofs.Outputs.{admitted-correlated}
use Rattle.page.specs.Document01 as page
use Rattle.page_claims.specs.Statements as says
use Rattle.page.proofs.Basics.{if_both}
use Rattle.page.proofs.Trees.{tidy, leaf-at}
use Rattle.page.proofs.Fields.{KindIs, kind_is, sum_is, accumulated_is}
use Rattle.page.proofs.Rows.{head, place_is, coefficient_is, output_is}
use Rattle.page.proofs.Dealing.{input, root_is, scalar-words, delta-words, correction_is, deal_is}

module _ (I : Input) where
  abbrev same : KindIs (page.field_of I.field) (kind_of I.field)
  same = kind_is I.field

  leaf_is : (i j : ℕ) → page.leaf_element_of (input I) i j ≡ (vectors.field I).elements.words (vectors.leaf I i j)
  unfolding columns_at
  leaf_is i j =
      same.leaf _ _
      (ap tidy (leaf-at (2 ^ I.branch_bits) (I.depth / I.branch_bits) (page.root (input I) i) j
      ∙ ap (λ r. trees.leaf_at (2 ^ I.branch_bits) child (I.depth / I.branch_bits) r j) (root_is I i)))

  noise_to : (t : ℕ) → ((i : ℕ) → i < t → i < I.trees) → (j : ℕ)
      → page.μ (page.list I.trees (page.dealt_tree (input I))) t j
      ≡ (vectors.field I).noise_values.words (expansion.noise (vectors.field I).ring t (position I) (vectors.value I) j)
  unfolding page.μ expansion.noise page.list listed page.dealt_tree
  noise_to zero below j = same.none
  noise_to (suc t) below j =
      ap (λ (x : page.Tree). page.when◌then◌else◌ (eqb x.position j) (x.value ∷ [])
      (page.μ (page.list I.trees (page.dealt_tree (input I))) t j))
      (listed_at I.trees (page.dealt_tree (input I)) _ t (below t (omega arith)))
      ∙ if_both (λ a b. a ≡ (vectors.field I).noise_values.words b) (eqb (position I t) j) _ _ _ _
      (sym (same.one _ ∙ ap (λ (y : ℕ). y ∷ []) (same.num_read _ t))) (noise_to t (λ i k. below i (omega arith)) j)

  pub noise_is : (j : ℕ) → page.μ (page.dealt_trees (input I)) I.trees j ≡ (vectors.field I).noise_values.words (vectors.mu I j)
  unfolding vectors.mu
  noise_is = noise_to I.trees (λ i k. k)

  v0_is : (j : ℕ)
      → page.sum (page.field_of I.field).elements I.trees
      (λ i. page.when◌then◌else◌ (eqb (position I i) j) (page.dealt_tree (input I) i).correction (page.leaf_element_of (input I) i j))
      ≡ (vectors.field I).elements.words (vectors.v0 I j)
  unfolding vectors.v0 expansion.punctured
  v0_is j =
      sum_is same.elements I.trees _ _ λ i.
      if_both (λ a b. a ≡ (vectors.field I).elements.words b) (eqb (position I i) j) _ _ _ _ (correction_is I i) (leaf_is i j)

  w0_is : (j : ℕ) → page.sum (page.field_of I.field).elements I.trees (λ i. page.leaf_element_of (input I) i j)
      ≡ (vectors.field I).elements.words (vectors.w0 I j)
  unfolding vectors.w0 expansion.whole
  w0_is j = sum_is same.elements I.trees _ _ λ i. leaf_is i j

  pub v_is : (x : ℕ) → says.v (input I) x ≡ (vectors.field I).elements.words (vectors.v I x)
  unfolding says.v vectors.v
  v_is x = output_is (vectors.head I) x same.elements _ _ (accumulated_is same.elements _ _ v0_is)

  pub w_is : (x : ℕ) → says.w (input I) x ≡ (vectors.field I).elements.words (vectors.w I x)
  unfolding says.w vectors.w
  w_is x = output_is (vectors.head I) x same.elements _ _ (accumulated_is same.elements _ _ w0_is)

  pub entry_is : (x j : ℕ) → says.entry (head (vectors.head I)) x j ≡ same.num (rows.entry (row (vectors.head I) x) j)
  unfolding says.entry rows.entry row_of_blocks
  entry_is x j =
      ap (λ (l : List ℕ). get_or l 0 0)
      (sum_is same.noise_values I.terms _ _ (λ i.
      ap (λ (q : ℕ). page.when◌then◌else◌ (leb j q) ((page.field_of I.field).coefficient (page.word (page.term (head (vectors.head I)) x i) 8) ∷ []) (0 ∷ []))
      (place_is (vectors.head I) x i)
      ∙ if_both (λ a b. a ≡ (vectors.field I).noise_values.words b) (leb j ((row (vectors.head I) x).place i)) _ _ _ _
      (ap (λ (c : ℕ). c ∷ []) (coefficient_is (vectors.head I) x i) ∙ sym (same.one _)) same.none)
      ∙ same.one _)

  pub u_is : (x : ℕ) → says.u (input I) x ≡ (vectors.field I).noise_values.words (vectors.u I x)
  unfolding says.u vectors.u rows.row_times
  u_is x =
      sum_is same.noise_values (2 ^ I.depth) _ _ λ j.
      ap₂ (page.field_of I.field).noise_values.multiple (entry_is x j) (noise_is j)
      ∙ same.noise_values.multiple (rows.entry (row (vectors.head I) x) j) (vectors.mu I j)

  -- at every index
  pub outputs_hold : (a b : List ℕ) → (page.deal (input I) a b).number ≡ 0 → (x : ℕ)
      → says.Correlated (input I) (says.u (input I) x) (says.v (input I) x) (says.w (input I) x)
  outputs_hold a b e x =
      let z = sym (ap (λ (r : page.Return). r.number) (deal_is I a b)) ∙ e in
      w_is x
      ∙ ap (vectors.field I).elements.words (admitted-correlated I (deal-number I a b z).admitted x)
      ∙ sym (same.elements.plus _ (vectors.v I x))
      ∙ ap₂ (page.field_of I.field).elements.plus
      (sym (same.elements.multiple (vectors.u I x) (vectors.delta I))
      ∙ ap₂ (page.field_of I.field).elements.multiple (sym (ap (λ (l : List ℕ). get_or l 0 0) (u_is x ∙ same.one _))) (sym (scalar-words I ∙ delta-words I)))
      (sym (v_is x))

-- the workings' input of a page's
abbrev pub input_of : page.Input → Input
input_of D =
    let h = D.head in
    input_with h.field h.d h.g h.t h.ℓ h.n D.roots D.positions D.values D.Δ h.code_key h.label
