-- The vectors that each end's part of a dealing gives are the dealing's own.
use mathlib.Core.Path.{◌≡◌, refl, sym, ap, ap₂, ◌∙◌, subst}
use mathlib.Core.Bool.{Bool, true, false}
use mathlib.Core.List.{List, [], ◌∷◌, map, append-nil}
use Prim.Native.Nat.{ℕ, ◌/◌, ◌^◌, ◌<◌}
use lib.Dec.{eqb}
use lib.ListN.{get_or}
use lib.Pow.{pow_pos}
use Rattle.algebra.proofs.Same.{noise-same, punctured-same, whole_same}
use Rattle.algebra.specs.Choice.{choose}
use Rattle.algebra.specs.Coding.{Coding, CodingLaws, at}
use Rattle.field.proofs.BothKinds.{kind_laws}
use Rattle.field.specs.Kind.{KindLaws, binary_kind, prime_kind, kind_of}
use Rattle.aes128.specs.Cipher.{aes}
use Rattle.window.specs.Head.{kind}
use Rattle.tree.proofs.Blocks.{Square, columns_of_lem, square_of, xor_square}
use Rattle.tree.proofs.Listed.{listed_at}
use Rattle.tree.proofs.Laws.{Each, from-siblings, siblings_have}
use Rattle.tree.proofs.Levels.{level_leaves}
use Rattle.tree.specs.Child.{child, child_key}
use Rattle.tree.specs.Columns.{columns_at, columns_bytes}
use Rattle.tree.specs.Tree.{siblings, leaf_at, from_siblings}
use Rattle.field.specs.ByNumber.{element_of}
use Rattle.dealing.specs.Admitted.{Admitted}
use Rattle.dealing.specs.Input.{Input, position}
use Rattle.dealing.specs.Parts.{noise_tree, noise_part, scalar_part}
use Rattle.dealing.specs.Vectors.{head, field, value, root, leaf, tree_correction, mu, v0, w0}
use Rattle.ends.specs.Noise.Vectors as noise_end
use Rattle.ends.specs.Scalar.Vectors as scalar_end

-- a block's bytes read back
block_back : (s : List (List ℕ)) → Square s → columns_at (columns_bytes s) 0 ≡ s
block_back s q = ap (λ l. columns_at l 0) (sym (append-nil (columns_bytes s))) ∙ columns_of_lem [] [] 0 s refl q

blocks-back : (xs : List (List (List ℕ))) → Each Square xs → map (λ s. columns_at s 0) (map columns_bytes xs) ≡ xs
blocks-back [] q = refl
blocks-back (x ∷ xs) q = ap₂ (λ a l. a ∷ l) (block_back x q.0) (blocks-back xs q.1)

-- an element's words read back
words_back : {A : Type 0} (C : Coding A) → CodingLaws C → (a : A) → C.read (C.words a) 0 ≡ a
words_back C L a = ap (λ l. C.read l 0) (sym (append-nil (C.words a))) ∙ L.read-words [] a []

-- Δ's two words, as the scalar end's offline call writes them, read back as Δ
pub delta-told : (f : ℕ) (d : List ℕ)
    → at (kind_of f).field.elements (get_or d 0 0 ∷ choose (eqb f 1) (get_or d 1 0) 0 ∷ []) 0 ≡ (kind_of f).field.elements.read d 0
delta-told f d = of (eqb f 1)
  where
    of : (b : Bool) → at (choose b binary_kind prime_kind).field.elements (get_or d 0 0 ∷ choose b (get_or d 1 0) 0 ∷ []) 0
        ≡ (choose b binary_kind prime_kind).field.elements.read d 0
    of true = refl
    of false = refl

-- and they are the dealing's: its two words in field 1, its one and a 0 in field 2
pub delta-whole : (f a b : ℕ)
    → (get_or (element_of f a b) 0 0 ∷ choose (eqb f 1) (get_or (element_of f a b) 1 0) 0 ∷ [])
    ≡ (get_or (element_of f a b) 0 0 ∷ get_or (element_of f a b) 1 0 ∷ [])
delta-whole f a b = of (eqb f 1)
  where
    of : (t : Bool) → (get_or (choose t (a ∷ b ∷ []) (a ∷ [])) 0 0 ∷ choose t (get_or (choose t (a ∷ b ∷ []) (a ∷ [])) 1 0) 0 ∷ [])
        ≡ (get_or (choose t (a ∷ b ∷ []) (a ∷ [])) 0 0 ∷ get_or (choose t (a ∷ b ∷ []) (a ∷ [])) 1 0 ∷ [])
    of true = refl
    of false = refl

child_square : {k : ℕ} (c : ℕ) → c < k → (s : List (List ℕ)) → Square s → Square (child c s)
unfolding child
child_square c h s q = xor_square (aes (child_key c) s) s

root_square : (I : Input) (i : ℕ) → Square (root I i)
unfolding columns_at
root_square I i = square_of refl refl refl refl

module _ (I : Input) (A : Admitted I) where
  laws : KindLaws (kind (head I))
  laws = kind_laws I.field

  -- a place of the tree, by its depth and by its levels
  in_tree : {j : ℕ} → j < 2 ^ I.depth → j < (2 ^ I.branch_bits) ^ (I.depth / I.branch_bits)
  in_tree {j} h = subst (λ n. j < n) (sym (level_leaves I.branch_bits I.depth A.branch.2)) h

  -- tree i of the noise end's part
  tree-at : (i : ℕ) → i < I.trees → noise_end.tree (noise_part I) i ≡ noise_tree I i
  tree-at i h = listed_at I.trees (noise_tree I) _ i h

  position_at : (i : ℕ) → i < I.trees → (noise_end.tree (noise_part I) i).position ≡ position I i
  unfolding noise_tree
  position_at i h = ap (λ t. t.position) (tree-at i h)

  value-at : (i : ℕ) → i < I.trees → noise_end.value (noise_part I) i ≡ value I i
  unfolding noise_tree
  value-at i h =
      ap (λ t. (field I).noise_values.read (t.value ∷ []) 0) (tree-at i h) ∙ sym (laws.noise-read I.values i)

  correction_at : (i : ℕ) → i < I.trees → noise_end.correction (noise_part I) i ≡ tree_correction I i
  unfolding noise_tree
  correction_at i h =
      ap (λ t. (field I).elements.read t.correction 0) (tree-at i h)
      ∙ words_back (field I).elements laws.field.elements (tree_correction I i)

  leaf-at : (i j : ℕ) → i < I.trees → j < 2 ^ I.depth → (position I i ≡ j → ⊥) → noise_end.leaf (noise_part I) i j ≡ leaf I i j
  unfolding noise_tree
  leaf-at i j h b n =
      ap
      (λ t. (kind (head I)).leaf (from_siblings (2 ^ I.branch_bits) child [] (map (λ s. columns_at s 0) t.siblings) (I.depth / I.branch_bits) t.position j))
      (tree-at i h)
      ∙ ap (λ l. (kind (head I)).leaf (from_siblings (2 ^ I.branch_bits) child [] l (I.depth / I.branch_bits) (position I i) j))
      (blocks-back (siblings (2 ^ I.branch_bits) child (I.depth / I.branch_bits) (root I i) (position I i))
      (siblings_have (2 ^ I.branch_bits) child (pow_pos I.branch_bits) Square child_square (I.depth / I.branch_bits) (root I i) (position I i) (root_square I i)))
      ∙ ap (kind (head I)).leaf (from-siblings child [] (2 ^ I.branch_bits) (I.depth / I.branch_bits) (root I i) (position I i) j (in_tree (A.below i h)) (in_tree b) n)

  -- μ of the noise end's part is the dealing's
  pub mu_dealt : (j : ℕ) → noise_end.mu (noise_part I) j ≡ mu I j
  unfolding noise_end.mu mu
  mu_dealt j = noise-same (field I).ring I.trees _ (position I) _ (value I) position_at value-at j

  -- so is v0
  pub v0_dealt : (j : ℕ) → j < 2 ^ I.depth → noise_end.v0 (noise_part I) j ≡ v0 I j
  unfolding noise_end.v0 v0
  v0_dealt j b =
      punctured-same (field I).ring (field I).scaled I.trees _ (position I) _ (tree_correction I) _ (leaf I) j
      position_at correction_at (λ i h n. leaf-at i j h b n)

  -- and w0 of the scalar end's part
  pub w0_dealt : (j : ℕ) → scalar_end.w0 (scalar_part I) j ≡ w0 I j
  unfolding scalar_end.w0 w0
  w0_dealt j =
      whole_same (field I).ring (field I).scaled I.trees _ (leaf I) j
      (λ i h.
      ap (λ b. (kind (head I)).leaf (leaf_at (2 ^ I.branch_bits) child (I.depth / I.branch_bits) (columns_at b 0) j)) (listed_at I.trees (λ i. columns_bytes (root I i)) [] i h)
      ∙ ap (λ r. (kind (head I)).leaf (leaf_at (2 ^ I.branch_bits) child (I.depth / I.branch_bits) r j)) (block_back (root I i) (root_square I i)))
