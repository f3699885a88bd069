-- The lengths of a dealing's records from its sizes and positions, and the roots as blocks of the input. Assumes nothing.
use mathlib.Core.Path.{◌≡◌, refl, sym, ap, ap₂, ◌∙◌}
use mathlib.Core.List.{List, [], ◌∷◌, ◌++◌, map}
use Prim.Native.Nat.{ℕ, zero, suc, ◌+◌, ◌-◌, ◌*◌, ◌/◌, ◌^◌, ◌≤◌, ◌<◌}
use native.Mathlib.Nat.{mul_comm}
use native.Mathlib.Omega.{arith}
use native.Mathlib.Numerals.{add-one}
use lib.ListN.{length, get_or, take, length-append}
use lib.Pow.{pow_pos}
use lib.Seq.{drop-cons}
use Rattle.field.proofs.BothKinds.{kind_laws}
use Rattle.field.specs.Bytes.{word_at, four_at}
use Rattle.number.specs.Reading.{part}
use Rattle.record.proofs.Lengths.{length-head, length-element, tree-start-long}
use Rattle.record.specs.Content.{NoiseTree, sibling_count}
use Rattle.record.specs.Reading.{items, block_at}
use Rattle.record.specs.Writing.{write_each, write_blocks, write_head, write_words, write_tree_start, write_tree, write_trees, write_noise, write_scalar}
use Rattle.record.specs.Inner.Lengths.{head_length, tree_start_bytes, tree_length, trees_length, noise_length, scalar_length}
use Rattle.record.specs.declared.Layout.{Layout}
use Rattle.tree.proofs.Blocks.{length-block, length-blocks}
use Rattle.tree.proofs.Laws.{length-siblings}
use Rattle.tree.proofs.Listed.{listed-none, listed-front, listed_cong, listed_get_d}
use Rattle.tree.specs.Child.{child}
use Rattle.tree.specs.Columns.{columns_at, columns_bytes, blocks_bytes}
use Rattle.tree.specs.Tree.{listed, siblings}
use Rattle.dealing.specs.Admitted.{Admitted}
use Rattle.dealing.specs.Inner.Steps.{layout_for}
use Rattle.dealing.specs.Input.{Input, delta_words, position}
use Rattle.dealing.specs.Parts.{noise_tree, noise_part, scalar_part}
use Rattle.dealing.specs.Vectors.{head, root}

-- ---- a tree

pub blocks-bytes : (xs : List (List (List ℕ))) → blocks_bytes xs ≡ write_blocks (map columns_bytes xs)
unfolding blocks_bytes write_each
blocks-bytes [] = refl
blocks-bytes (x ∷ xs) = ap (λ l. columns_bytes x ++ l) (blocks-bytes xs)

-- the siblings of a tree
pub siblings-long : (d g : ℕ) (root : List (List ℕ)) (p : ℕ) → length (blocks_bytes (siblings (2 ^ g) child (d / g) root p)) ≡ 16 * sibling_count d g
unfolding sibling_count
siblings-long d g root p =
    length-blocks (siblings (2 ^ g) child (d / g) root p)
    ∙ ap (λ n. n * 16) (length-siblings (2 ^ g) child (pow_pos g) (d / g) root p)
    ∙ mul_comm (sibling_count d g) 16

tree-length : (I : Input) (i base body : ℕ) → length (write_tree I.field base (noise_tree I i)) ≡ tree_length (layout_for I body) base (position I i)
unfolding tree_length noise_tree write_tree write_tree_start
tree-length I i base body =
    length-append (tree_start_bytes I.field (position I i - base) (get_or I.values i 0) (noise_tree I i).correction) (write_blocks (noise_tree I i).siblings)
    ∙ ap₂ (λ a b. a + b)
    (tree-start-long I.field base (position I i) (get_or I.values i 0) (noise_tree I i).correction ((kind_laws I.field).field.elements.length-words _))
    (ap length (sym (blocks-bytes (siblings (2 ^ I.branch_bits) child (I.depth / I.branch_bits) (root I i) (position I i))))
    ∙ siblings-long I.depth I.branch_bits (root I i) (position I i))

-- ---- the noise record

trees-length : (k : ℕ) (d : Layout) (n base : ℕ) (f : ℕ → NoiseTree)
    → ((i : ℕ) → i < n → (b : ℕ) → length (write_tree k b (f i)) ≡ tree_length d b (f i).position)
    → length (write_trees k base (listed n f)) ≡ trees_length d base (listed n (λ i. (f i).position))
unfolding write_trees trees_length
trees-length k d zero base f each = rw (listed-none f, listed-none (λ i. (f i).position))
trees-length k d (suc n) base f each =
    ap (λ l. length (write_trees k base l)) (listed-front n f)
    ∙ length-append (write_tree k base (f 0)) (write_trees k ((f 0).position + 1) (listed n (λ i. f (suc i))))
    ∙ ap₂ (λ a b. a + b) (each 0 (omega arith) base) (trees-length k d n ((f 0).position + 1) (λ i. f (suc i)) (λ i h. each (suc i) (omega arith)))
    ∙ sym (ap (trees_length d base) (listed-front n (λ i. (f i).position)))

module _ (I : Input) (A : Admitted I) where
  positions-listed : listed I.trees (λ i. (noise_tree I i).position) ≡ I.positions
  unfolding noise_tree
  positions-listed = ap (λ n. listed n (position I)) (sym A.positions) ∙ listed_get_d I.positions 0

  pub noise-bytes : {body : ℕ} → body ≡ head_length I.depth I.branch_bits I.trees I.terms I.outputs
      → noise_length (layout_for I body) I.positions ≡ length (write_noise (noise_part I))
  unfolding noise_length write_noise noise_tree
  noise-bytes {body} e =
      sym
      (length-append (write_head 1 (head I)) (write_trees I.field 0 (listed I.trees (noise_tree I)))
      ∙ ap₂ (λ a b. a + b) (length-head 1 (head I) A.code_key A.label ∙ sym e)
      (trees-length I.field (layout_for I body) I.trees 0 (noise_tree I) (λ i h b. tree-length I i b body)
      ∙ ap (trees_length (layout_for I body) 0) positions-listed))

-- ---- the scalar record

blocks-length : (n : ℕ) (f : ℕ → List ℕ) → ((i : ℕ) → i < n → length (f i) ≡ 16) → length (write_blocks (listed n f)) ≡ 16 * n
unfolding write_each
blocks-length zero f each = rw listed-none
blocks-length (suc n) f each =
    ap (λ l. length (write_blocks l)) (listed-front n f)
    ∙ length-append (f 0) (write_blocks (listed n (λ i. f (suc i))))
    ∙ ap₂ (λ a b. a + b) (each 0 (omega arith)) (blocks-length n (λ i. f (suc i)) (λ i h. each (suc i) (omega arith)))
    ∙ omega arith

pub scalar-bytes : (I : Input) → Admitted I → {body : ℕ} → body ≡ head_length I.depth I.branch_bits I.trees I.terms I.outputs
    → scalar_length (layout_for I body) ≡ length (write_scalar (scalar_part I))
unfolding scalar_length write_scalar
scalar-bytes I A e =
    let blocks = write_blocks (listed I.trees (λ i. columns_bytes (root I i))) in
    sym
    (length-append (write_head 2 (head I)) (write_words (delta_words I) ++ blocks)
    ∙ ap₂ (λ a b. a + b) (length-head 2 (head I) A.code_key A.label ∙ sym e)
    (length-append (write_words (delta_words I)) blocks
    ∙ ap₂ (λ a b. a + b) (length-element I.field (word_at I.delta 0) (word_at I.delta 8))
    (blocks-length I.trees (λ i. columns_bytes (root I i)) (λ i h. length-block (root I i)))))

-- the bytes at a place, one by one and four by four
part-one : (l : List ℕ) (at next n : ℕ) → next ≡ at + 1 → at < length l → part l at (suc n) ≡ get_or l at 0 ∷ part l next n
part-one l at next n e h = ap (take (suc n)) (drop-cons l at 0 h) ∙ ap (λ k. get_or l at 0 ∷ part l k n) (sym (e ∙ add-one at))

part-four : (l : List ℕ) (at next n : ℕ) → next ≡ at + 4 → at + 4 ≤ length l
    → part l at (suc (suc (suc (suc n)))) ≡ get_or l at 0 ∷ get_or l (at + 1) 0 ∷ get_or l (at + 2) 0 ∷ get_or l (at + 3) 0 ∷ part l next n
part-four l at next n e h =
    part-one l at (at + 1) (suc (suc (suc n))) refl (omega arith)
    ∙ ap (λ r. get_or l at 0 ∷ r)
    (part-one l (at + 1) (at + 2) (suc (suc n)) (omega arith) (omega arith)
    ∙ ap (λ r. get_or l (at + 1) 0 ∷ r)
    (part-one l (at + 2) (at + 3) (suc n) (omega arith) (omega arith)
    ∙ ap (λ r. get_or l (at + 2) 0 ∷ r) (part-one l (at + 3) next n (omega arith) (omega arith))))

-- the 16 bytes at a place are those of the block there
block-part : (l : List ℕ) (at : ℕ) → at + 16 ≤ length l → columns_bytes (columns_at l at) ≡ part l at 16
unfolding columns_bytes columns_at
block-part l at h =
    sym
    (part-four l at (at + 4) 12 refl (omega arith)
    ∙ ap (λ r. four_at (four_at l at []) 0 r)
    (part-four l (at + 4) (at + 8) 8 (omega arith) (omega arith)
    ∙ ap (λ r. four_at (four_at l (at + 4) []) 0 r)
    (part-four l (at + 8) (at + 12) 4 (omega arith) (omega arith)
    ∙ ap (λ r. four_at (four_at l (at + 8) []) 0 r) (part-four l (at + 12) (at + 16) 0 (omega arith) (omega arith)))))

-- items by index
items-listed : {A : Type 0} (item : List ℕ → ℕ → A) (size : ℕ) (s : List ℕ) (n at : ℕ) → items item size s at n ≡ listed n (λ i. item s (at + size * i))
unfolding items
items-listed item size s zero at = sym (listed-none _)
items-listed item size s (suc n) at =
    ap₂ (λ x l. x ∷ l) (ap (item s) (omega arith))
    (items-listed item size s n (at + size) ∙ listed_cong n _ _ (λ i h. ap (item s) (omega arith)))
    ∙ sym (listed-front n (λ i. item s (at + size * i)))

pub roots-blocks : (I : Input) → Admitted I → items block_at 16 I.roots 0 I.trees ≡ listed I.trees (λ i. columns_bytes (root I i))
roots-blocks I A =
    items-listed block_at 16 I.roots I.trees 0
    ∙ listed_cong I.trees _ _
    (λ i h. ap (block_at I.roots) {x = 0 + 16 * i} {y = 16 * i} (omega arith) ∙ sym (block-part I.roots (16 * i) (omega (arith, A.roots))))
