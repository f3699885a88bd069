-- What expanding a tree gives (document 01, 'Trees', 'Dealing', 'Offline and online'), for any number k of children and any child
-- function: the walk to a leaf, the leaves of a tree added into words, and those of a punctured tree. The contracts of `walk` in
-- crate `tree_walk`, and of `add_leaves` and `add_punctured` in crate `tree_fill`, cite these with `child_by` the round keys that they are
-- lent, whatever those are (document 02, 3).
use Rattle.std.specs.Prelude.{List, [], ℕ, ◌-◌, ◌*◌, ◌^◌}
use Rattle.std.proofs.lemmas.List.Edits.{sets}
use Rattle.algebra.specs.Field.{Value}
use Rattle.field.specs.Kind.{Kind}
use Rattle.tree.specs.Tree.{leaf_at, siblings}
use Rattle.tree.specs.Columns.{blocks_bytes, siblings_at}
use Rattle.tree.specs.Added.{leaf_element, punctured_element, added}
use Rattle.tree.specs.declared.punctured.Punctured.{Punctured}

-- what stands after a walk: the leaf, and the bytes that the siblings are written to
pub record Walk : Type 0 where
  pub leaf : List (List ℕ)
  pub bytes : List ℕ

abbrev pub walk : List (List ℕ) → List ℕ → Walk
walk leaf bytes = record { leaf = leaf; bytes = bytes }

-- the leaf at the tree's position, and bytes with the siblings beside the path to it written from their place on
unfoldable pub walked : ℕ → (ℕ → List (List ℕ) → List (List ℕ)) → List (List ℕ) → Punctured → List ℕ → Walk
walked k child root tree bytes =
    walk (leaf_at k child tree.levels root tree.position)
    (sets bytes tree.at (blocks_bytes (siblings k child tree.levels root tree.position)))

-- the words of a field's elements after the leaves of the tree below a root are added to them
abbrev pub leaves_added : Kind → ℕ → (ℕ → List (List ℕ) → List (List ℕ)) → ℕ → List (List ℕ) → List ℕ → List ℕ
leaves_added K k child levels root words = added K.field (k ^ levels) (leaf_element K.leaf k child levels root) words

-- those words after a punctured tree is added: the correction at its position, the other leaves from the siblings among bytes
abbrev pub punctured_added : (K : Kind) → ℕ → (ℕ → List (List ℕ) → List (List ℕ)) → Punctured → List ℕ → Value K.field → List ℕ → List ℕ
punctured_added K k child tree bytes correction words =
    added K.field (k ^ tree.levels)
    (punctured_element K.leaf k child [] (siblings_at bytes tree.at (tree.levels * (k - 1))) tree.levels tree.position correction)
    words
