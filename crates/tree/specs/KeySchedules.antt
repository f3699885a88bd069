-- Key schedules out of the node loop (document 02, 3). 'The walk is proved for any round keys it is lent': the contracts of
-- `walk` in crate `tree_walk`, and of `add_leaves` and `add_punctured` in crate `tree_fill`, say `walked`, `leaves_added` and
-- `punctured_added` (Expanded) with `child_by` the family of round keys lent, and ask nothing of it. 'Those of the child keys give the
-- trees as before': the record KeySchedules, for any number k of children and any such family.
use Rattle.std.specs.Prelude.{◌≡◌, List, ℕ, ◌<◌}
use Rattle.algebra.specs.Field.{Value}
use Rattle.field.specs.Kind.{kind_of}
use Rattle.aes128.specs.Cipher.{key_expansion}
use Rattle.tree.specs.Child.{child_key, child, child_by}
use Rattle.tree.specs.Expanded.{walked, leaves_added, punctured_added}
use Rattle.tree.specs.declared.punctured.Punctured.{Punctured}

-- the family holds, for each of k children, the round keys of its child key
abbrev pub OfChildKeys : ℕ → (ℕ → List (List (List ℕ))) → Type 0
OfChildKeys k keys = (c : ℕ) → c < k → keys c ≡ key_expansion (child_key c)

pub record KeySchedules : Type 0 where
  -- child c under them is document 01's child c
  pub children : (k : ℕ) (keys : ℕ → List (List (List ℕ))) → OfChildKeys k keys
      → (c : ℕ) → c < k → (s : List (List ℕ)) → child_by keys c s ≡ child c s
  -- so a walk, and a fill by a tree and by a punctured tree in either field, give what they give with document 01's child
  pub walks : (k : ℕ) (keys : ℕ → List (List (List ℕ))) → 0 < k → OfChildKeys k keys
      → (root : List (List ℕ)) (tree : Punctured) (bytes : List ℕ)
      → walked k (child_by keys) root tree bytes ≡ walked k child root tree bytes
  pub fills : (k : ℕ) (keys : ℕ → List (List (List ℕ))) → 0 < k → OfChildKeys k keys
      → (field levels : ℕ) (root : List (List ℕ)) (words : List ℕ)
      → leaves_added (kind_of field) k (child_by keys) levels root words ≡ leaves_added (kind_of field) k child levels root words
  pub punctured_fills : (k : ℕ) (keys : ℕ → List (List (List ℕ))) → 0 < k → OfChildKeys k keys
      → (field : ℕ) (tree : Punctured) (bytes : List ℕ) (correction : Value (kind_of field).field) (words : List ℕ)
      → punctured_added (kind_of field) k (child_by keys) tree bytes correction words
      ≡ punctured_added (kind_of field) k child tree bytes correction words
