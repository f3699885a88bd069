-- The child function under the child keys: the round keys that are lent give it (document 02, 3), and its results are states.
use mathlib.Core.Path.{◌≡◌, refl, ap, ap₂, ◌∙◌}
use mathlib.Core.List.{List, [], ◌++◌}
use Prim.Native.Nat.{ℕ, ◌-◌, ◌*◌, ◌^◌, ◌≤◌, ◌<◌}
use native.Mathlib.Omega.{arith}
use lib.ListN.{get_or-append}
use lib.Seq.{sets}
use Rattle.algebra.specs.Field.{FieldLaws, Value}
use Rattle.field.specs.Kind.{Kind, kind_of}
use Rattle.field.proofs.BothKinds.{kind_laws}
use Rattle.aes128.specs.State.{xor_state}
use Rattle.aes128.specs.Inner.Sizes.{IsState}
use Rattle.aes128.specs.Cipher.{cipher, key_expansion, aes}
use Rattle.aes128.specs.Inner.Words.{round_keys}
use Rattle.aes128.proofs.Sizes.{four_bytes, four-words, xor-state_is, aes_is}
use Rattle.tree.specs.Tree.{leaf_at, listed, siblings}
use Rattle.tree.specs.Child.{child_key, child, child_by}
use Rattle.tree.specs.Inner.Keys.{keys_for}
use Rattle.tree.specs.Columns.{columns_bytes, blocks_bytes, siblings_at}
use Rattle.tree.specs.Added.{leaf_element, punctured_element}
use Rattle.tree.specs.Expanded.{walk, walked, leaves_added, punctured_added}
use Rattle.tree.specs.KeySchedules.{OfChildKeys, KeySchedules}
use Rattle.tree.specs.declared.punctured.Punctured.{Punctured}
use Rattle.tree.proofs.Laws.{Each, leaf-same, siblings-same, leaf-element-same, punctured-element-same, leaf-has, siblings_have}
use Rattle.tree.proofs.Added.{added_cong}
use Rattle.tree.proofs.Listed.{length-listed, listed_at}

-- ---- the round keys of the child keys

-- the key of child c is sixteen bytes c
pub key-bytes : (c : ℕ) → columns_bytes (child_key c) ≡ listed 16 (λ i. c)
unfolding columns_bytes listed
key-bytes c = refl

-- words that hold them, lent one after another, are a family of the child keys
pub lent_keys : (k : ℕ) (words : ℕ → List ℕ) (rest : List (List ℕ)) → ((c : ℕ) → c < k → round_keys (words c) ≡ key_expansion (child_key c))
    → OfChildKeys k (keys_for (listed k words ++ rest))
lent_keys k words rest own c h =
    ap round_keys (get_or-append (listed k words) rest [] c (rw (length-listed k words) h) ∙ listed_at k words [] c h)
    ∙ own c h

pub child-by : (k : ℕ) (keys : ℕ → List (List (List ℕ))) → OfChildKeys k keys → (c : ℕ) → c < k → (s : List (List ℕ)) → child_by keys c s ≡ child c s
unfolding child_by child aes
child-by k keys own c h s = ap (λ w. xor_state (cipher w s) s) (own c h)

module _ (k : ℕ) (keys : ℕ → List (List (List ℕ))) (some : 0 < k) (own : OfChildKeys k keys) where
  pub walked_by : (root : List (List ℕ)) (tree : Punctured) (bytes : List ℕ)
      → walked k (child_by keys) root tree bytes ≡ walked k child root tree bytes
  unfolding walked
  walked_by root tree bytes =
      ap₂ (λ leaf beside. walk leaf (sets bytes tree.at (blocks_bytes beside)))
      (leaf-same k some (child_by keys) child (child-by k keys own) tree.levels root tree.position)
      (siblings-same k some (child_by keys) child (child-by k keys own) tree.levels root tree.position)

  module _ (K : Kind) (laws : FieldLaws K.field) where
    pub filled_by : (levels : ℕ) (root : List (List ℕ)) (words : List ℕ)
        → leaves_added K k (child_by keys) levels root words ≡ leaves_added K k child levels root words
    filled_by levels root words =
        added_cong K.field laws (k ^ levels) (leaf_element K.leaf k (child_by keys) levels root) (leaf_element K.leaf k child levels root) words
        (λ j h. leaf-element-same K.leaf k some (child_by keys) child (child-by k keys own) levels root j)

    pub punctured_by : (tree : Punctured) (bytes : List ℕ) (correction : Value K.field) (words : List ℕ)
        → punctured_added K k (child_by keys) tree bytes correction words ≡ punctured_added K k child tree bytes correction words
    punctured_by tree bytes correction words =
        let beside : List (List (List ℕ)) = siblings_at bytes tree.at (tree.levels * (k - 1)) in
        added_cong K.field laws (k ^ tree.levels)
        (punctured_element K.leaf k (child_by keys) [] beside tree.levels tree.position correction)
        (punctured_element K.leaf k child [] beside tree.levels tree.position correction) words
        (λ j h. punctured-element-same K.leaf k some (child_by keys) child (child-by k keys own) [] beside tree.levels tree.position correction j)

pub key_schedules : KeySchedules
key_schedules =
    record {
      children = child-by;
      walks = walked_by;
      fills = λ k keys some own field. filled_by k keys some own (kind_of field) (kind_laws field).field;
      punctured_fills = λ k keys some own field. punctured_by k keys some own (kind_of field) (kind_laws field).field;
    }

-- ---- states

key-state : (c : ℕ) → c < 256 → IsState (child_key c)
key-state c h =
    let w = four_bytes h h h h in
    four-words w w w w

child-state : (c : ℕ) → c < 256 → (s : List (List ℕ)) → IsState s → IsState (child c s)
unfolding child
child-state c h s i = xor-state_is (aes_is (child_key c) (key-state c h) s) i

module _ (k : ℕ) (some : 0 < k) (most : k ≤ 256) where
  pub leaf-state : (d : ℕ) (root : List (List ℕ)) (j : ℕ) → IsState root → IsState (leaf_at k child d root j)
  leaf-state = leaf-has k child some IsState (λ c h. child-state c (omega arith))

  pub siblings_states : (d : ℕ) (root : List (List ℕ)) (j : ℕ) → IsState root → Each IsState (siblings k child d root j)
  siblings_states = siblings_have k child some IsState (λ c h. child-state c (omega arith))
