-- Inner: no promise cites this file. The elements of leaves, and consecutive children of a node: what is added below them.
use Rattle.std.specs.Prelude.{List, ℕ, zero, suc, ◌+◌, ◌-◌, ◌*◌, ◌^◌, ◌≤◌, ltb}
use Rattle.algebra.specs.Choice.{choose}
use Rattle.field.specs.Kind.{kind_of}
use Rattle.tree.specs.Child.{child_by}
use Rattle.tree.specs.Added.{added, leaf_element}
use Rattle.tree.specs.Inner.Keys.{keys_for}
use Rattle.tree.specs.Inner.Branches.{IsBranch}
use Rattle.tree_sums.specs.declared.range.Range.{Range}

-- ---- elements of leaves

-- the children of a node under eight keys, whose round keys words hold
abbrev pub child_under : List (List ℕ) → ℕ → List (List ℕ) → List (List ℕ)
child_under keys = child_by (keys_for keys)

-- the first and the second of two
abbrev pub first_or_second : {A : Type 0} → A → A → ℕ → A
first_or_second a b zero = a
first_or_second a b (suc j) = b

-- the words of an element after the element of a leaf is added, and after the one that words begin with
unfoldable pub leaf_added : ℕ → List (List ℕ) → List ℕ → List ℕ
leaf_added field s acc = added (kind_of field).field 1 (λ j. (kind_of field).leaf s) acc

unfoldable pub element_added : ℕ → List ℕ → List ℕ → List ℕ
element_added field words acc = added (kind_of field).field 1 (λ j. (kind_of field).field.elements.read words 0) acc

-- the words of n elements after those of the n children of s from child c on, which are leaves, are added
unfoldable pub children_added : ℕ → (ℕ → List (List ℕ) → List (List ℕ)) → ℕ → ℕ → List (List ℕ) → List ℕ → List ℕ
children_added field child c n s acc = added (kind_of field).field n (λ j. (kind_of field).leaf (child (c + j) s)) acc

-- ---- ranges

-- how many children a node has
abbrev pub child_count : Range → ℕ
child_count ρ = 2 ^ ρ.branch_bits

-- the leaves below a child
abbrev pub below : Range → ℕ
below ρ = child_count ρ ^ (ρ.levels - 1)

-- what is left of a tree's depth below a range; at no level nothing
unfoldable pub left_of : Range → ℕ
left_of ρ = ρ.levels * ρ.branch_bits + ρ.bits - ρ.branch_bits

-- the leaves below a range
abbrev pub size_of : Range → ℕ
size_of ρ = 2 ^ left_of ρ

-- two children or more, within those of the node
pub record IsRange (ρ : Range) : Type 0 where
  pub two : 1 ≤ ρ.bits
  pub most : ρ.bits ≤ ρ.branch_bits
  pub within : ρ.from + 2 ^ ρ.bits ≤ child_count ρ
  pub branch : IsBranch ρ.branch_bits

abbrev pub all_children : ℕ → ℕ → Range
all_children g levels = record { branch_bits = g; levels = levels; bits = g; from = 0 }

-- all children of a child of a range
abbrev pub of_child : Range → Range
of_child ρ = all_children ρ.branch_bits (ρ.levels - 1)

-- the element of leaf j below a range of the children of s
unfoldable pub range_element : {A E : Type 0} → (A → E) → (ℕ → A → A) → Range → A → ℕ → E
range_element element child ρ s j = leaf_element element (child_count ρ) child ρ.levels s (ρ.from * below ρ + j)

-- the words after the leaves below a range of the children of s are added
abbrev pub range_added : ℕ → (ℕ → List (List ℕ) → List (List ℕ)) → Range → List (List ℕ) → List ℕ → List ℕ
range_added field child ρ s acc = added (kind_of field).field (size_of ρ) (range_element (kind_of field).leaf child ρ s) acc

-- the words after the leaves below all children of x, and then those below all children of y, are added
unfoldable pub both_added : ℕ → (ℕ → List (List ℕ) → List (List ℕ)) → Range → List (List ℕ) → List (List ℕ) → List ℕ → List ℕ
both_added field child all x y acc =
    added (kind_of field).field (size_of all + size_of all)
    (λ j. choose (ltb j (size_of all)) (range_element (kind_of field).leaf child all x j) (range_element (kind_of field).leaf child all y (j - size_of all))) acc
