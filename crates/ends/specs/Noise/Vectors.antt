-- μ and v0, from the content of a noise record alone (document 01, 'Trees', 'Offline and online'; document 02, 10).
use Rattle.std.specs.Prelude.{[], ◌∷◌, map, ℕ, ◌/◌, ◌^◌}
use Rattle.algebra.specs.Expansion.{noise, punctured}
use Rattle.algebra.specs.Field.{NoiseValue, Value}
use Rattle.tree.specs.Child.{child}
use Rattle.tree.specs.Columns.{columns_at}
use Rattle.tree.specs.Tree.{from_siblings}
use Rattle.record.specs.Content.{NoiseTree, NoisePart, tree_in}
use Rattle.window.specs.Head.{kind, field_of}

-- tree i: its noise value, its correction, and the element of its leaf j, which follows from the siblings; a node has 2^g children,
-- and the tree d / g levels (document 02, 10)
abbrev pub tree : NoisePart → ℕ → NoiseTree
tree P i = tree_in P.trees i

abbrev pub value : (P : NoisePart) → ℕ → NoiseValue (field_of P.head)
value P i = (field_of P.head).noise_values.read ((tree P i).value ∷ []) 0

abbrev pub correction : (P : NoisePart) → ℕ → Value (field_of P.head)
correction P i = (field_of P.head).elements.read (tree P i).correction 0

abbrev pub leaf : (P : NoisePart) → ℕ → ℕ → Value (field_of P.head)
leaf P i j =
    (kind P.head).leaf (from_siblings (2 ^ P.head.branch_bits) child [] (map (λ s. columns_at s 0) (tree P i).siblings)
    (P.head.depth / P.head.branch_bits) (tree P i).position j)

-- μ
unfoldable pub mu : (P : NoisePart) → ℕ → NoiseValue (field_of P.head)
mu P = noise (field_of P.head).ring P.head.trees (λ i. (tree P i).position) (value P)

-- v0
unfoldable pub v0 : (P : NoisePart) → ℕ → Value (field_of P.head)
v0 P = punctured (field_of P.head).scaled P.head.trees (λ i. (tree P i).position) (correction P) (leaf P)
