-- w0 and Δ, from the content of a scalar record alone (document 01, 'Trees', 'Offline and online'; document 02, 10).
use Rattle.std.specs.Prelude.{List, [], ◌∷◌, ℕ, ◌/◌, ◌^◌, eqb, get_or}
use Rattle.algebra.specs.Choice.{choose}
use Rattle.algebra.specs.Expansion.{whole}
use Rattle.algebra.specs.Field.{Value}
use Rattle.record.specs.Content.{ScalarPart}
use Rattle.window.specs.Head.{kind, field_of}
use Rattle.tree.specs.Child.{child}
use Rattle.tree.specs.Columns.{columns_at}
use Rattle.tree.specs.Tree.{leaf_at}

-- Δ, the scalar
abbrev pub delta : (P : ScalarPart) → Value (field_of P.head)
delta P = (field_of P.head).elements.read P.delta 0

-- the element of leaf j of tree i: a node has 2^g children, and the tree d / g levels (document 02, 10)
abbrev pub leaf : (P : ScalarPart) → ℕ → ℕ → Value (field_of P.head)
leaf P i j = (kind P.head).leaf (leaf_at (2 ^ P.head.branch_bits) child (P.head.depth / P.head.branch_bits) (columns_at (get_or P.roots i []) 0) j)

-- w0
unfoldable pub w0 : (P : ScalarPart) → ℕ → Value (field_of P.head)
w0 P = whole (field_of P.head).scaled P.head.trees (leaf P)

-- the two words of Δ that offline writes; in field 2 the second is 0
abbrev pub delta_out : ScalarPart → List ℕ
delta_out P = get_or P.delta 0 0 ∷ choose (eqb P.head.field 1) (get_or P.delta 1 0) 0 ∷ []
