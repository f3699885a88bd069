-- Document 01's trees as it says them, by bits ('Trees'), and that trees are those for g = 1 (document 02, 10). They stand here for
-- this statement alone.
use Rattle.std.specs.Prelude.{◌≡◌, List, [], ◌∷◌, ◌++◌, ℕ, zero, suc, ◌-◌, ◌/◌, ◌%◌, ◌^◌, get_or, take}
use Rattle.tree.specs.Tree.{path, reach, leaf_at, listed, siblings}

-- the bits of j, highest of the d first
unfoldable pub bits : ℕ → ℕ → List ℕ
bits zero j = []
bits (suc d) j = (j / 2 ^ d) % 2 ∷ bits d j

-- leaf j is reached from the root by the bits of j
unfoldable pub leaf_by_bits : {A : Type 0} → (ℕ → A → A) → ℕ → A → ℕ → A
leaf_by_bits child d root j = reach child root (bits d j)

-- sibling i beside the path to s: the node at the first i + 1 bits of s with the last of them flipped
unfoldable pub sibling_by_bits : {A : Type 0} → (ℕ → A → A) → ℕ → A → ℕ → ℕ → A
sibling_by_bits child d root s i = reach child root (take i (bits d s) ++ ((1 - get_or (bits d s) i 0) ∷ []))

-- the d siblings, top first
unfoldable pub siblings_by_bits : {A : Type 0} → (ℕ → A → A) → ℕ → A → ℕ → List A
siblings_by_bits child d root s = listed d (sibling_by_bits child d root s)

-- for every child function: with g = 1 the paths, leaves and siblings of a tree with 2^g children a node and d / g levels, as the
-- calls have them, are those by bits
pub record TwoChildren : Type 1 where
  pub paths : (g : ℕ) → g ≡ 1 → (d j : ℕ) → path (2 ^ g) (d / g) j ≡ bits d j
  pub leaves : (g : ℕ) → g ≡ 1 → {A : Type 0} (child : ℕ → A → A) (d : ℕ) (root : A) (j : ℕ)
      → leaf_at (2 ^ g) child (d / g) root j ≡ leaf_by_bits child d root j
  pub beside : (g : ℕ) → g ≡ 1 → {A : Type 0} (child : ℕ → A → A) (d : ℕ) (root : A) (s : ℕ)
      → siblings (2 ^ g) child (d / g) root s ≡ siblings_by_bits child d root s
