-- 'Every leaf but s follows from them' (document 01, 'Trees'), them being the siblings of a tree punctured at s, for any number
-- of children (document 02, 10: 'the argument is made for any number of children').
use Rattle.std.specs.Prelude.{◌≢◌, ◌≡◌, ℕ, ◌^◌, ◌<◌}
use Rattle.tree.specs.Tree.{leaf_at, siblings, from_siblings}

-- for every number k of children, every tree of depth d and every place s in it: what follows from its siblings at s, at each
-- place j but s, is its leaf j
abbrev pub FromSiblings : {A : Type 0} → (ℕ → A → A) → A → Type 0
FromSiblings {A} child none =
    (k d : ℕ) (root : A) (s j : ℕ) → s < k ^ d → j < k ^ d → s ≢ j
    → from_siblings k child none (siblings k child d root s) d s j ≡ leaf_at k child d root j
