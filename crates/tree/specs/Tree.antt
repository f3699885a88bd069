-- Trees over any kind of node, any number k of children of a node and any child function: leaves, siblings, and the leaves of
-- a punctured tree. Document 01's trees ('Trees') are those at k = 2, where `child 0` is the left child and `child 1` the right
-- one; document 02, 10 asks for any number.
use Rattle.std.specs.Prelude.{List, [], ◌∷◌, ◌++◌, ℕ, zero, suc, ◌-◌, ◌/◌, ◌%◌, ◌^◌, eqb, ltb, get_or, take, drop}
use Rattle.algebra.specs.Choice.{choose}

-- the path of leaf j: j in base k, highest digit first, as many digits as there are levels; at k = 2 the bits of j
unfoldable pub path : ℕ → ℕ → ℕ → List ℕ
path k zero j = []
path k (suc d) j = (j / k ^ d) % k ∷ path k d j

-- the node that digits lead to from node s, digit c to child c
unfoldable pub reach : {A : Type 0} → (ℕ → A → A) → A → List ℕ → A
reach child s [] = s
reach child s (c ∷ digits) = reach child (child c s) digits

-- leaf j is reached from the root by its path
unfoldable pub leaf_at : {A : Type 0} → ℕ → (ℕ → A → A) → ℕ → A → ℕ → A
leaf_at k child d root j = reach child root (path k d j)

-- the values of f at 0 to n − 1
unfoldable pub listed : {A : Type 0} → ℕ → (ℕ → A) → List A
listed zero f = []
listed (suc n) f = listed n f ++ (f n ∷ [])

-- the k children of node s but child c, in rising order
unfoldable pub others : {A : Type 0} → ℕ → (ℕ → A → A) → A → ℕ → List A
others k child s c = take c (listed k (λ b. child b s)) ++ drop (suc c) (listed k (λ b. child b s))

-- the siblings beside the way that digits lead from node s: each level's k − 1, top first
unfoldable pub beside : {A : Type 0} → ℕ → (ℕ → A → A) → A → List ℕ → List A
beside k child s [] = []
beside k child s (c ∷ digits) = others k child s c ++ beside k child (child c s) digits

-- a tree punctured at s: the siblings beside the path to s
unfoldable pub siblings : {A : Type 0} → ℕ → (ℕ → A → A) → ℕ → A → ℕ → List A
siblings k child d root s = beside k child root (path k d s)

-- the place of child c among the siblings of child s: those above s stand one place lower
abbrev pub rank : ℕ → ℕ → ℕ
rank s c = choose (ltb c s) c (c - 1)

-- the leaf at the digits js that follows from the siblings xs beside the digits ss: from the sibling at the first level where
-- js and ss differ, by the rest of js; `none` where there is no such level
unfoldable pub follow : {A : Type 0} → ℕ → (ℕ → A → A) → A → List A → List ℕ → List ℕ → A
follow k child none xs [] js = none
follow k child none xs (s ∷ ss) [] = none
follow k child none xs (s ∷ ss) (j ∷ js) =
    choose (eqb s j) (follow k child none (drop (k - 1) xs) ss js) (reach child (get_or xs (rank s j) none) js)

-- leaf j of a tree punctured at s, from its siblings xs
unfoldable pub from_siblings : {A : Type 0} → ℕ → (ℕ → A → A) → A → List A → ℕ → ℕ → ℕ → A
from_siblings k child none xs d s j = follow k child none xs (path k d s) (path k d j)
