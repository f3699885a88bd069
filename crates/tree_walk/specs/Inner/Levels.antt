-- Inner: no promise cites this file. A level of a walk: the children of a node beside the one on the path.
use Rattle.std.specs.Prelude.{List, [], ◌∷◌, ◌++◌, ℕ, ◌+◌, ◌-◌, ◌*◌, ◌/◌, ◌%◌, ◌^◌, ◌≤◌, ◌<◌}
use Rattle.std.proofs.lemmas.List.Edits.{sets}
use Rattle.tree.specs.Tree.{listed, others}
use Rattle.tree.specs.Columns.{columns_bytes, blocks_bytes}
use Rattle.tree.specs.Expanded.{Walk, walk}
use Rattle.tree.specs.Inner.Branches.{IsBranch}

-- a digit names a child, and the others have room within n bytes
pub record IsLevel (g digit at n : ℕ) : Type 0 where
  pub branch : IsBranch g
  pub few : 2 ^ g ≤ 8
  pub named : digit < 2 ^ g
  pub room : at + 16 * (2 ^ g - 1) ≤ n

-- the n children of s from child c on
unfoldable pub children_from : {A : Type 0} → (ℕ → A → A) → A → ℕ → ℕ → List A
children_from child s c n = listed n (λ i. child (c + i) s)

-- bytes with those written from a place on
unfoldable pub children_put : (ℕ → List (List ℕ) → List (List ℕ)) → List (List ℕ) → ℕ → ℕ → ℕ → List ℕ → List ℕ
children_put child s c n at bytes = sets bytes at (blocks_bytes (children_from child s c n))

-- the other child of the pair of one
abbrev pub twin : ℕ → ℕ
twin c = 2 * (c / 2) + (1 - c % 2)

-- the child that a digit names, and bytes with the other of its pair written from a place on
unfoldable pub twin_put : (ℕ → List (List ℕ) → List (List ℕ)) → List (List ℕ) → ℕ → ℕ → List ℕ → Walk
twin_put child s digit at bytes = walk (child digit s) (sets bytes at (columns_bytes (child (twin digit) s)))

-- the child that a digit names, and bytes with the children before its pair and the other of the pair written from a place on
unfoldable pub before_put : (ℕ → List (List ℕ) → List (List ℕ)) → List (List ℕ) → ℕ → ℕ → List ℕ → Walk
before_put child s digit at bytes =
    walk (child digit s) (sets bytes at (blocks_bytes (children_from child s 0 (2 * (digit / 2)) ++ (child (twin digit) s ∷ []))))

-- the child that a digit names, and bytes with the others written from a place on
unfoldable pub level_passed : ℕ → (ℕ → List (List ℕ) → List (List ℕ)) → List (List ℕ) → ℕ → ℕ → List ℕ → Walk
level_passed k child s digit at bytes = walk (child digit s) (sets bytes at (blocks_bytes (others k child s digit)))
