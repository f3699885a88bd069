-- Inner: no promise cites this file. Consecutive children of a node, halved until two are left: how the fills go down a tree.
use Rattle.std.specs.Prelude.{◌≢◌, List, [], ◌≡◌, ℕ, ◌+◌, ◌-◌, ◌*◌, ◌/◌, ◌%◌, ◌^◌, ◌≤◌, ◌<◌, eqb}
use Rattle.algebra.specs.Choice.{choose}
use Rattle.field.specs.Kind.{kind_of}
use Rattle.tree.specs.Columns.{columns_at, siblings_at}
use Rattle.tree.specs.Added.{added, leaf_element, punctured_element}
use Rattle.tree.specs.Inner.Branches.{IsBranch}
use Rattle.tree_sums.specs.Inner.Ranges.{child_count, below, size_of, IsRange, of_child}
use Rattle.tree_sums.specs.declared.range.Range.{Range}
use Rattle.tree_fill.specs.declared.range.Path.{Path}
use Rattle.tree_fill.specs.declared.range.Halves.{Halves}

-- ---- halves of a range

-- half as many children, from child c on
abbrev pub half_from : Range → ℕ → Range
half_from ρ c = record { branch_bits = ρ.branch_bits; levels = ρ.levels; bits = ρ.bits - 1; from = c }

-- the first and the second half of a range
abbrev pub first_half : Range → Range
first_half ρ = half_from ρ ρ.from

abbrev pub second_half : Range → Range
second_half ρ = half_from ρ (ρ.from + 2 ^ (ρ.bits - 1))

-- ---- runs of siblings: a range whose first is counted among the siblings that begin at a place of the bytes

-- one sibling or more, within n bytes
pub record IsRun (ρ : Range) (at n : ℕ) : Type 0 where
  pub some : ρ.levels ≢ 0
  pub branch : IsBranch ρ.branch_bits
  pub bits : ρ.bits ≤ 3
  pub few : ρ.from + 2 ^ ρ.bits ≤ 8
  pub room : at + 16 * (ρ.from + 2 ^ ρ.bits) ≤ n

-- the element of leaf j below a run
unfoldable pub run_element : {E : Type 0} → (List (List ℕ) → E) → (ℕ → List (List ℕ) → List (List ℕ)) → Range → List ℕ → ℕ → ℕ → E
run_element element child ρ bytes at j =
    leaf_element element (child_count ρ) child (ρ.levels - 1) (columns_at bytes (at + 16 * (ρ.from + j / below ρ))) (j % below ρ)

-- the words after the leaves below a run are added
abbrev pub run_added : ℕ → (ℕ → List (List ℕ) → List (List ℕ)) → Range → List ℕ → ℕ → List ℕ → List ℕ
run_added field child ρ bytes at acc = added (kind_of field).field (size_of ρ) (run_element (kind_of field).leaf child ρ bytes at) acc

-- the second half of a range as a run of siblings, where the first half holds the path: they stand one place lower
abbrev pub above : Range → Range
above ρ = half_from ρ (ρ.from + (2 ^ (ρ.bits - 1) - 1))

-- ---- paths: a range that holds the path of a punctured tree

-- the half from child c on of a range that holds a path, at a position in it: of two children one, as all its own children
unfoldable pub path_in : Path → ℕ → ℕ → Path
path_in path c position =
    choose (eqb path.range.bits 1)
    (record {
      range = of_child path.range;
      position = position;
      at = path.at + 16 * (child_count path.range - 1);
    })
    (record { range = half_from path.range c; position = position; at = path.at })

-- a position below the range, and siblings within n bytes
pub record IsPath (path : Path) (n : ℕ) : Type 0 where
  pub range : IsRange path.range
  pub inside : path.position < size_of path.range
  pub short : path.range.levels * path.range.branch_bits ≤ 64
  pub room : path.at + 16 * (path.range.levels * (child_count path.range - 1)) ≤ n
  pub fits : n < 2 ^ 64

-- the halves of a range that holds a path, where the first holds it and where the second does: the other as a run of siblings
pub record FirstHolds (path : Path) (below : Path) (beside : Range) : Type 0 where
  pub inside : path.position < size_of (first_half path.range)
  pub on : below ≡ path_in path path.range.from path.position
  pub run : beside ≡ above path.range

pub record SecondHolds (path : Path) (below : Path) (beside : Range) : Type 0 where
  pub inside : size_of (first_half path.range) ≤ path.position
  pub on : below ≡ path_in path (path.range.from + 2 ^ (path.range.bits - 1)) (path.position - size_of (first_half path.range))
  pub run : beside ≡ first_half path.range

unfoldable pub AreHalves : Path → Halves → Type 0
AreHalves path r = choose r.lower (FirstHolds path r.below r.beside) (SecondHolds path r.below r.beside)

-- the element of leaf j below a range that holds the position
unfoldable pub path_element : {E : Type 0} → (List (List ℕ) → E) → (ℕ → List (List ℕ) → List (List ℕ)) → Path → List ℕ → E → ℕ → E
path_element element child path bytes correction j =
    punctured_element element (child_count path.range) child []
    (siblings_at bytes path.at (path.range.levels * (child_count path.range - 1)))
    path.range.levels
    (path.range.from * below path.range + path.position)
    correction
    (path.range.from * below path.range + j)

-- the words after the leaves below a range that holds the position are added: at the position the element that words begin with
abbrev pub path_added : ℕ → (ℕ → List (List ℕ) → List (List ℕ)) → Path → List ℕ → List ℕ → List ℕ → List ℕ
path_added field child path bytes words acc =
    added (kind_of field).field (size_of path.range)
    (path_element (kind_of field).leaf child path bytes ((kind_of field).field.elements.read words 0)) acc
