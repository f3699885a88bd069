-- Each end's part of a dealing: the content of its record (document 01, 'Dealing', 'Key records').
use Rattle.std.specs.Prelude.{map, ℕ, ◌/◌, ◌^◌, get_or}
use Rattle.record.specs.Content.{NoiseTree, NoisePart, ScalarPart}
use Rattle.tree.specs.Child.{child}
use Rattle.tree.specs.Columns.{columns_bytes}
use Rattle.tree.specs.Tree.{siblings, listed}
use Rattle.dealing.specs.Input.{Input, delta_words, position}
use Rattle.dealing.specs.Vectors.{head, field, root, tree_correction}

-- tree i at the noise end: position, noise value, correction, and the siblings of the tree punctured at the position
unfoldable pub noise_tree : Input → ℕ → NoiseTree
noise_tree I i =
    record {
      position = position I i;
      value = get_or I.values i 0;
      correction = (field I).elements.words (tree_correction I i);
      siblings = map columns_bytes (siblings (2 ^ I.branch_bits) child (I.depth / I.branch_bits) (root I i) (position I i));
    }

-- the noise end's part
abbrev pub noise_part : Input → NoisePart
noise_part I = record { head = head I; trees = listed I.trees (noise_tree I) }

-- the scalar end's part: Δ and the roots
abbrev pub scalar_part : Input → ScalarPart
scalar_part I =
    record {
      head = head I;
      delta = delta_words I;
      roots = listed I.trees (λ i. columns_bytes (root I i));
    }
