-- Inner: no promise cites this file. A step through the trees of an accepted noise record.
use Rattle.std.specs.Prelude.{◌≡◌, ◌+◌, ◌*◌, Option, None, Some}
use Rattle.record.specs.declared.Tree.{Tree}
use Rattle.ends.specs.Inner.Noise.{TreeRead}
use Rattle.ends_calls.specs.declared.trees.Trees.{Trees}

-- a tree that stands at the place, and those after it, if one is left
abbrev pub GivesTree : Trees → Option Tree → Trees → Type 0
GivesTree old None new = (old.left ≡ 0) × (new.left ≡ 0)
GivesTree old (Some t) new =
    TreeRead old.record.source.now old.record.layout old.siblings old.at old.base t × (old.left ≡ new.left + 1) × (new.record ≡ old.record)
    × (new.siblings ≡ old.siblings) × (new.at ≡ t.siblings + 16 * old.siblings) × (new.base ≡ t.position + 1)
