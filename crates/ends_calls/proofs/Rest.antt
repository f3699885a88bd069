-- The trees of an accepted noise record that are left, before the first and after each.
use mathlib.Core.Path.{◌≡◌, ap, ◌∙◌}
use mathlib.Core.Bool.{true}
use mathlib.Core.List.{List}
use Prim.Native.Nat.{ℕ, ◌+◌, ◌-◌, ◌*◌, ◌≤◌}
use native.Mathlib.Omega.{arith}
use Rattle.number.specs.Reading.{Whole}
use Rattle.number.specs.Inner.Known.{is_whole}
use Rattle.number.proofs.Places.{whole_of}
use Rattle.record.specs.Content.{NoiseTree}
use Rattle.record.specs.Reading.{read_tree, read_trees}
use Rattle.record.specs.declared.Layout.{Layout}
use Rattle.record.specs.declared.Tree.{Tree}
use Rattle.record.proofs.Callers.{again-asks, again-next}
use Rattle.ends.specs.Inner.Noise.{tree_siblings, Ready, TreeRead}
use Rattle.ends_calls.specs.Inner.Left.{TreesLeft}

module _ (s : List ℕ) (f : Layout) where
  pub left_all : Ready s f → {n : ℕ} → (n ≡ tree_siblings f) × (n ≤ 112) → TreesLeft s f n f.body 0 f.trees
  left_all ready {n} count =
      record {
        count = count.0;
        few = count.1;
        levels = ready.sizes.depth;
        within = omega arith;
        whole =
            ap (λ (k : ℕ). is_whole (read_trees f.field f.depth n k 0 s f.body)) {x = f.trees} {y = f.trees - 0} (omega arith)
            ∙ ap is_whole (ap (λ (x : ℕ). read_trees f.field f.depth x (f.trees - 0) 0 s f.body) count.0 ∙ ready.trees);
      }

  module _ {n place base left : ℕ} (g : TreesLeft s f n place base left) (some : left ≡ 0 → ⊥) where
    read : (z : List NoiseTree × ℕ) × (read_trees f.field f.depth n (left - 0) base s place ≡ Whole z)
    read =
        whole_of (read_trees f.field f.depth n (left - 0) base s place)
        (ap (λ (k : ℕ). is_whole (read_trees f.field f.depth n k base s place)) {x = left - 0} {y = left} (omega arith) ∙ g.whole)

    pub left_asks : is_whole (read_tree f.field f.depth n base s place) ≡ true
    left_asks = again-asks f.field f.depth n left base s place 0 (omega arith) read.1

    pub left_more : {t : Tree} → TreeRead s f n place base t → TreesLeft s f n (t.siblings + 16 * n) (t.position + 1) (left - 1)
    left_more {t} known =
        let a = again-next f.field f.depth n left base s place 0 (omega arith) read.1 known.read in
        record {
          count = g.count;
          few = g.few;
          levels = g.levels;
          within = omega (arith, g.within);
          whole =
              ap (λ (k : ℕ). is_whole (read_trees f.field f.depth n k (t.position + 1) s (t.siblings + 16 * n))) {x = left - 1} {y = left - (0 + 1)}
              (omega arith) ∙ ap is_whole a.2;
        }
