-- The table of a noise record's trees, filled one tree a turn, and what the vectors of a record walk in.
use mathlib.Core.Path.{◌≡◌, refl, ap, ◌∙◌}
use mathlib.Core.Bool.{Bool, true, false}
use mathlib.Core.List.{List, []}
use Prim.Native.Nat.{ℕ, ◌+◌, ◌-◌, ◌*◌, ◌^◌, ◌≤◌, ◌<◌}
use native.Mathlib.Omega.{arith}
use Rattle.std.specs.Prelude.{Some}
use lib.Dec.{eqb}
use lib.ListN.{length, get_or, set, drop, length-set}
use lib.Seq.{get_or-set_same, get_or-set_other}
use borrow.Author.Tests.{eqb-true, eqb-false}
use Rattle.number.specs.Reading.{Whole}
use Rattle.record.specs.Content.{tree_in}
use Rattle.record.specs.Reading.{read_trees}
use Rattle.record.specs.Inner.Answers.{tree_of}
use Rattle.record.specs.declared.Layout.{Layout}
use Rattle.record.specs.declared.Tree.{Tree}
use Rattle.record.proofs.Callers.{again_at, head_ranges}
use Rattle.record.proofs.Parts.{noise_parts, scalar_parts}
use Rattle.ends.specs.Inner.Noise.{tree_siblings, trees_at, Ready, TreeRead}
use Rattle.tree.specs.Inner.Keys.{keys_for}
use Rattle.tree.specs.KeySchedules.{OfChildKeys}
use Rattle.ends.proofs.noise.Content.{ready}
use Rattle.ends.proofs.scalar.Content.{ready as scalar_ready}
use Rattle.ends_calls.specs.declared.accepted.ScalarRecord.{ScalarRecord}
use Rattle.ends_calls.specs.Inner.Trees.{GivesTree}
use Rattle.ends_calls.specs.declared.accepted.NoiseRecord.{NoiseRecord}
use Rattle.ends_calls.specs.declared.trees.Trees.{Trees}
use Rattle.ends_bench_leaves.specs.Inner.Trees.{tree_at, IsTree, TreesIn, Walking}

-- ---- the loop over the trees

-- after i trees of so many siblings: what is left of the record from a place on, after positions below `base`, and the trees in the table
pub record Tabled (s : List ℕ) (f : Layout) (n place base i : ℕ) (table : List Tree) : Type 0 where
  pub siblings : n ≡ tree_siblings f
  pub few : n ≤ 112
  pub levels : f.depth ≤ 16
  pub most : f.trees ≤ 64
  pub within : i ≤ f.trees
  pub end : ℕ
  pub rest : read_trees f.field f.depth n (f.trees - i) base s place ≡ Whole (drop i (trees_at s f), end)
  pub trees : TreesIn s f table i
  pub size : length table ≡ 64

module _ (s : List ℕ) (f : Layout) where
  pub tabled_none : Ready s f → f.trees ≤ 64 → {n : ℕ} → (n ≡ tree_siblings f) × (n ≤ 112) → (table : List Tree) → length table ≡ 64
      → Tabled s f n f.body 0 0 table
  tabled_none ready most {n} count table size =
      record {
        siblings = count.0;
        few = count.1;
        levels = ready.sizes.depth;
        most = most;
        within = omega arith;
        end = ready.end;
        rest = ap (λ (x : ℕ). read_trees f.field f.depth x (f.trees - 0) 0 s f.body) count.0 ∙ ready.trees;
        trees = λ i h. absurd (omega arith);
        size = size;
      }

  module _ {n place base i : ℕ} {table : List Tree} (g : Tabled s f n place base i table) (more : i < f.trees) where
    pub tabled_more : {t : Tree} → TreeRead s f n place base t → {next : List Tree} → next ≡ set table i t
        → Tabled s f n (t.siblings + 16 * n) (t.position + 1) (i + 1) next
    tabled_more {t} known {next} e =
        let a = again_at f.field f.depth n f.trees base s place i more (trees_at s f) (tree_in [] 0) g.rest known.read in
        let same : tree_at next i ≡ t = ap (λ (l : List Tree). tree_at l i) e ∙ get_or-set_same table i t _ (omega (arith, g.size, g.most)) in
        record {
          siblings = g.siblings;
          few = g.few;
          levels = g.levels;
          most = g.most;
          within = omega arith;
          end = g.end;
          rest = a.1;
          trees = λ k h. decide k h (eqb k i) refl a same;
          size = ap length e ∙ length-set table i t ∙ g.size;
        }
      where
        decide : (k : ℕ) → k < i + 1 → (b : Bool) → eqb k i ≡ b → (get_or (trees_at s f) i (tree_in [] 0) ≡ tree_of s f.field n t)
            × (read_trees f.field f.depth n (f.trees - (i + 1)) (t.position + 1) s (t.siblings + 16 * n) ≡ Whole (drop (i + 1) (trees_at s f), g.end))
            → tree_at next i ≡ t → IsTree s f k (tree_at next k)
        decide k h true q a same = rw (eqb-true k i q, same) (record { same = rw (← g.siblings) a.0; below = known.below; room = known.room })
        decide k h false q a same =
            rw (ap (λ (l : List Tree). tree_at l k) e ∙ get_or-set_other table i k t _ (eqb-false k i q)) (g.trees k (omega (arith, eqb-false k i q)))

  pub tabled_all : {n place base i : ℕ} {table : List Tree} → Tabled s f n place base i table → f.trees ≤ i → TreesIn s f table f.trees
  tabled_all g h k l = g.trees k (omega arith)

-- ---- by the iterator over the trees

-- the trees that the iterator gave stand in the table, and those that it has left are what is left of the record
pub record Filling (r : NoiseRecord) (it : Trees) (count : ℕ) (table : List Tree) : Type 0 where
  pub same : it.record ≡ r
  pub all : count + it.left ≡ r.layout.trees
  pub tabled : Tabled r.source.now r.layout it.siblings it.at it.base count table

module _ (r : NoiseRecord) where
  pub few-trees : r.layout.trees ≤ 64
  few-trees = (head_ranges 1 r.source.now (noise_parts r.source.now (ready _ r.accepted).read).2).trees-most

  pub filling_none : (it : Trees)
      → (it.record ≡ r) × (it.siblings ≡ tree_siblings r.layout) × (it.at ≡ r.layout.body) × (it.base ≡ 0) × (it.left ≡ r.layout.trees)
      → (table : List Tree) → length table ≡ 64 → Filling r it 0 table
  filling_none it e table size =
      record {
        same = e.0;
        all = omega (arith, e.4);
        tabled = rw (e.2, e.3) (tabled_none r.source.now r.layout (ready _ r.accepted) few-trees (e.1, it.rest.few) table size);
      }

  module _ {it : Trees} {count : ℕ} {table : List Tree} (g : Filling r it count table) where
    module _ {t : Tree} (next : Trees) (step : GivesTree it (Some t) next) where
      pub filling_room : count < 64
      filling_room = omega (arith, g.all, step.1, few-trees)

      pub filling_more : Filling r next (count + 1) (set table count t)
      filling_more =
          let known : TreeRead r.source.now r.layout it.siblings it.at it.base t = rw (← g.same) step.0 in
          record {
            same = step.2 ∙ g.same;
            all = omega (arith, g.all, step.1);
            tabled = rw (step.3, step.4, step.5) (tabled_more r.source.now r.layout g.tabled (omega (arith, g.all, step.1)) known refl);
          }

    pub filling_all : it.left ≡ 0 → TreesIn r.source.now r.layout table r.layout.trees
    filling_all none = tabled_all r.source.now r.layout g.tabled (omega (arith, g.all, none))

-- ---- what the vectors of a record walk in

pub noise-walking : (r : NoiseRecord) {table : List Tree} → TreesIn r.source.now r.layout table r.layout.trees → (vector : ℕ) → (vector ≡ 3 → ⊥)
    → {keys : List (List ℕ)} → OfChildKeys (2 ^ r.layout.branch_bits) (keys_for keys) → Walking vector r.source.now r.layout table keys
noise-walking r trees vector h own =
    record { standing = record { sizes = r.sizes; few = few-trees r; trees = λ v. trees; roots = λ e. absurd (h e) }; own = own }

pub w0_walking : (r : ScalarRecord) (table : List Tree) {keys : List (List ℕ)} → OfChildKeys (2 ^ r.layout.branch_bits) (keys_for keys)
    → Walking 3 r.source.now r.layout table keys
w0_walking r table own =
    record {
      standing = record {
        sizes = r.sizes;
        few = (head_ranges 2 r.source.now (scalar_parts r.source.now (scalar_ready _ r.accepted).read).3).trees-most;
        trees = λ v. absurd (v refl);
        roots = λ e. r.room;
      };
      own = own;
    }
