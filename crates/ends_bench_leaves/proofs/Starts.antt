-- Where the walk to a leaf starts, at either end, and the leaf that a walk from there gives.
use mathlib.Core.Path.{◌≡◌, refl, sym, ap, ap₂, ◌∙◌}
use mathlib.Core.Bool.{Bool, true, false}
use mathlib.Core.List.{List, [], map}
use Prim.Native.Nat.{ℕ, ◌+◌, ◌*◌, ◌-◌, ◌/◌, ◌^◌, ◌≤◌, ◌<◌}
use native.Mathlib.Nat.{mod-eq_of_lt}
use native.Mathlib.Omega.{arith}
use lib.Dec.{eqb}
use lib.ListN.{length}
use borrow.Author.Tests.{eq-eqb, ne_eqb, eqb-false}
use Rattle.algebra.specs.Choice.{choose}
use Rattle.algebra.specs.Field.{Value}
use Rattle.algebra.proofs.Choice.{choose-true, choose-false}
use Rattle.field.specs.Kind.{kind_of}
use Rattle.record.specs.Content.{NoiseTree, tree_in, sibling_count}
use Rattle.record.specs.declared.Layout.{Layout}
use Rattle.record.specs.declared.Tree.{Tree}
use Rattle.window.proofs.Blocks.{columns-item}
use Rattle.tree.specs.Child.{child}
use Rattle.tree.specs.Columns.{columns_at, siblings_at}
use Rattle.tree.specs.Tree.{leaf_at, from_siblings}
use Rattle.tree.proofs.Levels.{whole-levels, level_leaves}
use Rattle.ends.specs.Noise.Vectors as noise
use Rattle.ends.specs.Inner.Noise.{tree_siblings, trees_at, content_of}
use Rattle.ends.proofs.noise.Content.{correction-words, siblings-columns}
use Rattle.ends.specs.Inner.Scalar as scalar_ready
use Rattle.ends.specs.Scalar.Vectors as scalar
use Rattle.field.specs.Inner.Elements.{element_in}
use Rattle.ends_bench_leaves.specs.Inner.Vectors.{leaf_of}
use Rattle.ends_bench_leaves.specs.Inner.Trees.{tree_at, IsTree, Standing, punctured_at, StartsAt}
use Rattle.tree_walk.specs.Inner.Ways.{IsWay, IsBeside, FromSibling}
use Rattle.tree_walk.specs.declared.down.Start.{Start}
use Rattle.tree_walk.proofs.Ways.{is_beside}

-- ---- punctured, or not

module _ (vector : ℕ) (table : List Tree) (i j : ℕ) where
  pub never_punctured : vector ≡ 3 → false ≡ punctured_at vector table i j
  never_punctured e = sym (choose-true (eqb vector 3) false (eqb (tree_at table i).position j) (eq-eqb vector 3 e))

  pub is_punctured : (vector ≡ 3 → ⊥) → {t : Tree} → t ≡ tree_at table i → eqb t.position j ≡ punctured_at vector table i j
  is_punctured h q = ap (λ (t : Tree). eqb t.position j) q ∙ sym (choose-false (eqb vector 3) false (eqb (tree_at table i).position j) (ne_eqb vector 3 h))

  pub apart_of : {b : Bool} → b ≡ punctured_at vector table i j → b ≡ false → punctured_at vector table i j ≡ false
  apart_of p e = sym p ∙ e

  -- a punctured tree is the noise end's
  at_noise : punctured_at vector table i j ≡ true → (vector ≡ 3 → ⊥) × (eqb (tree_at table i).position j ≡ true)
  at_noise e = (λ v. let z : ◌≡◌ {A = ℕ} 0 1 = absurd (false-true (never_punctured v ∙ e)) in omega arith, noise-test (eqb vector 3) e)
    where
      false-true : false ≡ true → ⊥
      false-true q = let z : ◌≡◌ {A = ℕ} 0 1 = cc in omega arith

      noise-test : (t : Bool) → choose t false (eqb (tree_at table i).position j) ≡ true → eqb (tree_at table i).position j ≡ true
      noise-test true q = absurd (false-true q)
      noise-test false q = q

-- ---- the leaf of a tree

module _ (vector : ℕ) (s : List ℕ) (f : Layout) (table : List Tree) (stands : Standing vector s f table) (i j : ℕ) (more : i < f.trees) where
  tree_of : (vector ≡ 3 → ⊥) → IsTree s f i (tree_at table i)
  tree_of h = stands.trees h i more

  -- a punctured leaf is the correction
  pub punctured-leaf : {b : Bool} → b ≡ punctured_at vector table i j → b ≡ true → {t : Tree} → t ≡ tree_at table i
      → element_in f.field t.correction ≡ leaf_of vector s f i j
  unfolding leaf_of element_in
  punctured-leaf p e {t} te =
      let a = at_noise vector table i j (sym p ∙ e) in
      let same = (tree_of a.0).same in
      let K = kind_of f.field in
      let x : Value K.field = scalar.leaf (scalar_ready.content_of s f) i j in
      let y : Value K.field = noise.correction (content_of s f) i in
      let z : Value K.field = noise.leaf (content_of s f) i j in
      let hit : eqb (tree_in (trees_at s f) i).position j ≡ true = ap (λ (n : NoiseTree). eqb n.position j) same ∙ a.1 in
      ap (λ (u : Tree). element_in f.field u.correction) te
      ∙ correction-words f.field (tree_at table i).correction.low (tree_at table i).correction.high
      ∙ ap (λ (n : NoiseTree). K.field.elements.read n.correction 0) (sym same)
      ∙ sym (choose-true (eqb (tree_in (trees_at s f) i).position j) y z hit)
      ∙ sym (choose-false (eqb vector 3) x (choose (eqb (tree_in (trees_at s f) i).position j) y z) (ne_eqb vector 3 a.0))

  -- ---- at the scalar end a leaf is walked from its root

  module _ (v : vector ≡ 3) where
    pub root-asks : scalar_ready.roots_at f + 16 * f.trees ≤ length s
    root-asks = stands.roots v

    pub root-starts : {levels : ℕ} → levels ≡ f.depth / f.branch_bits → {place : ℕ} → place ≡ scalar_ready.roots_at f + 16 * i
        → StartsAt vector s f i j (record { at = place; left = levels })
    unfolding leaf_of
    root-starts {levels} e {place} pe =
        let k = 2 ^ f.branch_bits in
        let K = kind_of f.field in
        let x : Value K.field = scalar.leaf (scalar_ready.content_of s f) i j in
        let y : Value K.field = choose (eqb (tree_in (trees_at s f) i).position j) (noise.correction (content_of s f) i) (noise.leaf (content_of s f) i j) in
        record {
          leaf =
              ap₂ (λ (d : ℕ) (r : List (List ℕ)). K.leaf (leaf_at k child d r j)) e
              (ap (columns_at s) pe ∙ sym (columns-item s (scalar_ready.roots_at f) f.trees i more))
              ∙ sym (choose-true (eqb vector 3) x y (eq-eqb vector 3 v));
          fewer = omega arith;
          room = omega (arith, root-asks);
        }

  -- ---- at the noise end from the sibling that it follows from

  module _ (v : vector ≡ 3 → ⊥) (apart : punctured_at vector table i j ≡ false) {t : Tree} (te : t ≡ tree_at table i)
      {levels : ℕ} (le : levels ≡ f.depth / f.branch_bits) where
    elsewhere : eqb (tree_at table i).position j ≡ false
    elsewhere = is_punctured vector table i j v {t = tree_at table i} refl ∙ apart

    pub noise-way : IsWay f.branch_bits levels
    noise-way =
        record {
          branch = stands.sizes.branch;
          short = rw le (omega (arith, whole-levels f.branch_bits f.depth stands.sizes.divides, stands.sizes.depth));
        }

    pub noise-beside : j < 2 ^ f.depth → length s < 2 ^ 64 → IsBeside f.branch_bits levels t.position j t.siblings
    unfolding sibling_count
    noise-beside inside size =
        let g = f.branch_bits in
        let n : (2 ^ g) ^ levels ≡ 2 ^ f.depth = ap (λ (m : ℕ). (2 ^ g) ^ m) le ∙ level_leaves g f.depth stands.sizes.divides in
        let p : t.position ≡ (tree_at table i).position = ap (λ (u : Tree). u.position) te in
        is_beside
        noise-way
        (λ e.
        eqb-false (tree_at table i).position j elsewhere
        (sym p ∙ sym (mod-eq_of_lt (rw (n, p) (tree_of v).below)) ∙ e ∙ mod-eq_of_lt (rw n inside)))
        (rw (te, le) (omega (arith, (tree_of v).room)))

    pub sibling_starts : {r : Start} → FromSibling f.branch_bits levels t.position j t.siblings r → StartsAt vector s f i j r
    unfolding leaf_of sibling_count
    sibling_starts {r} from =
        let g = f.branch_bits in
        let k = 2 ^ g in
        let K = kind_of f.field in
        let same = (tree_of v).same in
        let x : Value K.field = scalar.leaf (scalar_ready.content_of s f) i j in
        let y : Value K.field = noise.correction (content_of s f) i in
        let z : Value K.field = noise.leaf (content_of s f) i j in
        let away : eqb (tree_in (trees_at s f) i).position j ≡ false = ap (λ (n : NoiseTree). eqb n.position j) same ∙ elsewhere in
        record {
          leaf =
              ap K.leaf (from.leaf s
              ∙ ap₂ (λ (u : Tree) (d : ℕ). from_siblings k child [] (siblings_at s u.siblings (d * (k - 1))) d u.position j) te le
              ∙ ap (λ (xs : List (List (List ℕ))). from_siblings k child [] xs (f.depth / g) (tree_at table i).position j)
              (sym (siblings-columns s (tree_at table i).siblings (tree_siblings f)))
              ∙ ap (λ (n : NoiseTree). from_siblings k child [] (map (λ b. columns_at b 0) n.siblings) (f.depth / g) n.position j) (sym same))
              ∙ sym (choose-false (eqb (tree_in (trees_at s f) i).position j) y z away)
              ∙ sym (choose-false (eqb vector 3) x (choose (eqb (tree_in (trees_at s f) i).position j) y z) (ne_eqb vector 3 v));
          fewer = rw le at from.fewer;
          room =
              let q : r.at + 16 ≤ (tree_at table i).siblings + 16 * (f.depth / g * (2 ^ g - 1)) = rw (te, le) at from.room in
              omega (arith, (tree_of v).room);
        }
