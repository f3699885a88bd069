-- Trees added in place, one a turn: the buffer before the first tree, after each and after the last; at the noise end also what is left
-- of the record, and the noise values stored.
use mathlib.Core.Path.{◌≡◌, sym, ap, ap₂, ◌∙◌}
use mathlib.Core.Bool.{Bool, true, false}
use mathlib.Core.List.{List, [], ◌∷◌, map}
use Prim.Native.Nat.{ℕ, ◌+◌, ◌-◌, ◌*◌, ◌/◌, ◌%◌, ◌^◌, ◌≤◌, ◌<◌}
use native.Mathlib.Nat.{le_antisymm, mul-one}
use native.Mathlib.Numerals.{add-one}
use native.Mathlib.Omega.{arith}
use lib.Dec.{eqb}
use lib.ListN.{length, get_or, drop, replicate, set}
use lib.Pow.{pow_mono, pow_pos}
use Rattle.algebra.specs.Choice.{choose}
use Rattle.algebra.specs.Coding.{flat}
use Rattle.algebra.specs.Inner.Put.{put}
use Rattle.algebra.specs.Expansion.{noise, punctured, whole}
use Rattle.algebra.specs.Field.{Value}
use Rattle.algebra.proofs.Coding.{flat_cong, length-flat}
use Rattle.algebra.proofs.Sum.{sum-none}
use Rattle.field.specs.Kind.{kind_of, binary_kind, prime_kind, element_words}
use Rattle.prime.specs.Prime.{prime}
use Rattle.field.proofs.BothKinds.{kind_laws}
use Rattle.algebra.proofs.Words.{put_one}
use Rattle.number.specs.Reading.{Whole}
use Rattle.record.specs.Content.{NoiseTree, tree_in, sibling_count}
use Rattle.record.specs.Reading.{read_tree, read_trees}
use Rattle.record.specs.Inner.Answers.{tree_of}
use Rattle.record.specs.declared.Layout.{Layout}
use Rattle.record.specs.declared.Tree.{Tree}
use Rattle.record.proofs.Callers.{again_at, tree_ranges}
use Rattle.tree.specs.Added.{added, leaf_element, punctured_element}
use Rattle.tree.specs.Child.{child, child_by}
use Rattle.tree.specs.Inner.Keys.{keys_for}
use Rattle.tree.specs.Columns.{columns_at, siblings_at}
use Rattle.tree.specs.Expanded.{leaves_added, punctured_added}
use Rattle.tree.specs.Inner.Branches.{IsBranch, IsPunctured}
use Rattle.tree.specs.KeySchedules.{OfChildKeys}
use Rattle.tree.specs.Tree.{from_siblings}
use Rattle.tree.specs.declared.punctured.Punctured.{Punctured}
use Rattle.tree.proofs.ChildLaws.{filled_by, punctured_by}
use Rattle.tree.proofs.Levels.{whole-levels, level_leaves}
use Rattle.window.specs.Head.{of_noise}
use Rattle.window.proofs.Blocks.{columns-item}
use Rattle.algebra.proofs.Flats.{put-flat}
use Rattle.field.proofs.KindOf.{zero-elements, zero-noise}
use Rattle.tree.proofs.Sums.{trees_sum, length-trees, trees-none, trees_more}
use Rattle.ends.specs.Noise.Vectors.{value, correction, leaf, mu, v0}
use Rattle.ends.specs.Scalar.Vectors as scalar_vectors
use Rattle.ends.specs.Inner.Noise.{Ready, TreeRead, tree_siblings, trees_at, content_of}
use Rattle.ends.specs.Inner.Scalar as scalar
use Rattle.ends.proofs.Vectors.{noise-laws}
use Rattle.ends.proofs.noise.Content.{correction-words, siblings-columns}
use Rattle.ends.proofs.noise.Content.{ready as noise_ready}
use Rattle.std.specs.Prelude.{Some}
use Rattle.ends_calls.specs.Inner.Trees.{GivesTree}
use Rattle.ends_calls.specs.declared.accepted.NoiseRecord.{NoiseRecord}
use Rattle.ends_calls.specs.declared.trees.Trees.{Trees}

-- ---- the trees of either end

-- a buffer after i trees: at each place the sum of their leaves there
pub record Added (f : Layout) (leaf : ℕ → ℕ → Value (kind_of f.field).field) (i : ℕ) (v : List ℕ) : Type 0 where
  pub within : i ≤ f.trees
  pub words : v ≡ trees_sum (kind_of f.field).field (2 ^ f.depth) leaf i
  pub size : length v ≡ 2 ^ f.depth * element_words f.field

module _ (f : Layout) (leaf : ℕ → ℕ → Value (kind_of f.field).field) where
  after : (i : ℕ) → i ≤ f.trees → {v : List ℕ} → v ≡ trees_sum (kind_of f.field).field (2 ^ f.depth) leaf i → Added f leaf i v
  after i h e =
      record { within = h; words = e; size = ap length e ∙ length-trees (kind_of f.field).field (kind_laws f.field).field (2 ^ f.depth) leaf i }

  pub added_none : {n : ℕ} → n ≡ 2 ^ f.depth * element_words f.field → {v : List ℕ} → v ≡ replicate n 0 → Added f leaf 0 v
  added_none h z =
      after 0 (omega arith) (trees-none (kind_of f.field).field (kind_laws f.field).field (2 ^ f.depth) leaf (zero-elements f.field) z h)

  module _ {i : ℕ} {v : List ℕ} (a : Added f leaf i v) where
    -- one tree more, by its levels
    added_more : i < f.trees → f.depth % f.branch_bits ≡ 0 → (F : ℕ → Value (kind_of f.field).field) {next : List ℕ}
        → next ≡ added (kind_of f.field).field ((2 ^ f.branch_bits) ^ (f.depth / f.branch_bits)) F v
        → ((j : ℕ) → j < 2 ^ f.depth → F j ≡ leaf i j) → Added f leaf (i + 1) next
    added_more more divides F q same =
        after (i + 1) (omega arith)
        (trees_more (kind_of f.field).field (kind_laws f.field).field (2 ^ f.depth) leaf i F a.words
        (q ∙ ap (λ (N : ℕ). added (kind_of f.field).field N F v) (level_leaves f.branch_bits f.depth divides)) same)

    added-all : f.trees ≤ i → v ≡ trees_sum (kind_of f.field).field (2 ^ f.depth) leaf f.trees
    added-all h = a.words ∙ ap (trees_sum (kind_of f.field).field (2 ^ f.depth) leaf) (le_antisymm {n = i} {m = f.trees} a.within h)

-- ---- the scalar end's

pub root_is : (s : List ℕ) (f : Layout) (i : ℕ) → i < f.trees → {place : ℕ} → place ≡ scalar.roots_at f + 16 * i → {root : List (List ℕ)}
    → root ≡ columns_at s place → root ≡ columns_at (get_or (scalar.content_of s f).roots i []) 0
root_is s f i h p e = e ∙ rw p (sym (columns-item s (scalar.roots_at f) f.trees i h))

-- after i trees, under the child keys' round keys
pub record Rooted (s : List ℕ) (f : Layout) (keys : List (List ℕ)) (i : ℕ) (v : List ℕ) : Type 0 where
  pub ready : scalar.Ready s f
  pub own : OfChildKeys (2 ^ f.branch_bits) (keys_for keys)
  pub added : Added f (scalar_vectors.leaf (scalar.content_of s f)) i v

module _ (s : List ℕ) (f : Layout) where
  pub rooted_none : scalar.Ready s f → {keys : List (List ℕ)} → OfChildKeys (2 ^ f.branch_bits) (keys_for keys)
      → {n : ℕ} → n ≡ 2 ^ f.depth * element_words f.field → {v : List ℕ} → v ≡ replicate n 0 → Rooted s f keys 0 v
  rooted_none ready own size z = record { ready = ready; own = own; added = added_none f (scalar_vectors.leaf (scalar.content_of s f)) size z }

  module _ {keys : List (List ℕ)} {i : ℕ} {v : List ℕ} (g : Rooted s f keys i v) where
    pub rooted_more : i < f.trees → {root : List (List ℕ)} → root ≡ columns_at (get_or (scalar.content_of s f).roots i []) 0
        → {levels : ℕ} → levels ≡ f.depth / f.branch_bits → {next : List ℕ}
        → next ≡ leaves_added (kind_of f.field) (2 ^ f.branch_bits) (child_by (keys_for keys)) levels root v → Rooted s f keys (i + 1) next
    unfolding leaf_element
    rooted_more more {root} e le q =
        let K = kind_of f.field in
        let k = 2 ^ f.branch_bits in
        let d = f.depth / f.branch_bits in
        record {
          ready = g.ready;
          own = g.own;
          added = added_more f (scalar_vectors.leaf (scalar.content_of s f)) g.added more g.ready.sizes.divides (leaf_element K.leaf k child d root)
              (rw le at q ∙ filled_by k (keys_for keys) (pow_pos f.branch_bits) g.own K (kind_laws f.field).field d root v)
              (λ j b. ap (λ (x : List (List ℕ)). leaf_element K.leaf k child d x j) e);
        }

    pub rooted_all : f.trees ≤ i → v ≡ flat (kind_of f.field).field.elements (2 ^ f.depth) (scalar_vectors.w0 (scalar.content_of s f))
    unfolding trees_sum scalar_vectors.w0 whole
    rooted_all h = added-all f (scalar_vectors.leaf (scalar.content_of s f)) g.added h

-- ---- a tree of the noise end

pub tree-read : (s : List ℕ) (f : Layout) (n place base : ℕ) (t : Tree) → f.depth ≤ 16 → n ≡ tree_siblings f → length s < 2 ^ 64
    → Whole (tree_of s f.field n t, t.siblings + 16 * n) ≡ read_tree f.field f.depth n base s place → TreeRead s f n place base t
tree-read s f n place base t levels count size e =
    let r = tree_ranges f.field f.depth n base s place (sym e) in
    record { read = e; below = r.below; small = omega (arith, r.below, pow_mono levels); room = rw count at r.room; fits = omega (arith, r.room) }

-- a tree by its levels
module _ (g d : ℕ) (divides : d % g ≡ 0) (position place : ℕ) where
  pub tree-punctured : IsBranch g → d ≤ 16 → (source : ℕ) → place + 16 * sibling_count d g ≤ source
      → IsPunctured (record { branch_bits = g; levels = d / g; position = position; at = place }) source
  unfolding sibling_count
  tree-punctured branch most source room = record { branch = branch; short = omega (arith, whole-levels g d divides, most); room = room }

  pub tree-position : position < 2 ^ d → position < (2 ^ g) ^ (d / g)
  tree-position below = rw (level_leaves g d divides) below

-- a noise value is stored as its word
stores : (field : ℕ) (l : List ℕ) (p x : ℕ) → p < length l
    → set l p x ≡ put (kind_of field).field.noise_values l p ((kind_of field).field.noise_values.read (x ∷ []) 0)
stores field l p x h = of (eqb field 1)
  where
    of : (b : Bool) → set l p x
        ≡ put (choose b binary_kind prime_kind).field.noise_values l p ((choose b binary_kind prime_kind).field.noise_values.read (x ∷ []) 0)
    of true = sym (put_one (λ b. b) (λ w. w) l p x h)
    of false = sym (put_one (λ a. a.word) prime l p (prime x) h)

-- ---- all its trees

-- the words of the noise after i trees
unfoldable pub Noise : List ℕ → Layout → ℕ → List ℕ
Noise s f i =
    flat (kind_of f.field).field.noise_values (2 ^ f.depth)
    (noise (kind_of f.field).field.ring i (λ k. (tree_in (trees_at s f) k).position) (value (content_of s f)))

-- a tree of it
abbrev punctured_of : Layout → Tree → Punctured
punctured_of f t = record { branch_bits = f.branch_bits; levels = f.depth / f.branch_bits; position = t.position; at = t.siblings }

-- the leaf j of tree i, the correction standing in for the punctured leaf
abbrev punctured_leaves : (s : List ℕ) (f : Layout) → ℕ → ℕ → Value (kind_of f.field).field
punctured_leaves s f i j = choose (eqb (tree_in (trees_at s f) i).position j) (correction (content_of s f) i) (leaf (content_of s f) i j)

-- after i trees of so many siblings, under the child keys' round keys: what is left of the record from a place on, after positions
-- below `base`, the noise values stored, the trees added
pub record Grown (s : List ℕ) (f : Layout) (keys : List (List ℕ)) (n place base i : ℕ) (w v : List ℕ) : Type 0 where
  pub ready : Ready s f
  pub own : OfChildKeys (2 ^ f.branch_bits) (keys_for keys)
  pub siblings : n ≡ tree_siblings f
  pub few : n ≤ 112
  pub end : ℕ
  pub rest : read_trees f.field f.depth n (f.trees - i) base s place ≡ Whole (drop i (trees_at s f), end)
  pub noise : w ≡ Noise s f i
  pub noise-size : length w ≡ 2 ^ f.depth
  pub added : Added f (punctured_leaves s f) i v

module _ (s : List ℕ) (f : Layout) where
  length-noise : (i : ℕ) → length (Noise s f i) ≡ 2 ^ f.depth
  unfolding Noise
  length-noise i =
      length-flat (kind_of f.field).field.noise_values (kind_laws f.field).field.noise_values (2 ^ f.depth) _
      ∙ ap (λ (n : ℕ). 2 ^ f.depth * n) (kind_laws f.field).noise-width ∙ mul-one (2 ^ f.depth)

  noise-none : {n : ℕ} → n ≡ 2 ^ f.depth → {w : List ℕ} → w ≡ replicate n 0 → w ≡ Noise s f 0
  unfolding Noise noise trees_sum
  noise-none h z =
      let K = kind_of f.field in
      trees-none (of_noise K.field) (noise-laws f.field) (2 ^ f.depth) (λ k j. K.field.ring.group.zero) (zero-noise f.field) z
      (h ∙ sym (ap (λ (n : ℕ). 2 ^ f.depth * n) (kind_laws f.field).noise-width ∙ mul-one (2 ^ f.depth)))
      ∙ flat_cong K.field.noise_values (kind_laws f.field).field.noise_values (2 ^ f.depth) _ _
      (λ j b. sum-none K.field.ring.group (λ k. K.field.ring.group.zero))

  noise-stored : (i : ℕ) {w : List ℕ} → w ≡ Noise s f i → (t : Tree) (n : ℕ) → tree_in (trees_at s f) i ≡ tree_of s f.field n t
      → t.position < 2 ^ f.depth → t.position < length w → set w t.position t.value ≡ Noise s f (i + 1)
  unfolding Noise noise
  noise-stored i {w} e t n same below inside =
      let C = (kind_of f.field).field.noise_values in
      let R = (kind_of f.field).field.ring in
      let g = noise R i (λ k. (tree_in (trees_at s f) k).position) (value (content_of s f)) in
      let p : t.position ≡ (tree_in (trees_at s f) i).position = ap (λ (x : NoiseTree). x.position) (sym same) in
      let x : C.read (t.value ∷ []) 0 ≡ value (content_of s f) i = ap (λ (x : NoiseTree). C.read (x.value ∷ []) 0) (sym same) in
      stores f.field w t.position t.value inside
      ∙ ap₂ (λ (l : List ℕ) (k : ℕ). put C l k (C.read (t.value ∷ []) 0)) e p
      ∙ ap (put C (flat C (2 ^ f.depth) g) (tree_in (trees_at s f) i).position) x
      ∙ put-flat C (kind_laws f.field).field.noise_values (2 ^ f.depth) g (tree_in (trees_at s f) i).position (value (content_of s f) i) (rw (← p) below)
      ∙ ap (λ (n : ℕ). flat C (2 ^ f.depth) (noise R n (λ k. (tree_in (trees_at s f) k).position) (value (content_of s f)))) (sym (add-one i))

  pub grown_none : Ready s f → {keys : List (List ℕ)} → OfChildKeys (2 ^ f.branch_bits) (keys_for keys) → {k : ℕ} → (k ≡ tree_siblings f) × (k ≤ 112)
      → {n m : ℕ} → n ≡ 2 ^ f.depth → m ≡ 2 ^ f.depth * element_words f.field
      → {w v : List ℕ} → w ≡ replicate n 0 → v ≡ replicate m 0 → Grown s f keys k f.body 0 0 w v
  grown_none ready own {k} count values size wz vz =
      let n = noise-none values wz in
      record {
        ready = ready;
        own = own;
        siblings = count.0;
        few = count.1;
        end = ready.end;
        rest = ap (λ (x : ℕ). read_trees f.field f.depth x (f.trees - 0) 0 s f.body) count.0 ∙ ready.trees;
        noise = n;
        noise-size = ap length n ∙ length-noise 0;
        added = added_none f (punctured_leaves s f) size vz;
      }

  module _ {keys : List (List ℕ)} {n place base i : ℕ} {w v : List ℕ} (g : Grown s f keys n place base i w v) where
    pub grown_more : i < f.trees → {t : Tree} → TreeRead s f n place base t → {next : List ℕ}
        → next ≡ punctured_added (kind_of f.field) (2 ^ f.branch_bits) (child_by (keys_for keys)) (punctured_of f t) s
        ((kind_of f.field).field.elements.read (t.correction.low ∷ t.correction.high ∷ []) 0) v
        → Grown s f keys n (t.siblings + 16 * n) (t.position + 1) (i + 1) (set w t.position t.value) next
    unfolding punctured_element sibling_count
    grown_more more {t} known q =
        let a = again_at f.field f.depth n f.trees base s place i more (trees_at s f) (tree_in [] 0) g.rest known.read in
        let z = noise-stored i g.noise t n a.0 known.below (omega (arith, g.noise-size, known.below)) in
        let K = kind_of f.field in
        let k = 2 ^ f.branch_bits in
        let d = f.depth / f.branch_bits in
        let c = K.field.elements.read (t.correction.low ∷ t.correction.high ∷ []) 0 in
        record {
          ready = g.ready;
          own = g.own;
          siblings = g.siblings;
          few = g.few;
          end = g.end;
          rest = a.1;
          noise = z;
          noise-size = ap length z ∙ length-noise (i + 1);
          added = added_more f (punctured_leaves s f) g.added more g.ready.sizes.divides
              (punctured_element K.leaf k child [] (siblings_at s t.siblings (tree_siblings f)) d t.position c)
              (q ∙ punctured_by k (keys_for keys) (pow_pos f.branch_bits) g.own K (kind_laws f.field).field (punctured_of f t) s c v)
              (λ j b.
              ap₂ (λ (x : Value K.field) (xs : List (List (List ℕ))).
              choose (eqb t.position j) x (K.leaf (from_siblings k child [] xs d t.position j)))
              (correction-words f.field t.correction.low t.correction.high)
              (ap (siblings_at s t.siblings) (sym g.siblings) ∙ sym (siblings-columns s t.siblings n))
              ∙ ap (λ (x : NoiseTree). choose (eqb x.position j) (K.field.elements.read x.correction 0)
              (K.leaf (from_siblings k child [] (map (λ b. columns_at b 0) x.siblings) d x.position j))) (sym a.0));
        }

    module _ (done : f.trees ≤ i) where
      pub grown_mu : w ≡ flat (kind_of f.field).field.noise_values (2 ^ f.depth) (mu (content_of s f))
      unfolding Noise mu
      grown_mu = g.noise ∙ ap (Noise s f) (le_antisymm {n = i} {m = f.trees} g.added.within done)

      pub grown_v0 : v ≡ flat (kind_of f.field).field.elements (2 ^ f.depth) (v0 (content_of s f))
      unfolding trees_sum v0 punctured
      grown_v0 = added-all f (punctured_leaves s f) g.added done

-- the same by the iterator over its trees
pub record Passing (r : NoiseRecord) (keys : List (List ℕ)) (it : Trees) (w v : List ℕ) : Type 0 where
  pub same : it.record ≡ r
  pub within : it.left ≤ r.layout.trees
  pub grown : Grown r.source.now r.layout keys it.siblings it.at it.base (r.layout.trees - it.left) w v

module _ (r : NoiseRecord) (keys : List (List ℕ)) where
  pub passing_none : OfChildKeys (2 ^ r.layout.branch_bits) (keys_for keys) → (it : Trees)
      → (it.record ≡ r) × (it.siblings ≡ tree_siblings r.layout) × (it.at ≡ r.layout.body) × (it.base ≡ 0) × (it.left ≡ r.layout.trees)
      → {n m : ℕ} → n ≡ 2 ^ r.layout.depth → m ≡ 2 ^ r.layout.depth * element_words r.layout.field
      → {w v : List ℕ} → w ≡ replicate n 0 → v ≡ replicate m 0 → Passing r keys it w v
  passing_none own it e values size wz vz =
      let s = r.source.now in
      let f = r.layout in
      let none : 0 ≡ f.trees - it.left = omega (arith, e.4) in
      record {
        same = e.0;
        within = omega (arith, e.4);
        grown = rw (e.2, e.3, ← none) (grown_none s f (noise_ready s r.accepted) own (e.1, it.rest.few) values size wz vz);
      }

  module _ {it : Trees} {w v : List ℕ} (p : Passing r keys it w v) where
    module _ {t : Tree} (next : Trees) (step : GivesTree it (Some t) next) where
      pub passing_read : TreeRead r.source.now r.layout it.siblings it.at it.base t
      passing_read = rw (← p.same) step.0

      pub passing_more : {more : List ℕ}
          → more ≡ punctured_added (kind_of r.layout.field) (2 ^ r.layout.branch_bits) (child_by (keys_for keys)) (punctured_of r.layout t) r.source.now
          ((kind_of r.layout.field).field.elements.read (t.correction.low ∷ t.correction.high ∷ []) 0) v
          → Passing r keys next (set w t.position t.value) more
      passing_more q =
          let trees = r.layout.trees in
          let one : trees - it.left + 1 ≡ trees - next.left = omega (arith, p.within, step.1) in
          record {
            same = step.2 ∙ p.same;
            within = omega (arith, p.within, step.1);
            grown = rw (step.3, step.4, step.5, ← one) (grown_more r.source.now r.layout p.grown (omega (arith, p.within, step.1)) passing_read q);
          }

    module _ (none : it.left ≡ 0) where
      pub passing_mu : w ≡ flat (kind_of r.layout.field).field.noise_values (2 ^ r.layout.depth) (mu (content_of r.source.now r.layout))
      passing_mu = grown_mu r.source.now r.layout p.grown (omega (arith, none))

      pub passing_v0 : v ≡ flat (kind_of r.layout.field).field.elements (2 ^ r.layout.depth) (v0 (content_of r.source.now r.layout))
      passing_v0 = grown_v0 r.source.now r.layout p.grown (omega (arith, none))
