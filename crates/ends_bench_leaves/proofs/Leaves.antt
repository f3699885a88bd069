-- The value of a vector at a place: a walk in one tree, walks in two, and the sum over all trees; μ by the positions.
use mathlib.Core.Path.{◌≡◌, refl, sym, ap, ap₂, ◌∙◌}
use mathlib.Core.Bool.{Bool, true, false, ◌||◌}
use mathlib.Core.List.{List, [], ◌∷◌}
use Prim.Native.Nat.{ℕ, zero, suc, ◌+◌, ◌*◌, ◌/◌, ◌^◌, ◌≤◌, ◌<◌}
use native.Mathlib.Nat.{le_antisymm, mul-le-mul_right}
use native.Mathlib.Numerals.{add-one}
use native.Mathlib.Omega.{arith}
use lib.Dec.{eqb}
use borrow.Author.Tests.{eq-eqb, ne_eqb}
use Rattle.algebra.specs.Choice.{choose}
use Rattle.algebra.specs.Expansion.{noise, punctured, whole}
use Rattle.algebra.specs.Field.{Value, NoiseValue}
use Rattle.algebra.specs.Group.{Group}
use Rattle.algebra.proofs.Choice.{choose-true, choose-false, choose-map}
use Rattle.algebra.proofs.Sum.{sum-none, sum-suc, sum_cong}
use Rattle.algebra.proofs.Tests.{or_none}
use Rattle.field.specs.Kind.{kind_of}
use Rattle.field.proofs.BothKinds.{kind_laws}
use Rattle.record.specs.Content.{NoiseTree}
use Rattle.record.specs.declared.Layout.{Layout}
use Rattle.record.specs.declared.Tree.{Tree}
use Rattle.tree.specs.Child.{child, child_by}
use Rattle.tree.specs.Inner.Keys.{keys_for}
use Rattle.tree.specs.Columns.{columns_at}
use Rattle.tree.specs.KeySchedules.{OfChildKeys}
use Rattle.tree.specs.Tree.{leaf_at}
use Rattle.tree.proofs.Laws.{leaf-none}
use Rattle.tree.proofs.Levels.{whole-levels}
use Rattle.ends.specs.Noise.Vectors as noise_end
use Rattle.ends.specs.Inner.Noise.{content_of}
use Rattle.ends.specs.Scalar.Vectors as scalar_end
use Rattle.field.specs.Inner.Elements.{noise_in, element_in}
use Rattle.field.proofs.Elements.{element-zero, noise-zero}
use Rattle.ends_bench_leaves.specs.Inner.Vectors.{field_by, element_value, leaf_of, leaves_of, values_by, values_of}
use Rattle.ends_bench_leaves.specs.Inner.Trees.{tree_at, TreesIn, Standing, Walking, punctured_at, StartsAt, TwoStarts, two_leaves, noise_word}
use Rattle.field.specs.declared.element.Element.{Element}
use Rattle.tree_walk.specs.Inner.Ways.{IsWay}
use Rattle.tree_walk.specs.declared.down.Start.{Start}
use Rattle.tree_walk.proofs.Ways.{walked-leaf}

-- ---- one tree, and two

-- a walk to where both have as many levels left, and one from there
pub on_down : (k : ℕ) (child : ℕ → List (List ℕ) → List (List ℕ)) (stop : ℕ) (x : List (List ℕ)) (j : ℕ) {r y : List (List ℕ)}
    → r ≡ leaf_at k child stop x j → leaf_at k child stop x j ≡ y → r ≡ y
on_down k child stop x j p q = p ∙ q

-- a walk from a start under the round keys of the child keys
down : (s : List ℕ) (f : Layout) (keys : List (List ℕ)) → OfChildKeys (2 ^ f.branch_bits) (keys_for keys) → (r : Start) (j : ℕ)
    → {node leaf : List (List ℕ)} → node ≡ columns_at s r.at → leaf ≡ leaf_at (2 ^ f.branch_bits) (child_by (keys_for keys)) r.left node j
    → leaf ≡ leaf_at (2 ^ f.branch_bits) child r.left (columns_at s r.at) j
down s f keys own r j n q =
    q ∙ ap (λ (x : List (List ℕ)). leaf_at (2 ^ f.branch_bits) (child_by (keys_for keys)) r.left x j) n
    ∙ walked-leaf f.branch_bits keys own r.left (columns_at s r.at) j

module _ (vector : ℕ) (s : List ℕ) (f : Layout) (table : List Tree) (keys : List (List ℕ)) (walking : Walking vector s f table keys) where
  pub start-way : {i j : ℕ} {r : Start} → StartsAt vector s f i j r → IsWay f.branch_bits r.left
  start-way {r = r} start =
      let sizes = walking.standing.sizes in
      let m : r.left * f.branch_bits ≤ f.depth / f.branch_bits * f.branch_bits = mul-le-mul_right f.branch_bits start.fewer in
      record { branch = sizes.branch; short = omega (arith, whole-levels f.branch_bits f.depth sizes.divides, sizes.depth) }

  pub leaf_walked : {i j : ℕ} {r : Start} → StartsAt vector s f i j r → {node leaf columns : List (List ℕ)} → node ≡ columns_at s r.at
      → leaf_at (2 ^ f.branch_bits) (child_by (keys_for keys)) 0 leaf j ≡ leaf_at (2 ^ f.branch_bits) (child_by (keys_for keys)) r.left node j
      → columns ≡ leaf → (e : Element) → element_in f.field e ≡ (kind_of f.field).leaf columns → element_in f.field e ≡ leaf_of vector s f i j
  leaf_walked {j = j} {r} start {leaf = leaf} n w c e q =
      q ∙ ap (kind_of f.field).leaf
      (c ∙ down s f keys walking.own r j n (sym (leaf-none (2 ^ f.branch_bits) (child_by (keys_for keys)) leaf j) ∙ w))
      ∙ start.leaf

  pub two-starts : {i k j : ℕ} {a b : Start} → StartsAt vector s f i j a → StartsAt vector s f k j b → TwoStarts s f keys a b
  two-starts x y = record { own = walking.own; one = start-way x; other = start-way y; first_room = x.room; second_room = y.room }

pub two-leaves_are : (vector : ℕ) (s : List ℕ) (f : Layout) {i k j : ℕ} {a b : Start} → StartsAt vector s f i j a → StartsAt vector s f k j b
    → (e : Element) → element_in f.field e ≡ two_leaves s f a b j
    → element_in f.field e ≡ (kind_of f.field).field.scaled.group.add (leaf_of vector s f i j) (leaf_of vector s f k j)
unfolding two_leaves
two-leaves_are vector s f x y e q = q ∙ ap₂ (kind_of f.field).field.scaled.group.add x.leaf y.leaf

pub sums_are : (field : ℕ) {x y : Value (kind_of field).field} (a b e : Element) → element_in field a ≡ x → element_in field b ≡ y
    → element_in field e ≡ (kind_of field).field.scaled.group.add (element_in field a) (element_in field b)
    → element_in field e ≡ (kind_of field).field.scaled.group.add x y
sums_are field a b e p q r = r ∙ ap₂ (kind_of field).field.scaled.group.add p q

pub two-walked_are : (s : List ℕ) (f : Layout) (keys : List (List ℕ)) (a b : Start) (j : ℕ) → TwoStarts s f keys a b
    → {m n x y p q : List (List ℕ)} → m ≡ columns_at s a.at → n ≡ columns_at s b.at
    → x ≡ leaf_at (2 ^ f.branch_bits) (child_by (keys_for keys)) a.left m j → y ≡ leaf_at (2 ^ f.branch_bits) (child_by (keys_for keys)) b.left n j
    → p ≡ x → q ≡ y → (c d e : Element)
    → element_in f.field e ≡ (kind_of f.field).field.scaled.group.add (element_in f.field c) (element_in f.field d)
    → element_in f.field c ≡ (kind_of f.field).leaf p → element_in f.field d ≡ (kind_of f.field).leaf q → element_in f.field e ≡ two_leaves s f a b j
unfolding two_leaves
two-walked_are s f keys a b j both me ne xe ye pe qe c d e ee ce de =
    sums_are f.field c d e
    (ce ∙ ap (kind_of f.field).leaf (pe ∙ down s f keys both.own a j me xe))
    (de ∙ ap (kind_of f.field).leaf (qe ∙ down s f keys both.own b j ne ye))
    ee

-- neither tree is punctured there
module _ (vector : ℕ) (table : List Tree) (i j : ℕ) {t : Bool} (e : t ≡ (punctured_at vector table i j || punctured_at vector table (i + 1) j)) (h : t ≡ false) where
  neither : (punctured_at vector table i j ≡ false) × (punctured_at vector table (i + 1) j ≡ false)
  neither = or_none (punctured_at vector table i j) (punctured_at vector table (i + 1) j) (sym e ∙ h)

  pub first-apart : punctured_at vector table i j ≡ false
  first-apart = neither.0

  pub second-apart : punctured_at vector table (i + 1) j ≡ false
  second-apart = neither.1

module _ (vector : ℕ) (table : List Tree) (i j : ℕ) {t : Bool} (e : t ≡ punctured_at vector table i j) where
  pub either_first : t ≡ true → true ≡ (punctured_at vector table i j || punctured_at vector table (i + 1) j)
  either_first h = sym (rw (← e, h))

  pub either_second : t ≡ false → {u : Bool} → u ≡ punctured_at vector table (i + 1) j → u ≡ (punctured_at vector table i j || punctured_at vector table (i + 1) j)
  either_second h q = q ∙ sym (rw (← e, h))

-- ---- the sum over the trees

-- the sum of the first i trees' leaves at j
pub record Partly (vector : ℕ) (s : List ℕ) (f : Layout) (j i : ℕ) (total : Element) : Type 0 where
  pub within : i ≤ f.trees
  pub sum : element_in f.field total ≡ leaves_of vector s f i j

module _ (vector : ℕ) (s : List ℕ) (f : Layout) (j : ℕ) where
  abbrev G : Group
  G = (kind_of f.field).field.scaled.group

  one_more : (i : ℕ) → G.add (leaves_of vector s f i j) (leaf_of vector s f i j) ≡ leaves_of vector s f (suc i) j
  unfolding leaves_of
  one_more i = sym (sum-suc G i (λ k. leaf_of vector s f k j))

  pub partly_none : Partly vector s f j 0 (record { low = 0; high = 0 })
  unfolding leaves_of
  partly_none = record { within = omega arith; sum = element-zero f.field ∙ sym (sum-none G (λ k. leaf_of vector s f k j)) }

  module _ {i : ℕ} {total : Element} (p : Partly vector s f j i total) where
    pub partly_two : i + 1 < f.trees → (both : Element) {next : Element}
        → element_in f.field both ≡ (kind_of f.field).field.scaled.group.add (leaf_of vector s f i j) (leaf_of vector s f (i + 1) j)
        → element_in f.field next ≡ (kind_of f.field).field.scaled.group.add (element_in f.field total) (element_in f.field both)
        → Partly vector s f j (i + 2) next
    partly_two h both {next} q r =
        record {
          within = omega arith;
          sum =
              sums_are f.field total both next p.sum q r
              ∙ sym ((kind_laws f.field).field.scaled.group.add_assoc (leaves_of vector s f i j) (leaf_of vector s f i j) (leaf_of vector s f (i + 1) j))
              ∙ ap₂ (λ (x : Value (kind_of f.field).field) (k : ℕ). G.add x (leaf_of vector s f k j)) (one_more i) (add-one i)
              ∙ one_more (suc i) ∙ ap (λ (n : ℕ). leaves_of vector s f n j) {x = suc (suc i)} {y = i + 2} (omega arith);
        }

    pub partly_all : f.trees ≤ i → element_in f.field total ≡ leaves_of vector s f f.trees j
    partly_all h = p.sum ∙ ap (λ (n : ℕ). leaves_of vector s f n j) (le_antisymm {n = i} {m = f.trees} p.within h)

    pub partly_last : i < f.trees → f.trees ≤ i + 1 → (last next : Element) → element_in f.field last ≡ leaf_of vector s f i j
        → element_in f.field next ≡ (kind_of f.field).field.scaled.group.add (element_in f.field total) (element_in f.field last)
        → element_in f.field next ≡ leaves_of vector s f f.trees j
    partly_last h k last next q r =
        sums_are f.field total last next p.sum q r ∙ one_more i ∙ ap (λ (n : ℕ). leaves_of vector s f n j) {x = suc i} {y = f.trees} (omega arith)

-- ---- μ

module _ (table : List Tree) (i j noise : ℕ) {t : Tree} (te : t ≡ tree_at table i) where
  pub noise_hit : t.position ≡ j → t.value ≡ choose (eqb (tree_at table i).position j) (tree_at table i).value noise
  noise_hit h =
      ap (λ (u : Tree). u.value) te
      ∙ sym (choose-true (eqb (tree_at table i).position j) (tree_at table i).value noise (eq-eqb _ _ (ap (λ (u : Tree). u.position) (sym te) ∙ h)))

  pub noise_miss : (t.position ≡ j → ⊥) → noise ≡ choose (eqb (tree_at table i).position j) (tree_at table i).value noise
  noise_miss h =
      sym (choose-false (eqb (tree_at table i).position j) (tree_at table i).value noise (ne_eqb _ _ (λ e. h (ap (λ (u : Tree). u.position) te ∙ e))))

module _ (table : List Tree) (j : ℕ) where
  pub word_none : 0 ≡ noise_word table 0 j
  unfolding noise_word
  word_none = refl

  module _ (i : ℕ) {w : ℕ} (e : w ≡ noise_word table i j) where
    pub word_more : {next : ℕ} → next ≡ choose (eqb (tree_at table i).position j) (tree_at table i).value w → next ≡ noise_word table (i + 1) j
    unfolding noise_word
    word_more q =
        q ∙ ap (choose (eqb (tree_at table i).position j) (tree_at table i).value) e ∙ sym (ap (λ (n : ℕ). noise_word table n j) (add-one i))

    pub word-all : (n : ℕ) → i ≤ n → n ≤ i → w ≡ noise_word table n j
    word-all n h k = e ∙ ap (λ (m : ℕ). noise_word table m j) (le_antisymm {n = i} {m = n} h k)

module _ (s : List ℕ) (f : Layout) (table : List Tree) where
  noise-words : (n : ℕ) → TreesIn s f table n → (j : ℕ)
      → noise_in f.field (noise_word table n j)
      ≡ noise (kind_of f.field).field.ring n (λ i. (noise_end.tree (content_of s f) i).position) (noise_end.value (content_of s f)) j
  unfolding noise_word noise
  noise-words zero trees j = noise-zero f.field
  noise-words (suc n) trees j =
      let K = kind_of f.field in
      let t = (trees n (omega arith)).same in
      let rest : NoiseValue K.field = noise K.field.ring n (λ i. (noise_end.tree (content_of s f) i).position) (noise_end.value (content_of s f)) j in
      choose-map (noise_in f.field) (eqb (tree_at table n).position j) (tree_at table n).value (noise_word table n j)
      ∙ ap (choose (eqb (tree_at table n).position j) (noise_in f.field (tree_at table n).value)) (noise-words n (λ i h. trees i (omega arith)) j)
      ∙ ap (λ (x : NoiseTree). choose (eqb x.position j) (noise_in f.field x.value) rest) (sym t)

  pub mu_value : (vector : ℕ) → vector ≡ 1 → Standing vector s f table → (j : ℕ) {w : ℕ} → w ≡ noise_word table f.trees j
      → element_value vector f.field (record { low = w; high = 0 }) ≡ values_of vector s f j
  unfolding values_of noise_end.mu
  mu_value vector v stands j {w} e =
      let trees = stands.trees (λ q. omega arith) in
      let K = kind_of f.field in
      let x : K.field.noise_values.read (w ∷ 0 ∷ []) 0 ≡ noise_end.mu (content_of s f) j =
      (kind_laws f.field).noise-read (w ∷ 0 ∷ []) 0 ∙ ap (noise_in f.field) e ∙ noise-words f.trees trees j in
      rw v x

-- ---- v0 and w0

module _ (vector : ℕ) (s : List ℕ) (f : Layout) (j : ℕ) where
  leaves_are : (t : Bool) → eqb vector 3 ≡ t → leaves_of vector s f f.trees j ≡ values_by false t s f j
  unfolding leaves_of leaf_of noise_end.v0 scalar_end.w0 punctured whole
  leaves_are true e = sum_cong (kind_of f.field).field.scaled.group f.trees _ _ (λ i h. choose-true (eqb vector 3) _ _ e)
  leaves_are false e = sum_cong (kind_of f.field).field.scaled.group f.trees _ _ (λ i h. choose-false (eqb vector 3) _ _ e)

  pub leaves-value : (vector ≡ 1 → ⊥) → (e : Element) → element_in f.field e ≡ leaves_of vector s f f.trees j
      → element_value vector f.field e ≡ values_of vector s f j
  unfolding values_of element_in
  leaves-value v e q = other (eqb vector 1) (ne_eqb vector 1 v)
    where
      other : (t : Bool) → t ≡ false → (field_by t f.field).elements.read (e.low ∷ e.high ∷ []) 0 ≡ values_by t (eqb vector 3) s f j
      other true z = absurd (let y : ◌≡◌ {A = ℕ} 0 1 = cc in omega arith)
      other false z = q ∙ leaves_are (eqb vector 3) refl
