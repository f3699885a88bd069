-- What writing a dealing's records stores: trees one after another, corrections, blocks as bytes. Assumes nothing.
use mathlib.Core.Path.{◌≡◌, refl, sym, ap, ap₂, ◌∙◌}
use mathlib.Core.List.{List, [], ◌∷◌, ◌++◌, map, append_assoc, append-nil}
use Prim.Native.Nat.{ℕ, zero, suc, ◌+◌, ◌-◌, ◌*◌, ◌/◌, ◌^◌, ◌≤◌, ◌<◌}
use native.Mathlib.Nat.{add-zero, zero-add, le_of_eq, mul-div-le}
use native.Mathlib.Omega.{arith}
use mir.Syntax.{w64}
use mir.Val.{Fits}
use lib.ListN.{length, get_or, drop, set, length-append}
use lib.Pow.{pow_pos}
use lib.Seq.{sets, sets-eq, set_comm, length-sets}
use Rattle.algebra.specs.Expansion.{correction}
use Rattle.field.proofs.BothKinds.{kind_laws}
use Rattle.field.proofs.Elements.{element-words, element-again, at_words}
use Rattle.field.specs.ByNumber.{element_of}
use Rattle.field.specs.Kind.{kind_of}
use Rattle.field.specs.Inner.Elements.{noise_in, element_in, element_at}
use Rattle.field.specs.declared.element.Element.{Element}
use Rattle.number.specs.Inner.Written.{Room, Wrote}
use Rattle.record.specs.Content.{NoiseTree, sibling_count}
use Rattle.record.specs.Writing.{write_tree_start, write_tree, write_trees}
use Rattle.record.specs.Inner.Lengths.{tree_start_bytes, tree_start_length}
use Rattle.record.proofs.Lengths.{tree-start-long}
use Rattle.tree.proofs.ChildLaws.{key_schedules}
use Rattle.tree.proofs.Listed.{listed-none, listed-last}
use Rattle.tree.specs.Child.{child, child_by}
use Rattle.tree.specs.Inner.Keys.{keys_for}
use Rattle.tree.specs.Columns.{columns_bytes, blocks_bytes}
use Rattle.tree.specs.Expanded.{walk, walked}
use Rattle.tree.specs.Inner.Branches.{IsPunctured}
use Rattle.tree.specs.declared.punctured.Punctured.{Punctured}
use Rattle.tree.specs.Tree.{listed, siblings, leaf_at}
use Rattle.dealing.specs.Input.{Input, position, words_of}
use Rattle.dealing.specs.Parts.{noise_tree}
use Rattle.dealing.specs.Vectors.{field, delta, root, leaf}
use Rattle.dealing.specs.Inner.Steps.{layout_for}
use Rattle.dealing.proofs.Lengths.{blocks-bytes, siblings-long}
use Rattle.tree.specs.KeySchedules.{OfChildKeys}
use Rattle.dealing_call.specs.Inner.Steps.{correction_words, planned, planned_bytes, planned_tree, Placed}
use Rattle.dealing_call.specs.declared.noise.Planned.{Planned}

-- ---- stores

-- a later part stored before an earlier one
set-sets : (ys l : List ℕ) (i j x : ℕ) → i < j → set (sets l j ys) i x ≡ sets (set l i x) j ys
set-sets [] l i j x h = refl
set-sets (y ∷ ys) l i j x h =
    set-sets ys (set l j y) i (suc j) x (omega arith) ∙ ap (λ m. sets m (suc j) ys) (set_comm l j i y x (λ e. omega arith))

pub sets_before : (xs ys l : List ℕ) (i j : ℕ) → j ≡ i + length xs → sets (sets l j ys) i xs ≡ sets l i (xs ++ ys)
sets_before [] ys l i j e = ap (λ k. sets l k ys) (e ∙ add-zero i)
sets_before (x ∷ xs) ys l i j e =
    ap (λ m. sets m (suc i) xs) (set-sets ys l i j x (omega arith)) ∙ sets_before xs ys (set l i x) (suc i) j (omega arith)

-- bytes stored at the front
pub sets-front : (w b : List ℕ) → length w ≤ length b → sets b 0 w ≡ w ++ drop (length w) b
sets-front w b h = sets-eq w b 0 (omega arith) ∙ ap (λ n. w ++ drop n b) (zero-add (length w))

-- ---- trees one after another

-- one more than the position of the last tree
unfoldable pub base_after : ℕ → List NoiseTree → ℕ
base_after base [] = base
base_after base (t ∷ ts) = base_after (t.position + 1) ts

trees_more : (field base : ℕ) (ts : List NoiseTree) (t : NoiseTree)
    → write_trees field base (ts ++ (t ∷ [])) ≡ write_trees field base ts ++ write_tree field (base_after base ts) t
unfolding write_trees base_after
trees_more field base [] t = append-nil (write_tree field base t)
trees_more field base (u ∷ ts) t =
    ap (λ w. write_tree field base u ++ w) (trees_more field (u.position + 1) ts t)
    ∙ sym (append_assoc (write_tree field base u) (write_trees field (u.position + 1) ts) (write_tree field (base_after (u.position + 1) ts) t))

base_more : (base : ℕ) (ts : List NoiseTree) (t : NoiseTree) → base_after base (ts ++ (t ∷ [])) ≡ t.position + 1
unfolding base_after
base_more base [] t = refl
base_more base (u ∷ ts) t = base_more (u.position + 1) ts t

module _ (field : ℕ) (f : ℕ → NoiseTree) where
  -- the first i trees, and what their positions leave to the next
  abbrev pub first : ℕ → List ℕ
  first i = write_trees field 0 (listed i f)

  abbrev pub base_at : ℕ → ℕ
  base_at i = base_after 0 (listed i f)

  pub first-none : first 0 ≡ []
  unfolding write_trees
  first-none = rw listed-none

  pub first_more : (i : ℕ) → first (i + 1) ≡ first i ++ write_tree field (base_at i) (f i)
  first_more i = ap first (omega arith) ∙ ap (write_trees field 0) (listed-last i f) ∙ trees_more field 0 (listed i f) (f i)

  pub base_none : base_at 0 ≡ 0
  unfolding base_after
  base_none = rw listed-none

  pub base_next : (i : ℕ) → base_at (i + 1) ≡ (f i).position + 1
  base_next i = ap base_at (omega arith) ∙ ap (base_after 0) (listed-last i f) ∙ base_more 0 (listed i f) (f i)

  -- fewer trees take no more bytes
  pub first-length : (k i : ℕ) → length (first i) ≤ length (first (i + k))
  first-length zero i = le_of_eq (ap (λ n. length (first n)) (sym (add-zero i)))
  first-length (suc k) i =
      let more : length (first (i + suc k)) ≡ length (first (i + k)) + length (write_tree field (base_at (i + k)) (f (i + k))) =
      ap (λ n. length (first n)) {x = i + suc k} {y = i + k + 1} (omega arith) ∙ ap length (first_more (i + k)) ∙ length-append (first (i + k)) _
      in
      omega (arith, first-length k i)

-- ---- corrections

pub corrected : (field : ℕ) (s : List (List ℕ)) (y : ℕ) (delta : List ℕ) {d : Element} (l m c : Element)
    → d ≡ element_at field delta 0 → element_in field l ≡ (kind_of field).leaf s
    → element_in field m ≡ (kind_of field).field.scaled.scale (noise_in field y) (element_in field d)
    → element_in field c ≡ (kind_of field).field.scaled.group.sub (element_in field l) (element_in field m)
    → element_of field c.low c.high ≡ correction_words field s y delta
unfolding correction_words correction
corrected field s y delta {d} l m c read leaf multiple difference =
    let K = kind_of field in
    let scalar : element_in field d ≡ K.field.elements.read (words_of field delta) 0 =
    element-again field d.low d.high ∙ ap (λ (ws : List ℕ). K.field.elements.read ws 0) (at_words field delta 0 read) in
    element-words field c.low c.high
    ∙ ap K.field.elements.words
    (difference ∙ ap₂ K.field.scaled.group.sub leaf (multiple ∙ ap (K.field.scaled.scale (noise_in field y)) scalar))

-- ---- a tree

module _ (t : Planned) (root : List (List ℕ)) (delta : List ℕ) where
  -- the bytes before the siblings, and the siblings
  abbrev before : List ℕ
  before = planned_bytes t (leaf_at (2 ^ t.layout.branch_bits) child (t.layout.depth / t.layout.branch_bits) root t.position) delta

  abbrev beside : List ℕ
  beside = blocks_bytes (siblings (2 ^ t.layout.branch_bits) child (t.layout.depth / t.layout.branch_bits) root t.position)

  tree-bytes : write_tree t.layout.field t.base (planned_tree t root delta) ≡ before ++ beside
  unfolding write_tree write_tree_start planned_bytes
  tree-bytes = ap (λ l. before ++ l) (sym (blocks-bytes (siblings (2 ^ t.layout.branch_bits) child (t.layout.depth / t.layout.branch_bits) root t.position)))

  before_long : length before ≡ tree_start_length t.base t.position
  unfolding write_tree_start correction_words planned_bytes
  before_long =
      tree-start-long t.layout.field t.base t.position t.value (planned_tree t root delta).correction
      ((kind_laws t.layout.field).field.elements.length-words _)

  beside_long : length beside ≡ 16 * sibling_count t.layout.depth t.layout.branch_bits
  beside_long = siblings-long t.layout.depth t.layout.branch_bits root t.position

  pub tree-long : length (write_tree t.layout.field t.base (planned_tree t root delta))
      ≡ tree_start_length t.base t.position + 16 * sibling_count t.layout.depth t.layout.branch_bits
  tree-long = ap length tree-bytes ∙ length-append before beside ∙ ap₂ (λ a b. a + b) before_long beside_long

pub own-tree : (I : Input) (i base at : ℕ) → planned_tree (planned (layout_for I 0) I.positions I.values i base at) (root I i) I.delta ≡ noise_tree I i
unfolding noise_tree correction_words
own-tree I i base at =
    ap (λ y. record {
      position = position I i;
      value = get_or I.values i 0;
      correction = (field I).elements.words (correction (field I).scaled (delta I) (leaf I i (position I i)) y);
      siblings = map columns_bytes (siblings (2 ^ I.branch_bits) child (I.depth / I.branch_bits) (root I i) (position I i));
    })
    (sym ((kind_laws I.field).noise-read I.values i))

-- ---- a tree at its place

module _ (t : Planned) (leaf : List (List ℕ)) (delta words : List ℕ) (corrected : words ≡ correction_words t.layout.field leaf t.value delta) where
  pub planned-room : {out : List ℕ} → Room out t.at (planned_bytes t leaf delta)
      → Room out t.at (tree_start_bytes t.layout.field (t.position - t.base) t.value words)
  unfolding planned_bytes
  planned-room r = rw corrected r

  pub planned-wrote : {out out₁ : List ℕ} {next : ℕ} → Wrote out t.at (tree_start_bytes t.layout.field (t.position - t.base) t.value words) next out₁
      → Wrote out t.at (planned_bytes t leaf delta) next out₁
  unfolding planned_bytes
  planned-wrote w = rw (← corrected) w

module _ (t : Planned) (root : List (List ℕ)) (delta : List ℕ) {out : List ℕ} (P : Placed t root delta out)
    {f : ℕ} (start : f ≡ tree_start_length t.base t.position) where
  -- the tree as its siblings are written
  abbrev place : Punctured
  place = record { branch_bits = t.layout.branch_bits; levels = t.layout.depth / t.layout.branch_bits; position = t.position; at = t.at + f }

  tree-end : t.at + f + 16 * sibling_count t.layout.depth t.layout.branch_bits ≤ length out
  tree-end = omega (arith, P.room.fits, start, tree-long t root delta)

  pub siblings_fit : length out < 2 ^ 64 → Fits w64 (t.at + f)
  siblings_fit h = record { fits = omega (arith, tree-end) }

  pub next_fits : {n : ℕ} → (n ≡ sibling_count t.layout.depth t.layout.branch_bits) × (n ≤ 112) → length out < 2 ^ 64 → Fits w64 (t.at + f + 16 * n)
  next_fits c h = record { fits = omega (arith, tree-end, c.0) }

  pub walk-room : IsPunctured place (length out)
  unfolding sibling_count
  walk-room =
      let h = mul-div-le t.layout.depth t.layout.branch_bits in
      record {
        branch = record { two = P.branch_least; eight = P.branch-most };
        short = omega (arith, h, P.depth);
        room = tree-end;
      }

  module _ (keys : List (List ℕ)) (L : OfChildKeys (2 ^ t.layout.branch_bits) (keys_for keys)) {s : List (List ℕ)} {out₁ : List ℕ}
      (went : walk s out₁ ≡ walked (2 ^ t.layout.branch_bits) (child_by (keys_for keys)) root place out) where
    -- the round keys that are lent give the tree's own walk
    own : walk s out₁ ≡ walked (2 ^ t.layout.branch_bits) child root place out
    own = went ∙ key_schedules.walks (2 ^ t.layout.branch_bits) (keys_for keys) (pow_pos t.layout.branch_bits) L root place out

    stored : out₁ ≡ sets out (t.at + f) (beside t root delta)
    unfolding walked
    stored = ap (λ x. x.bytes) own

    same : planned_bytes t s delta ≡ before t root delta
    unfolding walked
    same = ap (λ x. planned_bytes t x.leaf delta) own

    pub tree-start-room : Room out₁ t.at (planned_bytes t s delta)
    tree-start-room =
        let kept = length-sets out (t.at + f) (beside t root delta) in
        record { fits = omega (arith, tree-end, start, ap length same, before_long t root delta, ap length stored, kept) }

    pub tree-wrote : {n next : ℕ} {out₂ : List ℕ} → (n ≡ sibling_count t.layout.depth t.layout.branch_bits) × (n ≤ 112)
        → Wrote out₁ t.at (planned_bytes t s delta) next out₂
        → Wrote out t.at (write_tree t.layout.field t.base (planned_tree t root delta)) (t.at + f + 16 * n) out₂
    tree-wrote c w =
        record {
          place = omega (arith, start, tree-long t root delta, c.0);
          stored =
              w.stored ∙ ap₂ (λ b e. sets b t.at e) stored same
              ∙ sets_before (before t root delta) (beside t root delta) out t.at (t.at + f)
              (ap (λ n. t.at + n) (start ∙ sym (before_long t root delta)))
              ∙ ap (sets out t.at) (sym (tree-bytes t root delta));
        }
