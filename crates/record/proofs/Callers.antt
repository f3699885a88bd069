-- What callers use of an accepted record: its content, the ranges of its sizes, where the parts of its body stand, and the second
-- pass over its trees. Assumes nothing.
use Prim.Native.Nat.{ℕ, suc, ◌+◌, ◌-◌, ◌*◌, ◌/◌, ◌%◌, ◌^◌, ◌≤◌, ◌<◌}
use mathlib.Core.Bool.{Bool, true, false, ◌||◌}
use mathlib.Core.List.{List, [], ◌∷◌}
use mathlib.Core.Path.{◌≡◌, refl, sym, ap, ◌∙◌}
use borrow.Author.Tests.{eqb-true, eq-eqb, ne_eqb}
use native.Mathlib.Nat.{le_trans, min-le_left, min-le_right}
use native.Mathlib.Omega.{arith}
use lib.Dec.{eqb}
use lib.ListN.{length, get_or, drop}
use lib.Seq.{get_or-drop, drop-drop}
use Rattle.field.proofs.KindOf.{words_1, words_2}
use Rattle.field.specs.Bytes.{word_at}
use Rattle.prime.specs.Prime.{modulus}
use Rattle.number.proofs.Places.{either, refused-whole, whole_is, tested-whole, choose_yes}
use Rattle.number.specs.Reading.{Reading, Whole, Refused, Parsed}
use Rattle.number.specs.Inner.Known.{is_whole}
use Rattle.record.proofs.Again.{position_parts, value_parts_1, value_parts_2, correction_parts}
use Rattle.record.proofs.Exact.{field-exact}
use Rattle.record.proofs.Heads.{size-range, branch-range, branch-multiple}
use Rattle.record.proofs.Items.{items-whole}
use Rattle.record.proofs.Parts.{head_parts, tree_parts, trees_parts, noise_parts, scalar_parts}
use Rattle.field.specs.ByNumber.{is_field, is_noise, is_element, is_scalar}
use Rattle.record.specs.Admitted.{is_size, most_trees, most_terms, most_outputs}
use Rattle.field.specs.Kind.{element_words}
use Rattle.record.specs.Content.{Head, NoiseTree, NoisePart, ScalarPart, sibling_count}
use Rattle.record.specs.Reading.{items, block_at, read_words, read_blocks, read_value, read_delta, read_head, read_tree, read_trees, read_noise, read_scalar}
use Rattle.record.specs.Answer.{head_if_whole}

-- ---- the head

pub record Ranges (h : Head) : Type 0 where
  pub field : (h.field ≡ 1 → ⊥) → h.field ≡ 2
  pub depth-most : h.depth ≤ 16
  pub branch_least : 1 ≤ h.branch_bits
  pub branch-most : h.branch_bits ≤ 3
  pub branch-divides : h.depth % h.branch_bits ≡ 0
  pub trees-most : h.trees ≤ 64
  pub terms_least : 1 ≤ h.terms
  pub terms-most : h.terms ≤ 32
  pub terms-leaves : h.terms ≤ 2 ^ h.depth
  pub outputs-most : h.outputs ≤ 2 ^ h.depth / 2

either_field : (f : ℕ) → is_field f ≡ true → (f ≡ 1 → ⊥) → f ≡ 2
either_field f ok n = eqb-true f 2 (other (eqb f 1) (eqb f 2) (ne_eqb f 1 n) ok)
  where
    other : (a b : Bool) → a ≡ false → a || b ≡ true → b ≡ true
    other true b e g = absurd (let z : ◌≡◌ {A = ℕ} 0 1 = cc in omega arith)
    other false b e g = g

pub head_ranges : (end : ℕ) (s : List ℕ) {h : Head} {body : ℕ} → read_head end s ≡ Whole (h, body) → Ranges h
head_ranges end s {h} e =
    let p = head_parts end s e in
    let d = size-range 16 s p.at1 p.depth in
    let g = branch-range h.depth s p.at2 p.branch in
    let t = size-range (most_trees h.depth) s p.at3 p.trees in
    let l = size-range (most_terms h.depth) s p.at4 p.terms in
    let n = size-range (most_outputs h.depth) s p.at5 p.outputs in
    record {
      field = either_field h.field (field-exact s end p.field).0;
      depth-most = d.1;
      branch_least = g.0;
      branch-most = g.1;
      branch-divides = branch-multiple h.depth s p.at2 p.branch;
      trees-most = le_trans t.1 (min-le_left 64 (2 ^ h.depth));
      terms_least = l.0;
      terms-most = le_trans l.1 (min-le_left 32 (2 ^ h.depth));
      terms-leaves = le_trans l.1 (min-le_right 32 (2 ^ h.depth));
      outputs-most = n.1;
    }

-- a record whose head was read, by the whole record's reading
whole-refused : {A : Type 0} (x : Reading A) (y : Parsed Head) {k : ℕ} → ((p : A) → x ≡ Whole p → (z : Head × ℕ) × (y ≡ Whole z))
    → head_if_whole x y ≡ Refused k → x ≡ Refused k
whole-refused (Whole p) y w e = absurd (refused-whole (sym e) (w p refl).1)
whole-refused (Refused n) y {k} w e = let m : n ≡ k = cc in ap (λ (j : ℕ). Refused j) m

head-if-whole : {A : Type 0} (x : Reading A) (y : Parsed Head) {z : Head × ℕ} → head_if_whole x y ≡ Whole z → (p : A) × (x ≡ Whole p) × (y ≡ Whole z)
head-if-whole (Whole p) y e = (p, refl, e)
head-if-whole (Refused n) y e = absurd (refused-whole refl e)

-- ---- the noise record

-- a refused record has the definition's number
pub noise-refused : (s : List ℕ) {k : ℕ} → head_if_whole (read_noise s) (read_head 1 s) ≡ Refused k → read_noise s ≡ Refused k
noise-refused s e = whole-refused (read_noise s) (read_head 1 s) (λ p f. let a = noise_parts s f in ((p.head, a.0), a.2)) e

-- an accepted one is whole: its head is the one that was read, and its trees are read from the body on
pub record NoiseRead (s : List ℕ) (h : Head) (body : ℕ) (p : NoisePart) (end : ℕ) : Type 0 where
  pub whole : read_noise s ≡ Whole p
  pub same : p.head ≡ h
  pub head : read_head 1 s ≡ Whole (h, body)
  pub trees : read_trees h.field h.depth (sibling_count h.depth h.branch_bits) h.trees 0 s body ≡ Whole (p.trees, end)

pub noise-content : (s : List ℕ) {h : Head} {body : ℕ} → head_if_whole (read_noise s) (read_head 1 s) ≡ Whole (h, body)
    → (p : NoisePart) × (end : ℕ) × NoiseRead s h body p end
noise-content s {h} {body} e =
    let o = head-if-whole (read_noise s) (read_head 1 s) e in
    let a = noise_parts s o.1 in
    let z = whole_is (sym a.2 ∙ o.2) in (
      o.0,
      a.1,
      record {
        whole = o.1;
        same = ap (λ (x : Head × ℕ). x.0) z;
        head = o.2;
        trees = ap (λ (x : Head × ℕ). read_trees x.0.field x.0.depth (sibling_count x.0.depth x.0.branch_bits) x.0.trees 0 s x.1) (sym z) ∙ a.3;
      },
    )

-- ---- a tree that was read

pub record TreeRanges (field depth beside base : ℕ) (s : List ℕ) (t : NoiseTree) (next : ℕ) : Type 0 where
  pub rising : base ≤ t.position
  pub below : t.position < 2 ^ depth
  pub value : is_noise field t.value ≡ true
  pub correction : is_element field t.correction ≡ true
  pub room : next ≤ length s

pub tree_ranges : (field depth beside base : ℕ) (s : List ℕ) (at : ℕ) {t : NoiseTree} {next : ℕ} → read_tree field depth beside base s at ≡ Whole (t, next)
    → TreeRanges field depth beside base s t next
tree_ranges field depth beside base s at {t} {next} e =
    let p = tree_parts field depth beside base s at e in
    let a = position_parts base (2 ^ depth) s at p.position in
    let c = correction_parts field s p.at2 p.correction in
    let b = items-whole block_at 16 beside s p.at3 p.siblings in
    record {
      rising = omega (arith, a.2);
      below = a.3;
      value = value-test field s p.at1 p.value;
      correction = c.3;
      room = omega (arith, b.0, b.2);
    }
  where
    value-test : (f : ℕ) (u : List ℕ) (i : ℕ) {y k : ℕ} → read_value f u i ≡ Whole (y, k) → is_noise f y ≡ true
    value-test f u i {y} g =
        either f 1
        (λ h. choose_yes (eqb y 1) (is_size (modulus - 1) y) (eq-eqb f 1 h) ∙ eq-eqb y 1 (value_parts_1 f u i (eq-eqb f 1 h) g).0)
        (λ h. (value_parts_2 f u i (ne_eqb f 1 h) g).3)

-- ---- the second pass: tree i of an accepted record, where trees 0 to i − 1 have been passed

module _ (field depth beside n base : ℕ) (s : List ℕ) (at i : ℕ) (more : i < n) {ts : List NoiseTree} {end : ℕ}
    (left : read_trees field depth beside (n - i) base s at ≡ Whole (ts, end)) where
  next : read_trees field depth beside (suc (n - (i + 1))) base s at ≡ Whole (ts, end)
  next = ap (λ (m : ℕ). read_trees field depth beside m base s at) {x = suc (n - (i + 1))} {y = n - i} (omega arith) ∙ left

  pub again-asks : is_whole (read_tree field depth beside base s at) ≡ true
  again-asks = ap is_whole (trees_parts field depth beside (n - (i + 1)) base s at next).4

  pub again-next : {t : NoiseTree} {after : ℕ} → Whole (t, after) ≡ read_tree field depth beside base s at
      → (rest : List NoiseTree) × (ts ≡ t ∷ rest) × (read_trees field depth beside (n - (i + 1)) (t.position + 1) s after ≡ Whole (rest, end))
  again-next {t} {after} e =
      let p = trees_parts field depth beside (n - (i + 1)) base s at next in
      let z = whole_is (e ∙ p.4) in (
        p.1,
        p.3 ∙ ap (λ (x : NoiseTree × ℕ). x.0 ∷ p.1) (sym z),
        ap (λ (x : NoiseTree × ℕ). read_trees field depth beside (n - (i + 1)) (x.0.position + 1) s x.1) z ∙ p.5,
      )

-- a tree read again is the one of its number in the list of all trees, and those after it are left
pub again_at : (field depth beside n base : ℕ) (s : List ℕ) (at i : ℕ) → i < n → (all : List NoiseTree) (d : NoiseTree) {end : ℕ}
    → read_trees field depth beside (n - i) base s at ≡ Whole (drop i all, end) → {t : NoiseTree} {after : ℕ} → Whole (t, after) ≡ read_tree field depth beside base s at
    → (get_or all i d ≡ t) × (read_trees field depth beside (n - (i + 1)) (t.position + 1) s after ≡ Whole (drop (i + 1) all, end))
again_at field depth beside n base s at i more all d {end} left {t} {after} e =
    let p = again-next field depth beside n base s at i more left e in (
      ap (λ (k : ℕ). get_or all k d) {x = i} {y = i + 0} (omega arith) ∙ sym (get_or-drop i all 0 d) ∙ ap (λ (l : List NoiseTree). get_or l 0 d) p.1,
      p.2 ∙ ap (λ (l : List NoiseTree). Whole (l, end)) (ap (drop 1) (sym p.1) ∙ drop-drop 1 i all),
    )

-- ---- the scalar record

pub scalar-refused : (s : List ℕ) {k : ℕ} → head_if_whole (read_scalar s) (read_head 2 s) ≡ Refused k → read_scalar s ≡ Refused k
scalar-refused s e = whole-refused (read_scalar s) (read_head 2 s) (λ p f. let a = scalar_parts s f in ((p.head, a.0), a.3)) e

-- an accepted one is whole: Δ begins the body and the roots follow it
pub record ScalarRead (s : List ℕ) (h : Head) (body : ℕ) (p : ScalarPart) : Type 0 where
  pub whole : read_scalar s ≡ Whole p
  pub same : p.head ≡ h
  pub head : read_head 2 s ≡ Whole (h, body)
  pub room : body + 8 * element_words h.field + 16 * h.trees ≤ length s
  pub delta : p.delta ≡ items word_at 8 s body (element_words h.field)
  pub scalar : is_scalar h.field p.delta ≡ true
  pub roots : p.roots ≡ items block_at 16 s (body + 8 * element_words h.field) h.trees

pub scalar-content : (s : List ℕ) {h : Head} {body : ℕ} → head_if_whole (read_scalar s) (read_head 2 s) ≡ Whole (h, body) → (p : ScalarPart) × ScalarRead s h body p
unfolding read_delta
scalar-content s {h} {body} e =
    let o = head-if-whole (read_scalar s) (read_head 2 s) e in
    let p : ScalarPart = o.0 in
    let a = scalar_parts s o.1 in
    let z = whole_is (sym a.3 ∙ o.2) in
    let d : read_delta h.field s body ≡ Whole (p.delta, a.1) = ap (λ (x : Head × ℕ). read_delta x.0.field s x.1) (sym z) ∙ a.4 in
    let r : read_blocks h.trees s a.1 ≡ Whole (p.roots, a.2) = ap (λ (x : Head × ℕ). read_blocks x.0.trees s a.1) (sym z) ∙ a.5 in
    let t = tested-whole (read_words (element_words h.field) s body) (λ c. is_scalar h.field c) 6 d in
    let w = items-whole word_at 8 (element_words h.field) s body t.0 in
    let b = items-whole block_at 16 h.trees s a.1 r in (
      p,
      record {
        whole = o.1;
        same = ap (λ (x : Head × ℕ). x.0) z;
        head = o.2;
        room = omega (arith, w.2, b.0);
        delta = w.1;
        scalar = t.1;
        roots = b.1 ∙ ap (λ (n : ℕ). items block_at 16 s n h.trees) w.2;
      },
    )

-- the words of an element at a place
pub element_1 : (field : ℕ) (s : List ℕ) (at : ℕ) → field ≡ 1 → items word_at 8 s at (element_words field) ≡ word_at s at ∷ word_at s (at + 8) ∷ []
unfolding items
element_1 field s at f = ap (items word_at 8 s at) (words_1 field f)

pub element_2 : (field : ℕ) (s : List ℕ) (at : ℕ) → (field ≡ 1 → ⊥) → items word_at 8 s at (element_words field) ≡ word_at s at ∷ []
unfolding items
element_2 field s at f = ap (items word_at 8 s at) (words_2 field f)
