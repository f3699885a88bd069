-- The lengths of writings, and the sums in the code that give them. Assumes nothing.
use Prim.Native.Nat.{ℕ, zero, suc, ◌+◌, ◌-◌, ◌*◌, ◌/◌, ◌^◌, ◌≤◌, ◌<◌}
use mathlib.Core.List.{List, [], ◌∷◌, ◌++◌}
use mathlib.Core.Path.{◌≡◌, refl, sym, ap, ◌∙◌, subst}
use borrow.Author.Tests.{ne_eqb}
use native.Mathlib.Nat.{add-zero, le_trans, div-le_self, mul-le-mul}
use native.Mathlib.Numerals.{add-one}
use native.Mathlib.Omega.{arith}
use lib.ListN.{length, get_or, take, drop, length-append, drop_of_length-le}
use lib.Seq.{drop-cons, drop-drop, take-add}
use lib.Pow.{pow_mono}
use mir.Syntax.{w64}
use mir.Val.{Fits}
use Rattle.field.proofs.KindOf.{words_1, words_2}
use Rattle.field.proofs.ByteWords.{length-le_bytes}
use Rattle.field.specs.ByNumber.{element_of}
use Rattle.field.specs.Inner.Elements.{element_length}
use Rattle.field.specs.Kind.{element_words}
use Rattle.number.proofs.Laws.{length-number, length_bounds}
use Rattle.number.proofs.Places.{either}
use Rattle.number.specs.Number.{number_length}
use Rattle.number.specs.Reading.{part}
use Rattle.record.specs.Inner.Rising.{RisesFrom}
use Rattle.record.specs.Content.{Head, sibling_count}
use Rattle.record.specs.declared.Layout.{Layout}
use Rattle.record.specs.Reading.{items, block_at}
use Rattle.record.specs.Writing.{write_each, write_words, write_blocks, write_head, write_tree_start}
use Rattle.record.specs.Inner.Lengths.{Writable, head_length, tree_start_length, tree_length, trees_length, noise_length, scalar_length}

pub length-head : (end : ℕ) (h : Head) → length h.code_key ≡ 16 → length h.label ≡ 16
    → length (write_head end h) ≡ head_length h.depth h.branch_bits h.trees h.terms h.outputs
unfolding write_head head_length
length-head end h e g = simp (length-append, length-number, e, g) (omega arith)

pub length-words : (ws : List ℕ) → length (write_words ws) ≡ 8 * length ws
unfolding write_each
length-words [] = refl
length-words (w ∷ ws) = simp (length-append, length-le_bytes, length-words ws) (omega arith)

pub length-element : (field low high : ℕ) → length (write_words (element_of field low high)) ≡ element_length field
length-element field low high = length-words (element_of field low high) ∙ ap (λ n. 8 * n) (either field 1 (λ f. rw f) (λ f. rw (ne_eqb field 1 f, words_2 field f)))

-- in both fields the noise value and the correction take 16 bytes together
pub tree-start-long : (field base position value : ℕ) (words : List ℕ) → length words ≡ element_words field
    → length (write_tree_start field base position value words) ≡ tree_start_length base position
unfolding write_tree_start tree_start_length
tree-start-long field base position value words e =
    simp (length-append, length-number, length-words, e)
    (either field 1 (λ f. rw f) (λ f. rw (ne_eqb field 1 f, words_2 field f, length-le_bytes)))

-- blocks one after the other are the bytes that they were cut from
pub blocks-part : (s : List ℕ) (n at : ℕ) → at + 16 * n ≤ length s → write_blocks (items block_at 16 s at n) ≡ part s at (16 * n)
unfolding write_each items
blocks-part s zero at h = refl
blocks-part s (suc n) at h =
    ap (λ (l : List ℕ). part s at 16 ++ l) (blocks-part s n (at + 16) (omega arith)
    ∙ ap (take (16 * n)) (sym (drop-drop 16 at s)))
    ∙ sym (take-add 16 (16 * n) (drop at s))
    ∙ ap (part s at) {x = 16 + 16 * n} {y = 16 * suc n} (omega arith)

-- ---- the siblings of a tree

module _ (depth bits : ℕ) (few : depth ≤ 16) (least : 1 ≤ bits) (most : bits ≤ 3) where
  levels-few : depth / bits ≤ 16
  levels-few = le_trans (div-le_self depth bits) few

  children-few : {k : ℕ} → k ≡ 2 ^ bits → k ≤ 8
  children-few e = let h : 2 ^ bits ≤ 2 ^ 3 = pow_mono most in omega (arith, e, h)

  most-siblings : {k : ℕ} → k ≡ 2 ^ bits → depth / bits * (k - 1) ≤ 112
  most-siblings {k} e =
      let h : k - 1 ≤ 7 = omega (arith, children-few e) in
      let m : depth / bits * (k - 1) ≤ 16 * 7 = mul-le-mul levels-few h in
      m

  pub siblings_fit : {k : ℕ} → k ≡ 2 ^ bits → Fits w64 (depth / bits * (k - 1))
  siblings_fit e = record { fits = omega (arith, most-siblings e) }

  pub siblings_are : {k : ℕ} → k ≡ 2 ^ bits → depth / bits * (k - 1) ≡ sibling_count depth bits
  unfolding sibling_count
  siblings_are e = rw e

  pub siblings-few : {k : ℕ} → k ≡ 2 ^ bits → depth / bits * (k - 1) ≤ 112
  siblings-few e = most-siblings e

-- ---- the lengths in the code

module _ (n o : ℕ) {a x : ℕ} (e : a ≡ number_length n) (p : x ≡ number_length o) where
  pub two_fit : Fits w64 (a + x)
  two_fit = record { fits = omega (arith, length_bounds n, length_bounds o) }

  module _ (m : ℕ) {b : ℕ} (f : b ≡ number_length m) where
    pub three_fit : Fits w64 (a + x + b)
    three_fit = record { fits = omega (arith, length_bounds n, length_bounds o, length_bounds m) }

    module _ (k l : ℕ) {c d : ℕ} (g : c ≡ number_length k) (h : d ≡ number_length l) where
      most : 2 + (a + x + b + (c + d)) + 32 ≤ 49
      most = omega (arith, length_bounds n, length_bounds o, length_bounds m, length_bounds k, length_bounds l)

      pub sizes_fit : Fits w64 (a + x + b + (c + d))
      sizes_fit = record { fits = omega (arith, most) }

      pub two-sizes_fit : Fits w64 (2 + (a + x + b + (c + d)))
      two-sizes_fit = record { fits = omega (arith, most) }

      pub body-fits : Fits w64 (2 + (a + x + b + (c + d)) + 32)
      body-fits = record { fits = omega (arith, most) }

      pub head-sum : 2 + (a + x + b + (c + d)) + 32 ≡ head_length n o m k l
      unfolding head_length
      head-sum = rw (e, p, f, g, h)

pub number_fits : {r : ℕ} (n : ℕ) → r ≡ number_length n → Fits w64 (r + 16)
number_fits n e = record { fits = omega (arith, length_bounds n) }

pub tree-start-sum : {r : ℕ} (base position : ℕ) → r ≡ number_length (position - base) → r + 16 ≡ tree_start_length base position
unfolding tree_start_length
tree-start-sum base position e = rw e

body-most : (f : Layout) → Writable f → f.body ≤ 49
unfolding head_length
body-most f ok = omega (arith, ok.body, length_bounds f.depth, length_bounds f.branch_bits, length_bounds f.trees, length_bounds f.terms, length_bounds f.outputs)

element-most : (field : ℕ) → element_length field ≤ 16
element-most field = either field 1 (λ f. omega (arith, words_1 field f)) (λ f. omega (arith, words_2 field f))

module _ (f : Layout) (ok : Writable f) {e : ℕ} (element : e ≡ element_length f.field) where
  pub scalar-sum-fits_2 : Fits w64 (f.body + (e + 16 * f.trees))
  scalar-sum-fits_2 = record { fits = omega (arith, element-most f.field, ok.trees, body-most f ok) }

  pub scalar-sum : f.body + (e + 16 * f.trees) ≡ scalar_length f
  unfolding scalar_length
  scalar-sum = rw element

-- a tree's length
module _ (base position : ℕ) {n m : ℕ} (layout : n ≡ tree_start_length base position) where
  pub tree-most : {k : ℕ} → (m ≡ k) × (m ≤ 112) → n + 16 * m ≤ 1811
  unfolding tree_start_length
  tree-most s = omega (arith, layout, s.1, length_bounds (position - base))

  pub tree-fits : {k : ℕ} → (m ≡ k) × (m ≤ 112) → Fits w64 (n + 16 * m)
  tree-fits s = record { fits = omega (arith, tree-most s) }

  pub tree-sum : (f : Layout) → (m ≡ sibling_count f.depth f.branch_bits) × (m ≤ 112) → n + 16 * m ≡ tree_length f base position
  unfolding tree_length
  tree-sum f s = rw (layout, s.0)

-- the loop of `noise_length`: what is left of the positions is the sum's rest
pub record Sum (f : Layout) (ps : List ℕ) (total base i : ℕ) : Type 0 where
  pub sum : total + trees_length f base (drop i ps) ≡ noise_length f ps
  pub rising : RisesFrom (2 ^ f.depth) base (drop i ps)
  pub turns : i ≤ length ps
  pub small : total ≤ 49 + i * 1811

module _ (f : Layout) (ok : Writable f) (ps : List ℕ) where
  pub sum-start : RisesFrom (2 ^ f.depth) 0 ps → Sum f ps f.body 0 0
  unfolding noise_length
  sum-start r = record { sum = refl; rising = r; turns = omega arith; small = omega (arith, body-most f ok) }

  module _ {total base i : ℕ} (s : Sum f ps total base i) where
    module _ (more : i < length ps) where
      next : RisesFrom (2 ^ f.depth) base (get_or ps i 0 ∷ drop (suc i) ps)
      next = subst (RisesFrom (2 ^ f.depth) base) (drop-cons ps i 0 more) s.rising

      pub sum-asks : base ≤ get_or ps i 0
      unfolding RisesFrom
      sum-asks = next.0

      module _ {n : ℕ} (tree : (n ≡ tree_length f base (get_or ps i 0)) × (n ≤ 1811)) where
        pub sum-next : Sum f ps (total + n) (get_or ps i 0 + 1) (i + 1)
        unfolding trees_length RisesFrom
        sum-next =
            let e : drop i ps ≡ get_or ps i 0 ∷ drop (suc i) ps = drop-cons ps i 0 more in
            let one : trees_length f base (drop i ps) ≡ tree_length f base (get_or ps i 0) + trees_length f (get_or ps i 0 + 1) (drop (suc i) ps) =
            ap (trees_length f base) e in
            let d : drop (i + 1) ps ≡ drop (suc i) ps = ap (λ (n : ℕ). drop n ps) (add-one i) in
            record {
              sum = ap (λ (l : List ℕ). total + n + trees_length f (get_or ps i 0 + 1) l) d ∙ omega (arith, one, tree.0) ∙ s.sum;
              rising = subst (RisesFrom (2 ^ f.depth) (get_or ps i 0 + 1)) (sym d) next.2;
              turns = omega arith;
              small = omega (arith, s.small, tree.1);
            }

  pub sum_done : {total base i : ℕ} → Sum f ps total base i → length ps ≤ i → total ≡ noise_length f ps
  unfolding trees_length
  sum_done {total} {base} s h =
      sym (add-zero total) ∙ ap (λ (l : List ℕ). total + trees_length f base l) (sym (drop_of_length-le ps h)) ∙ s.sum
