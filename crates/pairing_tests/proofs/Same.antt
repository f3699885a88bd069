-- Lists and heads that are found equal are equal, and two heads are found of one dealing exactly if field, sizes, code key and label are
-- equal. Assumes nothing.
use mathlib.Core.Path.{◌≡◌, refl, sym, ap, ap₂, ◌∙◌}
use mathlib.Core.Bool.{Bool, true, false, ◌&&◌, false≢true}
use mathlib.Core.List.{List, [], ◌∷◌}
use Prim.Native.Nat.{ℕ, ◌+◌, ◌-◌}
use native.Mathlib.Omega.{arith}
use lib.Dec.{eqb}
use lib.ListN.{take, drop}
use Rattle.std.specs.Cmp.Lexicographic.{pointwise}
use Rattle.std.proofs.Common.{nat_eq}
use borrow.Author.Tests.{eqb-true}
use Rattle.algebra.proofs.Tests.{and_left, and_right}
use Rattle.number.specs.Reading.{part}
use Rattle.record.specs.Content.{Head}
use Rattle.record.specs.declared.Layout.{Layout}
use Rattle.record.specs.Answer.{head_of}
use Rattle.record.specs.Inner.Heads.{head_with}
use Rattle.pairing.specs.Verdict.{same_list, same_dealing}
use Rattle.pairing_tests.specs.Inner.Steps.{same_sizes}

pub same-equal : (l m : List ℕ) → same_list l m ≡ true → l ≡ m
unfolding same_list
same-equal [] [] e = refl
same-equal [] (b ∷ m) e = absurd (false≢true e)
same-equal (a ∷ l) [] e = absurd (false≢true e)
same-equal (a ∷ l) (b ∷ m) e =
    ap₂ (λ (x : ℕ) (y : List ℕ). x ∷ y) (eqb-true a b (and_left (eqb a b) (same_list l m) e)) (same-equal l m (and_right (eqb a b) (same_list l m) e))

-- a test that never holds
never : (t : Bool) → (t ≡ true → ⊥) → t ≡ false
never true n = absurd (n refl)
never false n = refl

pub same_not : (l m : List ℕ) → (l ≡ m → ⊥) → same_list l m ≡ false
same_not l m n = never (same_list l m) (λ e. n (same-equal l m e))

-- ---- the code key and the label

-- `==` on two slices takes a list's ends and its equality as `pointwise` says it
pub same-pointwise : (l m : List ℕ) → pointwise nat_eq l m ≡ same_list l m
unfolding same_list
same-pointwise [] [] = refl
same-pointwise [] (b ∷ m) = refl
same-pointwise (a ∷ l) [] = refl
same-pointwise (a ∷ l) (b ∷ m) = ap (λ t. eqb a b && t) (same-pointwise l m)

pub same_block : (a : List ℕ) (x : ℕ) (b : List ℕ) (y : ℕ) {r : Bool}
    → r ≡ pointwise nat_eq (take (x + 16 - x) (drop x a)) (take (y + 16 - y) (drop y b)) → r ≡ same_list (part a x 16) (part b y 16)
same_block a x b y e =
    let i : x + 16 - x ≡ 16 = omega arith in
    let j : y + 16 - y ≡ 16 = omega arith in
    (rw (i, j) at e) ∙ same-pointwise (part a x 16) (part b y 16)

-- ---- the head

-- four tests that all hold, and one more before them
four : (t a b c d : Bool) → (t && a && b && c && d) ≡ true → (t ≡ true) × (a ≡ true) × (b ≡ true) × (c ≡ true) × (d ≡ true)
four t a b c d q =
    let q3 = and_left (t && a && b && c) d q in
    let q2 = and_left (t && a && b) c q3 in
    let q1 = and_left (t && a) b q2 in
    (and_left t a q1, and_right t a q1, and_right (t && a) b q2, and_right (t && a && b) c q3, and_right (t && a && b && c) d q)

-- heads that are found equal are equal
pub dealing-equal : (h k : Head) → same_dealing h k ≡ true → h ≡ k
unfolding same_dealing
dealing-equal h k e =
    let y = four (eqb h.field k.field && eqb h.depth k.depth && eqb h.branch_bits k.branch_bits && eqb h.trees k.trees)
    (eqb h.terms k.terms) (eqb h.outputs k.outputs) (same_list h.code_key k.code_key) (same_list h.label k.label) e in
    let x = four true (eqb h.field k.field) (eqb h.depth k.depth) (eqb h.branch_bits k.branch_bits) (eqb h.trees k.trees) y.0 in
    let f = eqb-true h.field k.field x.1 in
    let d = eqb-true h.depth k.depth x.2 in
    let g = eqb-true h.branch_bits k.branch_bits x.3 in
    let t = eqb-true h.trees k.trees x.4 in
    let l = eqb-true h.terms k.terms y.1 in
    let n = eqb-true h.outputs k.outputs y.2 in
    let c = same-equal h.code_key k.code_key y.3 in
    let a = same-equal h.label k.label y.4 in
    let all : head_with h.field h.depth h.branch_bits h.trees h.terms h.outputs h.code_key h.label
    ≡ head_with k.field k.depth k.branch_bits k.trees k.terms k.outputs k.code_key k.label = cc in
    all

-- the sizes, then the code key, then the label
module _ (s : List ℕ) (p : Layout) (t : List ℕ) (q : Layout) {sizes : Bool} (se : sizes ≡ same_sizes p q) where
  pub sizes-differ : sizes ≡ false → false ≡ same_dealing (head_of s p) (head_of t q)
  unfolding same_dealing
  sizes-differ e = sym (rw (← se, e))

  module _ (right : sizes ≡ true) {x : ℕ} (xe : x ≡ p.body - 32) {y : ℕ} (ye : y ≡ q.body - 32)
      {key : Bool} (ke : key ≡ same_list (part s x 16) (part t y 16)) where
    keys : same_list (part s (p.body - 32) 16) (part t (q.body - 32) 16) ≡ key
    keys = sym (ke ∙ rw (xe, ye))

    pub key_differs : key ≡ false → false ≡ same_dealing (head_of s p) (head_of t q)
    unfolding same_dealing
    key_differs e = sym (rw (← se, right, keys, e))

    pub label-left : key ≡ true → {r : Bool} → r ≡ same_list (part s (p.body - 16) 16) (part t (q.body - 16) 16)
        → r ≡ same_dealing (head_of s p) (head_of t q)
    unfolding same_dealing
    label-left e re = re ∙ sym (rw (← se, right, keys, e))
