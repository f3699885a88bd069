-- The leaves below two nodes: from those below each, and as those below the children of the node above. Assumes nothing.
use mathlib.Core.Path.{◌≡◌, refl, ap, ap₂, sym, ◌∙◌}
use mathlib.Core.Bool.{Bool, true, false}
use mathlib.Core.Logic.{◌≢◌}
use mathlib.Core.List.{List, ◌++◌}
use Prim.Native.Nat.{ℕ, ◌+◌, ◌-◌, ◌*◌, ◌/◌, ◌^◌, ◌≤◌, ◌<◌}
use native.Mathlib.Omega.{arith}
use lib.Dec.{ltb}
use lib.ListN.{length, take, drop}
use borrow.Author.Tests.{lt-ltb, le-ltb, ltb-true, ltb-false}
use Rattle.algebra.specs.Choice.{choose}
use Rattle.algebra.proofs.Choice.{choose-true, choose-false}
use Rattle.algebra.specs.Field.{Field, Value}
use Rattle.field.specs.Kind.{kind_of, element_words}
use Rattle.field.proofs.BothKinds.{kind_laws}
use Rattle.tree_sums.specs.Inner.Ranges.{children_added, below, left_of, size_of, IsRange, all_children, of_child, range_element, range_added, both_added}
use Rattle.tree_sums.specs.declared.range.Range.{Range}
use Rattle.tree_sums.proofs.Halves.{filled, added-same}
use Rattle.tree_sums.proofs.Ranges.{size-all, one_twice}
use Rattle.tree_sums.proofs.Elements.{first-child, second-child}
use Rattle.tree_sums.proofs.Bottom.{filled_bottom}

-- a tree with two children a node is a range of two children
pub two-range : (levels : ℕ) → IsRange (all_children 1 levels)
two-range levels =
    record { two = omega arith; most = omega arith; within = omega arith; branch = record { two = omega arith; eight = omega arith } }

size-one : size_of (all_children 1 1) ≡ 2
size-one = size-all 1 1

size-two : size_of (all_children 1 2) ≡ 4
size-two = size-all 1 2

-- ---- words

module _ (field : ℕ) (child : ℕ → List (List ℕ) → List (List ℕ)) where
  abbrev F : Field
  F = (kind_of field).field

  abbrev leaf : List (List ℕ) → Value F
  leaf = (kind_of field).leaf

  module _ (all : Range) (x y : List (List ℕ)) where
    abbrev element : ℕ → Value F
    element j = choose (ltb j (size_of all)) (range_element leaf child all x j) (range_element leaf child all y (j - size_of all))

    element-low : (j : ℕ) → j < size_of all → element j ≡ range_element leaf child all x j
    element-low j h = choose-true (ltb j (size_of all)) _ _ (lt-ltb j (size_of all) h)

    element-high : (j : ℕ) → element (size_of all + j) ≡ range_element leaf child all y j
    element-high j =
        choose-false (ltb (size_of all + j) (size_of all)) _ _ (le-ltb (size_of all + j) (size_of all) (omega arith))
        ∙ ap (range_element leaf child all y) {x = size_of all + j - size_of all} {y = j} (omega arith)

    -- from two halves
    pub from_halves : (xs : List ℕ) {ys zs : List ℕ} → length xs ≡ (size_of all + size_of all) * F.elements.width
        → ys ≡ range_added field child all x (take (length xs / 2) xs)
        → zs ≡ range_added field child all y (drop (length xs / 2) xs)
        → ys ++ zs
        ≡ both_added field child all x y xs
    unfolding both_added
    from_halves xs e ey ez =
        filled F (kind_laws field).field (size_of all + size_of all) (size_of all) element (range_element leaf child all x) (range_element leaf child all y)
        xs e refl element-low (λ j h. element-high j) ey ez

  -- two children are all that is below the node above
  module _ (ρ : Range) (s : List (List ℕ)) (xs : List ℕ) where
    abbrev one : Range
    one = of_child ρ

    pub both_below : {x y : List (List ℕ)} {ys : List ℕ} → ρ.levels ≢ 0 → IsRange ρ → ρ.bits ≡ 1 → x ≡ child ρ.from s → y ≡ child (ρ.from + 1) s
        → ys ≡ both_added field child one x y xs → ys ≡ range_added field child ρ s xs
    unfolding both_added
    both_below {x} {y} h ok b ex ey e =
        added-same F (kind_laws field).field (size_of ρ) (size_of one + size_of one) (range_element leaf child ρ s) (element one x y) xs e (one_twice ρ h b)
        (λ j l. sym (decide j l (ltb j (size_of one)) refl))
      where
        size : size_of one ≡ below ρ
        size = size-all ρ.branch_bits (ρ.levels - 1)

        low : (j : ℕ) → j < size_of one → range_element leaf child ρ s j ≡ element one x y j
        low j l = first-child leaf child s ρ h j ok (rw size at l) ∙ ap (λ z. range_element leaf child one z j) (sym ex) ∙ sym (element-low one x y j l)

        high : (j : ℕ) → j < size_of one + size_of one → size_of one ≤ j → range_element leaf child ρ s j ≡ element one x y j
        high j m l =
            let k : size_of one + (j - size_of one) ≡ j = omega arith in
            let n : j - size_of one < size_of one = omega arith in
            ap (range_element leaf child ρ s) (sym k)
            ∙ ap (λ n. range_element leaf child ρ s (n + (j - size_of one))) size
            ∙ second-child leaf child s ρ h (j - size_of one) ok b (omega (arith, n, size))
            ∙ ap (λ z. range_element leaf child one z (j - size_of one)) (sym ey)
            ∙ sym (element-high one x y (j - size_of one)) ∙ ap (element one x y) k

        decide : (j : ℕ) → j < size_of one + size_of one → (t : Bool) → ltb j (size_of one) ≡ t → range_element leaf child ρ s j ≡ element one x y j
        decide j m true q = low j (ltb-true j (size_of one) q)
        decide j m false q = high j m (ltb-false j (size_of one) q)

  module _ (xs : List ℕ) (x y : List (List ℕ)) {xs₁ xs₂ ys zs : List ℕ} (e₁ : xs₁ ≡ take (length xs / 2) xs) (e₂ : xs₂ ≡ drop (length xs / 2) xs) where
    -- the leaves of two nodes
    pub couple_added : length xs ≡ 4 * element_words field → ys ≡ children_added field child 0 2 x xs₁
        → zs ≡ children_added field child 0 2 y xs₂
        → ys ++ zs
        ≡ both_added field child (all_children 1 1) x y xs
    couple_added e ey ez =
        from_halves (all_children 1 1) x y xs (e ∙ ap (λ n. (n + n) * element_words field) (sym size-one))
        (filled_bottom (all_children 1 1) (two-range 1) refl field child x (take (length xs / 2) xs) (rw e₁ at ey))
        (filled_bottom (all_children 1 1) (two-range 1) refl field child y (drop (length xs / 2) xs) (rw e₂ at ez))

    -- and those two levels below
    pub both-added : {x₀ x₁ y₀ y₁ : List (List ℕ)} → length xs ≡ 8 * element_words field → x₀ ≡ child 0 x → x₁ ≡ child 1 x → y₀ ≡ child 0 y → y₁ ≡ child 1 y
        → ys ≡ both_added field child (all_children 1 1) x₀ x₁ xs₁
        → zs ≡ both_added field child (all_children 1 1) y₀ y₁ xs₂
        → ys ++ zs
        ≡ both_added field child (all_children 1 2) x y xs
    both-added e x₀ x₁ y₀ y₁ ey ez =
        from_halves (all_children 1 2) x y xs (e ∙ ap (λ n. (n + n) * element_words field) (sym size-two))
        (both_below (all_children 1 2) x (take (length xs / 2) xs) (λ z. absurd (omega (arith, z))) (two-range 2) refl x₀ x₁ (rw e₁ at ey))
        (both_below (all_children 1 2) y (drop (length xs / 2) xs) (λ z. absurd (omega (arith, z))) (two-range 2) refl y₀ y₁ (rw e₂ at ez))

-- ---- the last three levels

module _ (ρ : Range) (levels : ρ.levels ≡ 3) (two : ρ.branch_bits ≡ 1) (b : ρ.bits ≡ 1) where
  three-size : size_of ρ ≡ 8
  unfolding left_of
  three-size = ap (λ n. 2 ^ n) {x = ρ.levels * ρ.branch_bits + ρ.bits - ρ.branch_bits} {y = 3} (rw (levels, two, b) refl)

  pub three-length : {X : Type 0} (xs : List X) (w : ℕ) → length xs ≡ size_of ρ * w → length xs ≡ 8 * w
  three-length xs w e = e ∙ ap (λ n. n * w) three-size

  pub three-below : (field : ℕ) (child : ℕ → List (List ℕ) → List (List ℕ)) (s : List (List ℕ)) (xs : List ℕ) {x y : List (List ℕ)} {ys : List ℕ}
      → IsRange ρ → x ≡ child ρ.from s → y ≡ child (ρ.from + 1) s → ys ≡ both_added field child (all_children 1 2) x y xs
      → ys ≡ range_added field child ρ s xs
  three-below field child s xs {x} {y} ok ex ey e =
      both_below field child ρ s xs (λ z. absurd (omega (arith, z, levels))) ok b ex ey
      (e ∙ ap₂ (λ (g n : ℕ). both_added field child (all_children g (n - 1)) x y xs) (sym two) (sym levels))
