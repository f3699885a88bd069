-- The last level of a tree: children that are leaves, added by halves until two are left.
use mathlib.Core.Path.{◌≡◌, refl, ap, sym, ◌∙◌}
use mathlib.Core.Logic.{◌≢◌}
use mathlib.Core.List.{List, ◌++◌}
use Prim.Native.Nat.{ℕ, ◌+◌, ◌-◌, ◌*◌, ◌/◌, ◌^◌, ◌≤◌, ◌<◌}
use native.Mathlib.Nat.{add_assoc, pow-zero}
use native.Mathlib.Omega.{arith}
use lib.ListN.{length, take, drop}
use lib.Pow.{pow_pos}
use Rattle.algebra.specs.Field.{Value}
use Rattle.field.specs.Kind.{kind_of, element_words}
use Rattle.field.proofs.BothKinds.{kind_laws}
use Rattle.tree.specs.Tree.{leaf_at}
use Rattle.tree.specs.Added.{leaf_element}
use Rattle.tree.specs.Inner.Branches.{IsBranch}
use Rattle.tree_sums.specs.Inner.Ranges.{IsRange, child_count, left_of, size_of, range_element, range_added, children_added}
use Rattle.tree_sums.specs.declared.range.Range.{Range}
use Rattle.tree.proofs.Laws.{leaf-none, leaf-child}
use Rattle.tree.proofs.PowerLaws.{eight}
use Rattle.tree_sums.proofs.Halves.{filled, added-same}

three : (bits : ℕ) → IsBranch bits → bits ≢ 1 → bits ≢ 2 → bits ≡ 3
three bits ok n₁ n₂ = omega (arith, ok.two, ok.eight)

-- ---- four children, and two, four or eight

module _ (field : ℕ) (child : ℕ → List (List ℕ) → List (List ℕ)) (c : ℕ) (s : List (List ℕ)) (xs : List ℕ) where
  -- n children from two halves of h
  halves : (n h : ℕ) {ys zs : List ℕ} → n ≡ h + h → length xs ≡ n * element_words field
      → ys ≡ children_added field child c h s (take (length xs / 2) xs)
      → zs ≡ children_added field child (c + h) h s (drop (length xs / 2) xs)
      → ys ++ zs
      ≡ children_added field child c n s xs
  unfolding children_added
  halves n h half e ey ez =
      filled (kind_of field).field (kind_laws field).field n h (element c) (element c) (element (c + h)) xs e half (λ j l. refl)
      (λ j l. ap (λ i. (kind_of field).leaf (child i s)) (sym (add_assoc c h j)))
      ey ez
    where
      element : ℕ → ℕ → Value (kind_of field).field
      element i j = (kind_of field).leaf (child (i + j) s)

  pub four-added : {xs₁ xs₂ ys zs : List ℕ} → length xs ≡ 4 * element_words field → xs₁ ≡ take (length xs / 2) xs → xs₂ ≡ drop (length xs / 2) xs
      → ys ≡ children_added field child c 2 s xs₁
      → zs ≡ children_added field child (c + 2) 2 s xs₂
      → ys ++ zs
      ≡ children_added field child c 4 s xs
  four-added e e₁ e₂ ey ez = halves 4 2 refl e (rw e₁ at ey) (rw e₂ at ez)

  module _ (bits : ℕ) where
    pub bottom_eight : {xs₁ xs₂ ys zs : List ℕ} → IsBranch bits → bits ≢ 1 → bits ≢ 2 → length xs ≡ 2 ^ bits * element_words field
        → xs₁ ≡ take (length xs / 2) xs → xs₂ ≡ drop (length xs / 2) xs
        → ys ≡ children_added field child c 4 s xs₁
        → zs ≡ children_added field child (c + 4) 4 s xs₂
        → ys ++ zs
        ≡ children_added field child c (2 ^ bits) s xs
    bottom_eight ok n₁ n₂ e e₁ e₂ ey ez = halves (2 ^ bits) 4 (ap (λ n. 2 ^ n) (three bits ok n₁ n₂)) e (rw e₁ at ey) (rw e₂ at ez)

-- ---- a range of the last level

module _ (ρ : Range) (ok : IsRange ρ) where
  pub bottom_branch : IsBranch ρ.bits
  bottom_branch = record { two = ok.two; eight = omega (arith, ok.most, ok.branch.eight) }

  pub bottom_keys : ρ.from + 2 ^ ρ.bits ≤ 8
  bottom_keys = omega (arith, ok.within, eight ρ.branch_bits ok.branch)

  module _ (last : ρ.levels ≡ 1) where
    size : size_of ρ ≡ 2 ^ ρ.bits
    unfolding left_of
    size = ap (λ n. 2 ^ (n * ρ.branch_bits + ρ.bits - ρ.branch_bits)) last ∙ ap (λ n. 2 ^ n) (omega arith)

    pub bottom_length : {X : Type 0} (xs : List X) (w : ℕ) → length xs ≡ size_of ρ * w → length xs ≡ 2 ^ ρ.bits * w
    bottom_length xs w e = e ∙ ap (λ n. n * w) size

    pub filled_bottom : (field : ℕ) (child : ℕ → List (List ℕ) → List (List ℕ)) (s : List (List ℕ)) (xs : List ℕ) {ys : List ℕ}
        → ys ≡ children_added field child ρ.from (2 ^ ρ.bits) s xs
        → ys ≡ range_added field child ρ s xs
    unfolding children_added range_element leaf_element
    filled_bottom field child s xs ey =
        added-same (kind_of field).field (kind_laws field).field (size_of ρ) (2 ^ ρ.bits) (range_element (kind_of field).leaf child ρ s)
        (λ j. (kind_of field).leaf (child (ρ.from + j) s)) xs ey size
        (λ j h. ap (kind_of field).leaf (sym (leaf j h)))
      where
        number : (first j p : ℕ) → p ≡ 1 → first * p + j ≡ (first + j) * p + 0
        number first j p e = rw e (omega arith)

        leaf : (j : ℕ) → j < 2 ^ ρ.bits
            → leaf_at (child_count ρ) child ρ.levels s (ρ.from * child_count ρ ^ (ρ.levels - 1) + j) ≡ child (ρ.from + j) s
        leaf j h =
            ap (λ n. leaf_at (child_count ρ) child n s (ρ.from * child_count ρ ^ (n - 1) + j)) last
            ∙ ap (leaf_at (child_count ρ) child 1 s) (number ρ.from j (child_count ρ ^ 0) (pow-zero (child_count ρ)))
            ∙ leaf-child (child_count ρ) child (pow_pos ρ.branch_bits) 0 s (ρ.from + j) 0 (omega (arith, ok.within)) (rw pow-zero (omega arith))
            ∙ leaf-none (child_count ρ) child (child (ρ.from + j) s) 0
