-- The elements below consecutive children of a node, by those below each child.
use mathlib.Core.Path.{◌≡◌, ap, sym, ◌∙◌}
use mathlib.Core.Logic.{◌≢◌}
use Prim.Native.Nat.{ℕ, suc, ◌+◌, ◌-◌, ◌*◌, ◌^◌, ◌<◌}
use native.Mathlib.Nat.{zero-mul, zero-add}
use native.Mathlib.Omega.{arith}
use lib.Pow.{pow_pos}
use Rattle.tree.specs.Added.{leaf_element}
use Rattle.tree_sums.specs.Inner.Ranges.{child_count, below, all_children, of_child, IsRange, range_element}
use Rattle.tree_sums.specs.declared.range.Range.{Range}
use Rattle.tree.proofs.Laws.{leaf-child}
use Rattle.tree.proofs.PowerLaws.{down}

module _ {A E : Type 0} (element : A → E) (child : ℕ → A → A) where
  -- the leaves of a child of s
  leaf-below : (s : A) (k m c j : ℕ) → 0 < k → c < k → j < k ^ m
      → leaf_element element k child (suc m) s (c * k ^ m + j) ≡ leaf_element element k child m (child c s) j
  unfolding leaf_element
  leaf-below s k m c j some hc hj = ap element (leaf-child k child some m s c j hc hj)

  -- all the children of s
  pub all-element : (s : A) (g levels j : ℕ) → range_element element child (all_children g levels) s j ≡ leaf_element element (2 ^ g) child levels s j
  unfolding range_element
  all-element s g levels j =
      ap (leaf_element element (2 ^ g) child levels s)
      (ap (λ n. n + j) (zero-mul ((2 ^ g) ^ (levels - 1))) ∙ zero-add j)

  module _ (s : A) (ρ : Range) (h : ρ.levels ≢ 0) where
    -- child c of s, as the range of all its children
    one_below : (c j : ℕ) → c < child_count ρ → j < below ρ
        → leaf_element element (child_count ρ) child ρ.levels s (c * below ρ + j)
        ≡ range_element element child (of_child ρ) (child c s) j
    one_below c j hc hj =
        ap (λ n. leaf_element element (child_count ρ) child n s (c * below ρ + j)) (down ρ.levels h)
        ∙ leaf-below s (child_count ρ) (ρ.levels - 1) c j (pow_pos ρ.branch_bits) hc hj
        ∙ sym (all-element (child c s) ρ.branch_bits (ρ.levels - 1) j)

    -- the first child of a pair, and the second
    pub first-child : (j : ℕ) → IsRange ρ → j < below ρ
        → range_element element child ρ s j ≡ range_element element child (of_child ρ) (child ρ.from s) j
    unfolding range_element
    first-child j ok l = one_below ρ.from j (omega (arith, ok.within, pow_pos ρ.bits)) l

    pub second-child : (j : ℕ) → IsRange ρ → ρ.bits ≡ 1 → j < below ρ
        → range_element element child ρ s (below ρ + j)
        ≡ range_element element child (of_child ρ) (child (ρ.from + 1) s) j
    unfolding range_element
    second-child j ok e l =
        ap (leaf_element element (child_count ρ) child ρ.levels s) (next ρ.from (below ρ) j)
        ∙ one_below (ρ.from + 1) j (omega (arith, ok.within, ap (λ n. 2 ^ n) e)) l
      where
        next : (c b j : ℕ) → c * b + (b + j) ≡ (c + 1) * b + j
        next c b j = omega arith
