-- Consecutive children of a node: what is left of a tree's depth below them, and how many leaves.
use mathlib.Core.Path.{◌≡◌, ap, sym, ◌∙◌}
use mathlib.Core.Logic.{◌≢◌}
use Prim.Native.Nat.{ℕ, suc, ◌+◌, ◌-◌, ◌*◌, ◌^◌}
use native.Mathlib.Nat.{two-pow-succ}
use native.Mathlib.Omega.{arith}
use Rattle.tree_sums.specs.Inner.Ranges.{left_of, size_of, all_children, of_child}
use Rattle.tree_sums.specs.declared.range.Range.{Range}
use Rattle.tree.proofs.PowerLaws.{power_of_power, level_less}

-- ---- what is left

pub left_is : (ρ : Range) → ρ.levels ≢ 0 → left_of ρ ≡ ρ.bits + (ρ.levels - 1) * ρ.branch_bits
unfolding left_of
left_is ρ h = omega (arith, level_less ρ.levels ρ.branch_bits h)

pub left-all : (g levels : ℕ) → left_of (all_children g levels) ≡ levels * g
unfolding left_of
left-all g levels = omega arith

-- one child, as all its children
pub left_one : (ρ : Range) → ρ.levels ≢ 0 → ρ.bits ≡ 1 → left_of ρ ≡ suc (left_of (of_child ρ))
left_one ρ h e = omega (arith, left_is ρ h, left-all ρ.branch_bits (ρ.levels - 1))

-- ---- leaves

pub size-all : (g levels : ℕ) → size_of (all_children g levels) ≡ (2 ^ g) ^ levels
size-all g levels = ap (λ n. 2 ^ n) (left-all g levels) ∙ sym (power_of_power g levels)

-- twice as many where one more is left
pub twice : (ρ σ : Range) → left_of ρ ≡ suc (left_of σ) → size_of ρ ≡ size_of σ + size_of σ
twice ρ σ e = ap (λ n. 2 ^ n) e ∙ two-pow-succ (left_of σ)

-- two children by the children of each
module _ (ρ : Range) (h : ρ.levels ≢ 0) where
  abbrev one : Range
  one = of_child ρ

  pub one_twice : ρ.bits ≡ 1 → size_of ρ ≡ size_of one + size_of one
  one_twice e = twice ρ one (left_one ρ h e)
