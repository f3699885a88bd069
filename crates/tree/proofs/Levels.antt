-- A tree of depth d with 2^g children a node has d / g levels, where g divides d (document 02, 10): its leaves are the 2^d of
-- its depth.
use mathlib.Core.Path.{◌≡◌, sym, ap, ◌∙◌}
use Prim.Native.Nat.{ℕ, ◌/◌, ◌%◌, ◌*◌, ◌^◌}
use native.Mathlib.Nat.{div-add-mod'}
use native.Mathlib.Omega.{arith}
use Rattle.tree.proofs.PowerLaws.{power_of_power}

pub whole-levels : (g d : ℕ) → d % g ≡ 0 → d / g * g ≡ d
whole-levels g d divides = omega (arith, div-add-mod' d g)

pub level_leaves : (g d : ℕ) → d % g ≡ 0 → (2 ^ g) ^ (d / g) ≡ 2 ^ d
level_leaves g d divides = power_of_power g (d / g) ∙ ap (λ n. 2 ^ n) (whole-levels g d divides)

-- the words of N elements, by a tree's levels (document 02, 10)
pub leaf-words : (g d width : ℕ) {n : ℕ} → d % g ≡ 0 → n ≡ 2 ^ d * width → n ≡ (2 ^ g) ^ (d / g) * width
leaf-words g d width divides e = e ∙ ap (λ (m : ℕ). m * width) (sym (level_leaves g d divides))
