-- Powers of two: by levels, by halves, and as the number of a node's children.
use mathlib.Core.Path.{◌≡◌, ap, sym, ◌∙◌}
use mathlib.Core.Logic.{◌≢◌}
use Prim.Native.Nat.{ℕ, zero, suc, ◌+◌, ◌-◌, ◌*◌, ◌^◌, ◌≤◌}
use native.Mathlib.Nat.{zero-mul, pow-zero, pow-suc, two-pow-succ}
use native.Mathlib.Omega.{arith}
use lib.Pow.{pow-add, pow_mono}
use Rattle.tree.specs.Inner.Branches.{IsBranch}

-- the leaves of m levels with 2 ^ g children are those of m * g levels with two
pub power_of_power : (g m : ℕ) → (2 ^ g) ^ m ≡ 2 ^ (m * g)
power_of_power g zero = pow-zero (2 ^ g) ∙ ap (λ n. 2 ^ n) (sym (zero-mul g))
power_of_power g (suc m) =
    let e : m * g + g ≡ suc m * g = omega arith in cc (pow-suc (2 ^ g) m, power_of_power g m, pow-add 2 (m * g) g)

-- one less
pub down : (n : ℕ) → n ≢ 0 → n ≡ suc (n - 1)
down n h = omega arith

-- a level less, times a factor
pub level_less : (levels g : ℕ) → levels ≢ 0 → levels * g ≡ (levels - 1) * g + g
level_less levels g h = let e = ap (λ n. n * g) (down levels h) in omega arith

pub halved : (r : ℕ) → 1 ≤ r → 2 ^ r ≡ 2 ^ (r - 1) + 2 ^ (r - 1)
halved r h = ap (λ n. 2 ^ n) (down r (λ e. omega arith)) ∙ two-pow-succ (r - 1)

-- the most children
pub eight : (g : ℕ) → IsBranch g → 2 ^ g ≤ 8
eight g b = pow_mono {i = g} {j = 3} b.eight
