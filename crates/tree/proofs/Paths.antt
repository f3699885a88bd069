-- Paths in base k: the digits of a number, and the numbers below k ^ (d + 1) by their highest digit.
use mathlib.Core.Path.{◌≡◌, refl, ap, sym, ◌∙◌}
use Prim.Native.Nat.{ℕ, zero, suc, ◌+◌, ◌*◌, ◌/◌, ◌%◌, ◌^◌, ◌<◌}
use native.Mathlib.Nat.{add-zero, div-eq_of_lt, mul-add-div_right, mul-add-mod_self_right, mod-eq_of_lt, one-le-pow, pow-succ', mul_assoc, mod-lt}
use lib.Arith.{mod-mul}
use Rattle.tree.specs.Tree.{path}

-- digit d of j in base k
abbrev pub digit : ℕ → ℕ → ℕ → ℕ
digit k d j = (j / k ^ d) % k

module _ (k : ℕ) (some : 0 < k) where
  pub power-some : (d : ℕ) → 0 < k ^ d
  power-some d = one-le-pow d k some

  pub digit-below : (d j : ℕ) → digit k d j < k
  digit-below d j = mod-lt (j / k ^ d) some

  -- the leaves below child c are those from c * k ^ d on: their first digit is c
  pub digit-first : (d c j : ℕ) → c < k → j < k ^ d → digit k d (c * k ^ d + j) ≡ c
  digit-first d c j hc hj =
      ap (λ q. q % k) (mul-add-div_right (power-some d) c j ∙ ap (λ q. c + q) (div-eq_of_lt hj) ∙ add-zero c)
      ∙ mod-eq_of_lt hc

  up : (d c : ℕ) → c * k ^ suc d ≡ c * k * k ^ d
  up d c = ap (λ n. c * n) (pow-succ' k d) ∙ sym (mul_assoc c k (k ^ d))

  digit_past : (d c j : ℕ) → digit k d (c * k * k ^ d + j) ≡ digit k d j
  digit_past d c j = ap (λ q. q % k) (mul-add-div_right (power-some d) (c * k) j) ∙ mul-add-mod_self_right c k (j / k ^ d)

  -- and their further digits are those of the leaf's number below child c
  pub path_past : (d c j : ℕ) → path k d (c * k ^ d + j) ≡ path k d j
  unfolding path
  path_past zero c j = refl
  path_past (suc d) c j = cc (up d c, digit_past d c j, path_past d (c * k) j)

  -- a number modulo k ^ (d + 1) by its digit d and the rest
  pub mod_suc-digit : (d j : ℕ) → j % k ^ suc d ≡ digit k d j * k ^ d + j % k ^ d
  mod_suc-digit d j = ap (λ n. j % n) (pow-succ' k d) ∙ mod-mul j some (power-some d)
