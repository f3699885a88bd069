-- Lengths of so many bytes an output by quotient and rest, so that no product is taken.
use mathlib.Core.Path.{◌≡◌, sym, ap, ◌∙◌}
use mathlib.Core.Bool.{false}
use Prim.Native.Nat.{ℕ, ◌*◌, ◌%◌, ◌≤◌}
use native.Mathlib.Nat.{mul-mod_right}
use lib.Dec.{eqb}
use borrow.Author.Tests.{ne_eqb}

module _ (len width count : ℕ) (h : 1 ≤ width) where
  -- a length with a rest
  pub times-rest : (len % width ≡ 0 → ⊥) → false ≡ eqb len (width * count)
  times-rest r = sym (ne_eqb len (width * count) (λ e. r (ap (λ (n : ℕ). n % width) e ∙ mul-mod_right width count)))
