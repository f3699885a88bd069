-- Cases by a test, by the order of two numbers, and by their equality.
use mathlib.Core.Path.{◌≡◌, refl}
use mathlib.Core.Bool.{Bool, true, false}
use Prim.Native.Nat.{ℕ, ◌<◌, ◌≤◌}
use lib.Dec.{ltb, eqb}
use borrow.Author.Tests.{ltb-true, ltb-false, eqb-true, eqb-false}

pub by_test {ℓ} : {C : Type ℓ} (t : Bool) → (t ≡ true → C) → (t ≡ false → C) → C
by_test true is not = is refl
by_test false is not = not refl

pub by_order {ℓ} : {C : Type ℓ} (a b : ℕ) → (a < b → C) → (b ≤ a → C) → C
by_order a b below above = by_test (ltb a b) (λ t. below (ltb-true a b t)) (λ t. above (ltb-false a b t))

pub by_equality {ℓ} : {C : Type ℓ} (a b : ℕ) → (a ≡ b → C) → ((a ≡ b → ⊥) → C) → C
by_equality a b same other = by_test (eqb a b) (λ t. same (eqb-true a b t)) (λ t. other (eqb-false a b t))
