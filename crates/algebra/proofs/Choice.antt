-- A choice whose test is known, and what holds of both of its values.
use mathlib.Core.Path.{◌≡◌, refl}
use mathlib.Core.Bool.{Bool, true, false}
use Rattle.algebra.specs.Choice.{choose}

pub choose-true {ℓ} : {A : Type ℓ} (t : Bool) (a b : A) → t ≡ true → choose t a b ≡ a
choose-true t a b e = rw e

pub choose-false {ℓ} : {A : Type ℓ} (t : Bool) (a b : A) → t ≡ false → choose t a b ≡ b
choose-false t a b e = rw e

-- a function of a choice is the choice of its values
pub choose-map {ℓ κ} : {A : Type ℓ} {B : Type κ} (f : A → B) (t : Bool) (a b : A) → f (choose t a b) ≡ choose t (f a) (f b)
choose-map f true a b = refl
choose-map f false a b = refl

-- what holds of both values holds of the choice
pub choose_either {ℓ κ} : {A : Type ℓ} (P : A → Type κ) (t : Bool) (a b : A) → P a → P b → P (choose t a b)
choose_either P true a b p q = p
choose_either P false a b p q = q
