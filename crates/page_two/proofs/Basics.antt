-- Numbers one after another are the library's coding of one word or byte each.
use Prim.Native.Nat.{ℕ, zero, suc}
use mathlib.Core.Path.{◌≡◌, refl, ap₂}
use mathlib.Core.List.{List, [], ◌∷◌, ◌++◌}
use Rattle.algebra.specs.Coding.{flat}
use Rattle.layer_add.specs.Add.{word}
use Rattle.page.specs.Document01 as page

pub list_is : (n : ℕ) (f g : ℕ → ℕ) → ((k : ℕ) → f k ≡ g k) → page.list n f ≡ flat word n g
unfolding page.list flat
list_is zero f g e = refl
list_is (suc n) f g e = ap₂ (λ (l : List ℕ) (x : ℕ). l ++ (x ∷ [])) (list_is n f g e) (e n)
