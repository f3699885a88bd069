-- Lists of four. Assumes nothing.
use mathlib.Core.Path.{◌≡◌, refl}
use mathlib.Core.List.{List, [], ◌∷◌}
use native.Mathlib.Omega.{arith}
use lib.ListN.{length, get_or}
use Rattle.aes128.specs.State.{four}

module _ {A : Type 0} where
  -- a list of four is its four entries
  pub is_four : (d : A) (l : List A) → length l ≡ 4 → l ≡ four (λ i. get_or l i d)
  is_four d [] e = absurd (omega arith)
  is_four d (a ∷ []) e = absurd (omega arith)
  is_four d (a ∷ b ∷ []) e = absurd (omega arith)
  is_four d (a ∷ b ∷ x ∷ []) e = absurd (omega arith)
  is_four d (a ∷ b ∷ x ∷ y ∷ []) e = refl
  is_four d (a ∷ b ∷ x ∷ y ∷ z ∷ l) e = absurd (omega arith)

  pub four_eq : {a b x y a' b' x' y' : A} → a ≡ a' → b ≡ b' → x ≡ x' → y ≡ y' → a ∷ b ∷ x ∷ y ∷ [] ≡ a' ∷ b' ∷ x' ∷ y' ∷ []
  four_eq p q r s = cc
