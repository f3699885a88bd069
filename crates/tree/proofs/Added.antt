-- Laws of elements added into a buffer: each element, and the front and the rest of the buffer apart.
use mathlib.Core.Path.{◌≡◌, refl, ap, ap₂, sym, ◌∙◌}
use mathlib.Core.List.{List, [], ◌∷◌, ◌++◌}
use Prim.Native.Nat.{ℕ, zero, suc, ◌+◌, ◌*◌, ◌≤◌, ◌<◌}
use native.Mathlib.Nat.{suc-mul, mul-le-mul_right}
use native.Mathlib.Omega.{arith}
use lib.ListN.{length, take, drop, length-drop}
use lib.Seq.{take-take, drop-drop, length-take-le}
use Rattle.algebra.specs.Coding.{Coding, CodingLaws, at}
use Rattle.algebra.specs.Field.{Field, FieldLaws, Value}
use Rattle.algebra.proofs.Coding.{flat_cong, flat-add, read_local}
use Rattle.tree.specs.Added.{added}

-- what lies within the front n is not cut by it
take_part : {X : Type 0} (k w n : ℕ) (l : List X) → k + w ≤ n → take w (drop k (take n l)) ≡ take w (drop k l)
take_part zero w n l h = take-take w n l (omega arith)
take_part (suc k) w zero l h = absurd (omega arith)
take_part (suc k) w (suc n) [] h = refl
take_part (suc k) w (suc n) (x ∷ l) h = take_part k w n l (omega arith)

within : (j m w : ℕ) → j < m → j * w + w ≤ m * w
within j m w h = rw (← suc-mul j w) (mul-le-mul_right w h)

spread : (m j w : ℕ) → m * w + j * w ≡ (m + j) * w
spread m j w = omega arith

module _ {E : Type 0} (C : Coding E) (L : CodingLaws C) where
  -- element j of the first m elements, and of those after them
  at_front : (l : List ℕ) (m j : ℕ) → j < m → m * C.width ≤ length l → at C (take (m * C.width) l) j ≡ at C l j
  at_front l m j h hl =
      let b = within j m C.width h in
      read_local C L (take (m * C.width) l) l (j * C.width) (j * C.width) (rw (length-take-le (m * C.width) l hl) b)
      (omega arith) (take_part (j * C.width) C.width (m * C.width) l b)

  at_rest : (l : List ℕ) (m n j : ℕ) → j < n → (m + n) * C.width ≤ length l → at C (drop (m * C.width) l) j ≡ at C l (m + j)
  at_rest l m n j h hl =
      let b = within j n C.width h in
      let s = spread m j C.width in
      read_local C L (drop (m * C.width) l) l (j * C.width) ((m + j) * C.width) (rw length-drop (omega arith)) (omega arith)
      (ap (take C.width) (drop-drop (j * C.width) (m * C.width) l ∙ ap (λ k. drop k l) s))

module _ (F : Field) (laws : FieldLaws F) where
  pub added_cong : (n : ℕ) (f g : ℕ → Value F) (l : List ℕ) → ((j : ℕ) → j < n → f j ≡ g j) → added F n f l ≡ added F n g l
  unfolding added
  added_cong n f g l e =
      flat_cong F.elements laws.elements n (λ j. F.scaled.group.add (at F.elements l j) (f j))
      (λ j. F.scaled.group.add (at F.elements l j) (g j))
      (λ j h. ap (F.scaled.group.add (at F.elements l j)) (e j h))

  -- adding to m + n elements is adding to the first m and to the n after them
  pub added_parts : (m n : ℕ) (f : ℕ → Value F) (l : List ℕ) → length l ≡ (m + n) * F.elements.width
      → added F (m + n) f l
      ≡ added F m f (take (m * F.elements.width) l) ++ added F n (λ j. f (m + j)) (drop (m * F.elements.width) l)
  unfolding added
  added_parts m n f l e =
      flat-add C L m n (λ j. add (at C l j) (f j))
      ∙ ap₂ (λ a b. a ++ b)
      (flat_cong C L m (λ j. add (at C l j) (f j)) (λ j. add (at C (take (m * C.width) l) j) (f j))
      (λ j h. ap (λ x. add x (f j)) (sym (at_front C L l m j h (omega arith)))))
      (flat_cong C L n (λ j. add (at C l (m + j)) (f (m + j))) (λ j. add (at C (drop (m * C.width) l) j) (f (m + j)))
      (λ j h. ap (λ x. add x (f (m + j))) (sym (at_rest C L l m n j h (omega arith)))))
    where
      C : Coding (Value F)
      C = F.elements

      L : CodingLaws C
      L = laws.elements

      add : Value F → Value F → Value F
      add = F.scaled.group.add
