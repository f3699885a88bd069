-- Held outputs counted one by one. Assumes nothing.
use mathlib.Core.Path.{◌≡◌, refl, sym, ap, ap₂, ◌∙◌}
use mathlib.Core.Bool.{Bool, true, false}
use mathlib.Core.List.{List, [], ◌++◌}
use Prim.Native.Nat.{ℕ, ◌+◌, ◌*◌}
use native.Mathlib.Omega.{arith}
use native.Mathlib.Nat.{mul-one, zero-mul}
use native.Mathlib.Numerals.{add-one}
use lib.ListN.{get_or}
use Rattle.algebra.specs.Coding.{at}
use Rattle.algebra.specs.Field.{Field, Value}
use Rattle.field.proofs.BothKinds.{kind_laws}
use Rattle.field.specs.Kind.{kind_of}
use Rattle.field.specs.Inner.Elements.{noise_in, element_in, Compared}
use Rattle.field.specs.declared.element.Element.{Element}
use Rattle.pairing_tests.specs.Inner.Steps.{holds_at, held_words}
use Rattle.pairing.specs.Verdict.{same_list, holds}
use Rattle.pairing.proofs.Same.{same_refl}
use Rattle.pairing_tests.proofs.Same.{same_not}

-- ---- one output

-- the noise value of word x
noise-at : (field : ℕ) (l : List ℕ) (x : ℕ) → at (kind_of field).field.noise_values l x ≡ noise_in field (get_or l x 0)
noise-at field l x =
    let C = (kind_of field).field.noise_values in
    ap (C.read l) (ap (λ (n : ℕ). x * n) (kind_laws field).noise-width ∙ mul-one x) ∙ (kind_laws field).noise-read l x

module _ (field : ℕ) where
  abbrev F : Field
  F = (kind_of field).field

  same-value : (y z : Value F) → F.elements.words y ≡ F.elements.words z → y ≡ z
  same-value y z q =
      let L = (kind_laws field).field.elements in
      sym (L.read-words [] y []) ∙ ap (λ (l : List ℕ). F.elements.read (l ++ []) 0) q ∙ L.read-words [] z []

  module _ (delta u v w : List ℕ) (x : ℕ) (d m a r b : Element) (scalar : element_in field d ≡ at F.elements delta 0)
      (multiple : element_in field m ≡ F.scaled.scale (noise_in field (get_or u x 0)) (element_in field d)) (first : element_in field a ≡ at F.elements v x)
      (sum : element_in field r ≡ F.scaled.group.add (element_in field m) (element_in field a)) (left : element_in field b ≡ at F.elements w x)
      {t : Bool} (compared : Compared field b r t) where
    -- Δu + v at the output
    abbrev both : Value F
    both = F.scaled.group.add (F.scaled.scale (at F.noise_values u x) (F.elements.read delta 0)) (at F.elements v x)

    right : element_in field r ≡ both
    right =
        let Δ : element_in field d ≡ F.elements.read delta 0 = scalar ∙ ap (F.elements.read delta) (zero-mul F.elements.width) in
        sum ∙ ap₂ F.scaled.group.add (multiple ∙ ap₂ F.scaled.scale (sym (noise-at field u x)) Δ) first

    pub at_output : t ≡ holds_at F delta u v w x
    unfolding holds_at holds
    at_output = elim t as (λ t. Compared field b r t → t ≡ same_list (F.elements.words (at F.elements w x)) (F.elements.words both)) [
      | true ↦ λ c. sym (ap (λ (y : Value F). same_list (F.elements.words y) (F.elements.words both)) (sym left ∙ c.same refl ∙ right)
          ∙ same_refl (F.elements.words both))
      | false ↦ λ c. sym (same_not (F.elements.words (at F.elements w x)) (F.elements.words both)
          (λ q. c.other refl (left ∙ same-value (at F.elements w x) both q ∙ sym right)))
    ] compared

-- ---- all outputs

module _ (F : Field) (delta u v w : List ℕ) where
  pub held_none : 0 ≡ held_words F delta u v w 0
  unfolding held_words
  held_none = refl

  module _ (x : ℕ) {held : ℕ} (before : held ≡ held_words F delta u v w x) where
    pub held_more : true ≡ holds_at F delta u v w x → held + 1 ≡ held_words F delta u v w (x + 1)
    unfolding held_words
    held_more e = rw (add-one x, before, ← e)

    pub held_same : false ≡ holds_at F delta u v w x → held ≡ held_words F delta u v w (x + 1)
    unfolding held_words
    held_same e = rw (add-one x, before, ← e) (omega arith)
