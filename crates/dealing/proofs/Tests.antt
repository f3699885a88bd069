-- Each return of the test of Δ gives what the definition says there. Assumes nothing.
use mathlib.Core.Path.{◌≡◌, sym, ap, ◌∙◌}
use mathlib.Core.Bool.{Bool, true, false, ◌&&◌}
use mathlib.Core.List.{List}
use Prim.Native.Nat.{ℕ, ◌+◌, ◌≤◌}
use native.Mathlib.Omega.{arith}
use lib.ListN.{length}
use Rattle.field.specs.Bytes.{word_at}
use Rattle.field.specs.ByNumber.{element_of, rest_zero, is_scalar}
use Rattle.field.specs.Inner.Elements.{element_length, element_at}
use Rattle.field.specs.declared.element.Element.{Element}
use Rattle.field.proofs.Elements.{at_words}
use Rattle.field.proofs.Widths.{width-most}
use Rattle.dealing.specs.Input.{words_of, delta_admitted}

-- an element at the front of Δ's bytes
pub delta-room : (f : ℕ) (d : List ℕ) → length d ≡ 16 → 0 + element_length f ≤ length d
delta-room f d e = omega (arith, width-most f)

module _ (f : ℕ) (d : List ℕ) {e : Element} (read : e ≡ element_at f d 0) {x : Bool} (first : x ≡ is_scalar f (element_of f e.low e.high)) where
  words : x ≡ is_scalar f (words_of f d)
  words = first ∙ ap (is_scalar f) (at_words f d 0 read)

  pub delta_no : x ≡ false → false ≡ delta_admitted f d
  unfolding delta_admitted
  delta_no n = ap (λ (b : Bool). b && rest_zero f (word_at d 8)) (sym n ∙ words)

  pub delta-last : x ≡ true → {h : ℕ} {y : Bool} → h ≡ word_at d 8 → y ≡ rest_zero f h → y ≡ delta_admitted f d
  unfolding delta_admitted
  delta-last n p q = q ∙ ap (rest_zero f) p ∙ ap (λ (b : Bool). b && rest_zero f (word_at d 8)) (sym n ∙ words)
