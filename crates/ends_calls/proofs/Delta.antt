-- Δ of an accepted record written in two words.
use mathlib.Core.Path.{◌≡◌, refl, ap, ◌∙◌}
use mathlib.Core.List.{List, [], ◌∷◌, ◌++◌}
use Prim.Native.Nat.{ℕ, ◌+◌, ◌≤◌}
use native.Mathlib.Omega.{arith}
use lib.Dec.{eqb}
use lib.ListN.{length, set, drop}
use borrow.Author.Tests.{ne_eqb}
use Rattle.number.proofs.Places.{either}
use Rattle.algebra.specs.Choice.{choose}
use Rattle.field.specs.Bytes.{word_at}
use Rattle.field.specs.Inner.Elements.{element_at}
use Rattle.field.specs.declared.element.Element.{Element}
use Rattle.record.specs.declared.Layout.{Layout}
use Rattle.record.proofs.Callers.{element_1, element_2}
use Rattle.ends.specs.Scalar.Vectors.{delta_out}
use Rattle.ends.specs.Inner.Scalar.{content_of}

two_stores : (d : List ℕ) (a b : ℕ) → 2 ≤ length d → set (set d 0 a) 1 b ≡ (a ∷ b ∷ []) ++ drop 2 d
two_stores [] a b h = absurd (omega arith)
two_stores (x ∷ []) a b h = absurd (omega arith)
two_stores (x ∷ y ∷ d) a b h = refl

module _ (s : List ℕ) (f : Layout) where
  -- the words at its place
  delta-words : (word_at s f.body ∷ choose (eqb f.field 1) (word_at s (f.body + 8)) 0 ∷ []) ≡ delta_out (content_of s f)
  delta-words =
      either f.field 1
      (λ e. simp (element_1 f.field s f.body e))
      (λ e. simp (element_2 f.field s f.body e, ne_eqb f.field 1 e))

  pub delta-written : (d : List ℕ) → 2 ≤ length d → {e : Element} → e ≡ element_at f.field s f.body
      → set (set d 0 e.low) 1 e.high ≡ delta_out (content_of s f) ++ drop 2 d
  unfolding element_at
  delta-written d room e = rw e (two_stores d _ _ room ∙ ap (λ (l : List ℕ). l ++ drop 2 d) delta-words)
