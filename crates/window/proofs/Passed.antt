-- What a test of words below a bound says of the words that a window's rows use.
use mathlib.Core.Bool.{Bool, true}
use mathlib.Core.List.{List}
use mathlib.Core.Path.{◌≡◌, refl, sym, ◌∙◌}
use Prim.Native.Nat.{ℕ, ◌+◌}
use native.Mathlib.Nat.{mul-one}
use Rattle.algebra.specs.Every.{every}
use Rattle.algebra.proofs.Every.{every-all}
use Rattle.code.specs.declared.Shape.{Shape}
use Rattle.code.specs.Inner.Used.{row_below, used_below}
use Rattle.field.specs.Binary.{binary}
use Rattle.field.specs.Kind.{kind_of}
use Rattle.prime.specs.Prime.{primes, modulus}
use Rattle.field.proofs.KindOf.{kind_2}
use Rattle.window.specs.declared.WindowRows.{WindowRows}
use Rattle.window.specs.Head.{of_noise}
use Rattle.window.specs.Inner.Testing.{elements_used}

module _ (keys : List (List (List ℕ))) (s : Shape) (r : WindowRows) (words : List ℕ) where
  -- the words that row k of the window uses are below a bound
  abbrev pub row_passes : ℕ → ℕ → Bool
  row_passes bound k = row_below bound words keys s (r.window.first + k)

  all-bits : every r.window.count (row_passes 2) ≡ elements_used (of_noise binary) keys s r words
  unfolding row_below elements_used
  all-bits = simp mul-one

  all-primes : every r.window.count (row_passes modulus) ≡ elements_used primes keys s r words
  unfolding row_below elements_used
  all-primes = simp mul-one

  -- at the kind of a field byte; in field 1 every word is of an element, in field 2 noise values are elements
  module _ (field : ℕ) where
    pub binary-used : field ≡ 1 → true ≡ elements_used (kind_of field).field keys s r words
    unfolding elements_used
    binary-used e = rw e (sym (every-all _ r.window.count (λ k b. every-all _ s.terms (λ i c. refl))))

    prime-used : (field ≡ 1 → ⊥) → {t : Bool} → t ≡ elements_used primes keys s r words → t ≡ elements_used (kind_of field).field keys s r words
    prime-used h q = rw (kind_2 field h) q

    pub below-prime : (field ≡ 1 → ⊥) → {bound : ℕ} → bound ≡ modulus → {t : Bool}
        → t ≡ used_below bound words keys s r.window → t ≡ elements_used (kind_of field).field keys s r words
    unfolding used_below
    below-prime h e q = prime-used h (q ∙ rw e all-primes)

    pub noise-binary : field ≡ 1 → {t : Bool} → t ≡ used_below 2 words keys s r.window
        → t ≡ elements_used (of_noise (kind_of field).field) keys s r words
    unfolding used_below
    noise-binary e q = q ∙ rw e all-bits

    pub noise-prime : (field ≡ 1 → ⊥) → {t : Bool} → t ≡ elements_used (kind_of field).field keys s r words
        → t ≡ elements_used (of_noise (kind_of field).field) keys s r words
    noise-prime h q = q ∙ rw (kind_2 field h)
