-- The kind of a field byte: binary for 1, prime for every other; the words of zero.
use mathlib.Core.Bool.{Bool, true, false}
use mathlib.Core.Path.{◌≡◌, refl, ap}
use Prim.Native.Nat.{ℕ}
use borrow.Author.Tests.{ne_eqb}
use lib.Dec.{eqb}
use lib.ListN.{replicate}
use Rattle.algebra.specs.Choice.{choose}
use Rattle.field.specs.Kind.{Kind, binary_kind, prime_kind, kind_of, element_words}

pub kind_1 : (field : ℕ) → field ≡ 1 → kind_of field ≡ binary_kind
kind_1 field f = ap kind_of f

pub kind_2 : (field : ℕ) → (field ≡ 1 → ⊥) → kind_of field ≡ prime_kind
kind_2 field f = ap (λ (b : Bool). choose b binary_kind prime_kind) (ne_eqb field 1 f)

-- an element's words
pub words_1 : (field : ℕ) → field ≡ 1 → element_words field ≡ 2
words_1 field f = ap (λ (K : Kind). K.field.elements.width) (kind_1 field f)

pub words_2 : (field : ℕ) → (field ≡ 1 → ⊥) → element_words field ≡ 1
words_2 field f = ap (λ (K : Kind). K.field.elements.width) (kind_2 field f)

-- what holds both where the test of the field's number passes and where it fails holds of every number
pub by_field : (P : Bool → Type 0) → P true → P false → (field : ℕ) → P (eqb field 1)
by_field P x y field = of (eqb field 1)
  where
    of : (t : Bool) → P t
    of true = x
    of false = y

-- the kind by the test of a field's number
abbrev pub kind_by : Bool → Kind
kind_by t = choose t binary_kind prime_kind

-- words of zero are zero, of elements and of noise values
pub zero-elements : (field : ℕ) → (kind_of field).field.elements.words (kind_of field).field.scaled.group.zero ≡ replicate (kind_of field).field.elements.width 0
zero-elements = by_field (λ t. (kind_by t).field.elements.words (kind_by t).field.scaled.group.zero ≡ replicate (kind_by t).field.elements.width 0) refl refl

pub zero-noise : (field : ℕ) → (kind_of field).field.noise_values.words (kind_of field).field.ring.group.zero ≡ replicate (kind_of field).field.noise_values.width 0
zero-noise = by_field (λ t. (kind_by t).field.noise_values.words (kind_by t).field.ring.group.zero ≡ replicate (kind_by t).field.noise_values.width 0) refl refl
