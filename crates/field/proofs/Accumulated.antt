-- The words of a vector of a field, by the field's number, accumulated in place.
use mathlib.Core.Path.{◌≡◌, ap, ◌∙◌}
use mathlib.Core.List.{List}
use Prim.Native.Nat.{ℕ, ◌*◌}
use native.Mathlib.Nat.{mul-one}
use lib.ListN.{length}
use Rattle.algebra.specs.Coding.{at, flat}
use Rattle.algebra.specs.Field.{NoiseValue, Value}
use Rattle.algebra.specs.Sum.{accumulate}
use Rattle.algebra.proofs.Coding.{length-flat}
use Rattle.algebra.proofs.Flats.{flat-accumulated}
use Rattle.field.specs.Kind.{kind_of}
use Rattle.field.proofs.BothKinds.{kind_laws}

-- the words of N elements of a field, accumulated
pub accumulated : (field N : ℕ) (f : ℕ → Value (kind_of field).field) {w : List ℕ} → w ≡ flat (kind_of field).field.elements N f
    → {next : List ℕ}
    → next ≡ flat (kind_of field).field.elements N (accumulate (kind_of field).field.scaled.group (at (kind_of field).field.elements w))
    → next ≡ flat (kind_of field).field.elements N (accumulate (kind_of field).field.scaled.group f)
accumulated field N f e q =
    flat-accumulated (kind_of field).field.scaled.group (kind_of field).field.elements (kind_laws field).field.elements N f e q

-- the words of N noise values, all of them accumulated
pub noise-accumulated : (field N : ℕ) (f : ℕ → NoiseValue (kind_of field).field) {w : List ℕ} → w ≡ flat (kind_of field).field.noise_values N f
    → {next : List ℕ}
    → next ≡ flat (kind_of field).field.noise_values (length w) (accumulate (kind_of field).field.ring.group (at (kind_of field).field.noise_values w))
    → next ≡ flat (kind_of field).field.noise_values N (accumulate (kind_of field).field.ring.group f)
noise-accumulated field N f {w} e q =
    let size : length w ≡ N = ap length e ∙ length-flat (kind_of field).field.noise_values (kind_laws field).field.noise_values N f
    ∙ ap (λ (n : ℕ). N * n) (kind_laws field).noise-width ∙ mul-one N in
    flat-accumulated (kind_of field).field.ring.group (kind_of field).field.noise_values (kind_laws field).field.noise_values N f e (rw size at q)
