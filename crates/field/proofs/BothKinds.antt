-- Both kinds obey the laws that are asked of a kind, so the facts common to both fields hold in each.
use mathlib.Core.Path.{refl}
use Prim.Native.Nat.{ℕ}
use Rattle.algebra.specs.Common.{Common}
use Rattle.algebra.specs.Group.{itself}
use Rattle.algebra.proofs.Common.{common_facts}
use Rattle.algebra.proofs.Sum.{itself_laws}
use Rattle.field.specs.Bytes.{low_of}
use Rattle.field.specs.Kind.{KindLaws, BothFields, binary_kind, prime_kind, kind_of}
use Rattle.field.proofs.BinaryField.{binary_laws}
use Rattle.field.proofs.KindOf.{by_field, kind_by}
use Rattle.prime.proofs.PrimeField.{prime_laws, reduce_element}

pub binary_kind_laws : KindLaws binary_kind
binary_kind_laws =
    record {
      field = binary_laws;
      leaf-element = λ s. refl;
      coefficient-element = λ w. refl;
      noise-width = refl;
      noise-read = λ l k. refl;
    }

pub prime_kind_laws : KindLaws prime_kind
prime_kind_laws =
    record {
      field = prime_laws;
      leaf-element = λ s. reduce_element (low_of s);
      coefficient-element = reduce_element;
      noise-width = refl;
      noise-read = λ l k. refl;
    }

pub kind_laws : BothFields
kind_laws = by_field (λ t. KindLaws (kind_by t)) binary_kind_laws prime_kind_laws

-- the facts common to both fields, of a field's elements, and of its noise values
pub kind_facts : (field : ℕ) → Common (kind_of field).field.scaled
kind_facts field =
    let L = (kind_laws field).field in
    common_facts (kind_of field).field.ring (kind_of field).field.scaled L.ring L.scaled

pub noise_facts : (field : ℕ) → Common (itself (kind_of field).field.ring)
noise_facts field =
    let L = (kind_laws field).field in
    common_facts (kind_of field).field.ring (itself (kind_of field).field.ring) L.ring (itself_laws (kind_of field).field.ring L.ring)
