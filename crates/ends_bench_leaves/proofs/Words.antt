-- A value added to an output, in either field: laws shaped like what the functions of `elements` are asked.
use mathlib.Core.Path.{◌≡◌, sym, ap, ◌∙◌}
use mathlib.Core.Bool.{Bool, true, false}
use mathlib.Core.List.{List, [], ◌∷◌}
use Prim.Native.Nat.{ℕ, ◌+◌, ◌*◌, ◌%◌, ◌≤◌, ◌<◌}
use native.Mathlib.Nat.{mul-le-mul, mul-one}
use native.Mathlib.Omega.{arith}
use lib.Dec.{eqb}
use lib.ListN.{length, get_or, set}
use mir.Syntax.{w64}
use mir.Val.{Fits}
use borrow.Author.Tests.{ne_eqb}
use Rattle.algebra.specs.Choice.{choose}
use Rattle.algebra.specs.Coding.{at}
use Rattle.algebra.specs.Inner.Put.{put}
use Rattle.field.specs.declared.block.Block.{Block}
use Rattle.prime.specs.declared.prime.Prime.{Prime}
use Rattle.field.specs.Binary.{binary, bit_add, bit_mul, block, block_add, block_scale}
use Rattle.field.specs.Kind.{Kind, binary_kind, prime_kind}
use Rattle.prime.specs.Prime.{primes, prime, prime_add, prime_mul, prime_reduce}
use Rattle.field.proofs.BothKinds.{kind_laws}
use Rattle.field.proofs.Elements.{other}
use Rattle.field.proofs.KindOf.{words_2}
use Rattle.prime.proofs.Modular.{mod_mul_mod, mul_mod_mod}
use Rattle.algebra.proofs.Words.{put_one}
use Rattle.field.specs.Inner.Elements.{noise_in}
use Rattle.field.specs.declared.element.Element.{Element}
use Rattle.ends_bench_leaves.specs.Inner.Vectors.{field_by, field_for}

-- the kind by the test of a field byte
abbrev kind_by : Bool → Kind
kind_by t = choose t binary_kind prime_kind

-- ---- one output

pub bit_product : (a b : ℕ) → Fits w64 ((a % 2) * (b % 2))
bit_product a b =
    let p : a % 2 ≤ 1 = omega arith in
    let q : b % 2 ≤ 1 = omega arith in
    let m : (a % 2) * (b % 2) ≤ 1 * 1 = mul-le-mul p q in
    record { fits = omega arith }

pub bit_added : (out : List ℕ) (k entry bit : ℕ) → k < length out → {x : ℕ} → x ≡ bit_add (get_or out k 0) ((entry % 2) * (bit % 2))
    → set out k x ≡ put binary.noise_values out k (bit_add (at binary.noise_values out k) (bit_mul entry bit))
bit_added out k entry bit h {x} e =
    let m : ((entry % 2) * (bit % 2)) % 2 ≡ (entry * bit) % 2 = mod_mul_mod entry (bit % 2) 2 ∙ mul_mod_mod entry bit 2 in
    let y : x ≡ bit_add (get_or out (k * 1) 0) (bit_mul entry bit) = rw mul-one (omega (arith, e, m)) in
    ap (set out k) y ∙ sym (put_one (λ b. b) (λ w. w) out k (bit_add (get_or out (k * 1) 0) (bit_mul entry bit)) h)

pub block-added : (out : List ℕ) (k entry : ℕ) (value : Element) {w z : Block} {next : List ℕ} → w ≡ block_scale entry (block value.low value.high)
    → z ≡ block_add (block (get_or out (k * 2) 0) (get_or out (k * 2 + 1) 0)) w → next ≡ put binary.elements out k z
    → next ≡ put binary.elements out k (block_add (at binary.elements out k) (block_scale entry (block value.low value.high)))
block-added out k entry value p q r = r ∙ ap (put binary.elements out k) (q ∙ ap (block_add (block (get_or out (k * 2) 0) (get_or out (k * 2 + 1) 0))) p)

pub prime-added : (out : List ℕ) (k entry word total : ℕ) → k < length out → {p : Prime}
    → prime_reduce total ≡ prime_add (prime (get_or out k 0)) (prime_mul (prime entry) (prime word)) → p ≡ prime_reduce total
    → set out k p.word ≡ put primes.elements out k (prime_add (at primes.elements out k) (prime_mul (prime entry) (prime word)))
prime-added out k entry word total h {p} e q =
    sym (put_one (λ a. a.word) prime out k p h)
    ∙ ap (put primes.elements out k) (q ∙ e ∙ ap (λ (i : ℕ). prime_add (prime (get_or out i 0)) (prime_mul (prime entry) (prime word))) (sym (mul-one k)))

-- ---- by a vector's number and a field byte

module _ (vector field k : ℕ) {n : ℕ} (room : k * (field_for vector field).elements.width + (field_for vector field).elements.width ≤ n) where
  pub prime-room : (field ≡ 1 → ⊥) → k < n
  prime-room h =
      let w : (field_for vector field).elements.width ≡ 1 = of (eqb vector 1) in
      let r : k * 1 + 1 ≤ n = rw w at room in
      omega arith
    where
      of : (b : Bool) → (field_by b field).elements.width ≡ 1
      of true = (kind_laws field).noise-width
      of false = words_2 field h

  pub bit-room : field ≡ 1 → vector ≡ 1 → k < n
  bit-room e v = let r : k * 1 + 1 ≤ n = rw (e, v) at room in omega arith

  pub block_room : field ≡ 1 → (vector ≡ 1 → ⊥) → k * 2 + 2 ≤ n
  block_room e v = rw (e, ne_eqb vector 1 v) at room

module _ (vector field k entry : ℕ) (value : Element) (out : List ℕ) where
  abbrev added_by : Bool → List ℕ
  added_by b =
      put (field_by b field).elements out k
      ((field_by b field).scaled.group.add (at (field_by b field).elements out k)
      ((field_by b field).scaled.scale (noise_in field entry) ((field_by b field).elements.read (value.low ∷ value.high ∷ []) 0)))

  pub output-prime : {next : List ℕ} → (field ≡ 1 → ⊥)
      → next ≡ put primes.elements out k (prime_add (at primes.elements out k) (prime_mul (prime entry) (prime value.low)))
      → next ≡ added_by (eqb vector 1)
  output-prime {next} h q = of (eqb vector 1)
    where
      of : (b : Bool) → next ≡ added_by b
      of true = other field h (λ t. next ≡ put (kind_by t).field.noise_values out k ((kind_by t).field.ring.group.add (at (kind_by t).field.noise_values out k)
          ((kind_by t).field.ring.mul ((kind_by t).field.noise_values.read (entry ∷ []) 0)
          ((kind_by t).field.noise_values.read (value.low ∷ value.high ∷ []) 0)))) q
      of false = other field h (λ t. next ≡ put (kind_by t).field.elements out k ((kind_by t).field.scaled.group.add (at (kind_by t).field.elements out k)
          ((kind_by t).field.scaled.scale ((kind_by t).field.noise_values.read (entry ∷ []) 0)
          ((kind_by t).field.elements.read (value.low ∷ value.high ∷ []) 0)))) q

  pub output-bit : {next : List ℕ} → field ≡ 1 → vector ≡ 1
      → next ≡ put binary.noise_values out k (bit_add (at binary.noise_values out k) (bit_mul entry value.low))
      → next ≡ added_by (eqb vector 1)
  output-bit e v q = rw (v, e) q

  pub output-block : {next : List ℕ} → field ≡ 1 → (vector ≡ 1 → ⊥)
      → next ≡ put binary.elements out k (block_add (at binary.elements out k) (block_scale entry (block value.low value.high)))
      → next ≡ added_by (eqb vector 1)
  output-block e v q = rw (ne_eqb vector 1 v, e) q
