-- A window filled one row a turn: what a row's sums write and tell, end by end and field by field, and the loop's start and turn.
use mathlib.Core.Bool.{Bool, true, ◌&&◌, and-true}
use mathlib.Core.List.{List}
use mathlib.Core.Path.{◌≡◌, refl, sym, ap, ap₂, ◌∙◌}
use Prim.Native.Nat.{ℕ, suc, ◌+◌, ◌<◌}
use native.Mathlib.Nat.{mul-one}
use native.Mathlib.Numerals.{add-one}
use native.Mathlib.Omega.{arith}
use lib.ListN.{length, set}
use denote.Ref.{Bor}
use Rattle.algebra.specs.Coding.{at}
use Rattle.algebra.specs.Every.{every}
use Rattle.algebra.specs.Group.{itself}
use Rattle.algebra.specs.Inner.Put.{put}
use Rattle.algebra.specs.Row.{output}
use Rattle.algebra.proofs.Every.{every-all, every-both}
use Rattle.algebra.proofs.Flats.{value-put}
use Rattle.algebra.proofs.Written.{front-none}
use Rattle.code.specs.declared.Shape.{Shape}
use Rattle.code.specs.Inner.Rows.{binary_row, prime_row}
use Rattle.code.specs.Inner.Used.{row_below}
use Rattle.field.specs.declared.block.Block.{Block}
use Rattle.prime.specs.declared.prime.Prime.{Prime}
use Rattle.field.specs.Binary.{binary, bit_ring, blocks}
use Rattle.field.specs.Kind.{kind_of, binary_kind, prime_kind}
use Rattle.prime.specs.Prime.{primes, prime_ring, prime, modulus}
use Rattle.field.proofs.BothKinds.{kind_laws}
use Rattle.field.proofs.KindOf.{kind_1, kind_2}
use Rattle.algebra.proofs.Words.{put_one}
use Rattle.window.specs.declared.Accumulated.{Accumulated}
use Rattle.window.specs.declared.Accumulated.TheVariants.{Noise, Scalar}
use Rattle.window.specs.declared.WindowRows.{WindowRows}
use Rattle.window.specs.Head.{of_noise}
use Rattle.window.specs.Inner.Testing.{Fitting, row_used, elements_used}
use Rattle.window.specs.Inner.Written.{RowWritten, Filled, all_used}

-- ---- lengths: row k has its place in a buffer

pub room-one : {s : Shape} {r : WindowRows} {vector room : ℕ} → Fitting 1 s r vector room → (k : ℕ) → k < r.window.count → k < room
room-one fits k h = omega (arith, fits.enough)

-- ---- the test of the words that a row uses

module _ (keys : List (List (List ℕ))) (s : Shape) (r : WindowRows) (words : List ℕ) (k : ℕ) where
  row-bits : row_below 2 words keys s (r.window.first + k) ≡ row_used (of_noise binary) keys s r words k
  unfolding row_below
  row-bits = simp mul-one

  row-primes : row_below modulus words keys s (r.window.first + k) ≡ row_used primes keys s r words k
  unfolding row_below
  row-primes = simp mul-one

  -- every word is of an element of field 1
  row-blocks : true ≡ row_used binary keys s r words k
  row-blocks = sym (every-all _ s.terms (λ i c. refl))

-- ---- what a row's sums write and tell

module _ (keys : List (List (List ℕ))) (s : Shape) (r : WindowRows) (k : ℕ) (u_out out : List ℕ) where
  -- at the scalar end
  module _ {w : Bor (List ℕ)} where
    pub alone-binary : {y : Block} → y ≡ output blocks (binary_row keys s (r.window.first + k)) (at binary.elements w.now)
        → {b : List ℕ} → b ≡ put binary.elements out k y → RowWritten binary_kind keys s r k (Scalar w) u_out out true u_out b
    alone-binary e q = record { told = row-blocks keys s r w.now k; u_is = refl; element_is = q ∙ ap (put binary.elements out k) e }

    pub alone-prime : k < length out → {y : Prime} → y ≡ output (itself prime_ring) (prime_row keys s (r.window.first + k)) (at primes.elements w.now)
        → {t : Bool} → t ≡ row_below modulus w.now keys s (r.window.first + k)
        → RowWritten prime_kind keys s r k (Scalar w) u_out out t u_out (set out k y.word)
    alone-prime h {y} e q =
        record {
          told = q ∙ row-primes keys s r w.now k;
          u_is = refl;
          element_is = sym (put_one (λ x. x.word) prime out k y h) ∙ ap (put primes.elements out k) e;
        }

  -- at the noise end
  module _ {noise v : Bor (List ℕ)} (room : k < length u_out) where
    pub pair_binary : {x : ℕ} → x ≡ output (itself bit_ring) (binary_row keys s (r.window.first + k)) (at binary.noise_values noise.now)
        → {y : Block} → y ≡ output blocks (binary_row keys s (r.window.first + k)) (at binary.elements v.now)
        → {t : Bool} → t ≡ row_below 2 noise.now keys s (r.window.first + k) → {b : List ℕ} → b ≡ put binary.elements out k y
        → RowWritten binary_kind keys s r k (Noise noise v) u_out out t (set u_out k x) b
    pair_binary {x} a e {t} q p =
        record {
          told = sym (and-true t) ∙ ap₂ ◌&&◌ (q ∙ row-bits keys s r noise.now k) (row-blocks keys s r v.now k);
          u_is = sym (put_one (λ x. x) (λ x. x) u_out k x room) ∙ ap (put binary.noise_values u_out k) a;
          element_is = p ∙ ap (put binary.elements out k) e;
        }

    pub pair_prime : k < length out
        → {x : Prime} → x ≡ output (itself prime_ring) (prime_row keys s (r.window.first + k)) (at primes.noise_values noise.now)
        → {y : Prime} → y ≡ output (itself prime_ring) (prime_row keys s (r.window.first + k)) (at primes.elements v.now)
        → {t : Bool} → t ≡ (row_below modulus noise.now keys s (r.window.first + k) && row_below modulus v.now keys s (r.window.first + k))
        → RowWritten prime_kind keys s r k (Noise noise v) u_out out t (set u_out k x.word) (set out k y.word)
    pair_prime h {x} a {y} e q =
        record {
          told = q ∙ ap₂ ◌&&◌ (row-primes keys s r noise.now k) (row-primes keys s r v.now k);
          u_is = sym (put_one (λ x. x.word) prime u_out k x room) ∙ ap (put primes.noise_values u_out k) a;
          element_is = sym (put_one (λ x. x.word) prime out k y h) ∙ ap (put primes.elements out k) e;
        }

-- in the field of the rows
module _ {keys : List (List (List ℕ))} {s : Shape} {r : WindowRows} {k : ℕ} {vectors : Accumulated} {u_out out : List ℕ} {t : Bool} {a b : List ℕ} where
  pub row-binary : r.field ≡ 1 → RowWritten binary_kind keys s r k vectors u_out out t a b → RowWritten (kind_of r.field) keys s r k vectors u_out out t a b
  row-binary e w = rw (kind_1 r.field e) w

  pub row-prime : (r.field ≡ 1 → ⊥) → RowWritten prime_kind keys s r k vectors u_out out t a b
      → RowWritten (kind_of r.field) keys s r k vectors u_out out t a b
  row-prime e w = rw (kind_2 r.field e) w

-- ---- the loop

-- the window's first k rows
abbrev pub rows_to : WindowRows → ℕ → WindowRows
rows_to r k = record { field = r.field; window = record { first = r.window.first; count = k } }

-- a turn tests one index more, of one vector or of both
one_turn : (t : ℕ → Bool) (k : ℕ) {x y : Bool} → x ≡ every k t → y ≡ t k → (x && y) ≡ every (k + 1) t
unfolding every
one_turn t k e q = rw (e, q, add-one)

both_turn : (s t : ℕ → Bool) (k : ℕ) {x y : Bool} → x ≡ (every k s && every k t) → y ≡ (s k && t k) → (x && y) ≡ (every (k + 1) s && every (k + 1) t)
unfolding every
both_turn s t k e q = rw (e, q, add-one) (ap (λ (b : Bool). b && (s k && t k)) (sym (every-both k s t)) ∙ every-both (suc k) s t)

module _ (keys : List (List (List ℕ))) (s : Shape) (r : WindowRows) where
  pub used_none : (vectors : Accumulated) → true ≡ all_used keys s (rows_to r 0) vectors
  unfolding elements_used every
  used_none (Noise noise v) = refl
  used_none (Scalar w) = refl

  pub filled_none : (vectors : Accumulated) (u_out out : List ℕ) → Filled keys s (rows_to r 0) vectors u_out out u_out out
  filled_none (Noise noise v) u_out out = record { u_is = front-none _ _ u_out; elements_are = front-none _ _ out }
  filled_none (Scalar w) u_out out = record { u_is = refl; elements_are = front-none _ _ out }

  module _ {k : ℕ} {a b : List ℕ} {x : Bool} {c d : List ℕ} where
    pub used_more : (vectors : Accumulated) {t : Bool} → t ≡ all_used keys s (rows_to r k) vectors
        → RowWritten (kind_of r.field) keys s r k vectors a b x c d → (t && x) ≡ all_used keys s (rows_to r (k + 1)) vectors
    unfolding elements_used
    used_more (Noise noise v) e w = both_turn _ _ k e w.told
    used_more (Scalar w') e w = one_turn _ k e w.told

    pub filled_more : (vectors : Accumulated) {u_out out : List ℕ} → Filled keys s (rows_to r k) vectors u_out out a b
        → RowWritten (kind_of r.field) keys s r k vectors a b x c d → Filled keys s (rows_to r (k + 1)) vectors u_out out c d
    filled_more (Noise noise v) {u_out} {out} f w =
        let L = (kind_laws r.field).field in
        record {
          u_is = value-put _ L.noise_values _ u_out k f.u_is w.u_is refl;
          elements_are = value-put _ L.elements _ out k f.elements_are w.element_is refl;
        }
    filled_more (Scalar w') {u_out} {out} f w =
        record { u_is = w.u_is ∙ f.u_is; elements_are = value-put _ (kind_laws r.field).field.elements _ out k f.elements_are w.element_is refl }
