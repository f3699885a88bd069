-- The laws of field 1.
use mathlib.Core.Path.{◌≡◌, refl, sym, ap}
use Prim.Native.Nat.{ℕ, zero, suc, ◌%◌, ◌<◌}
use native.Mathlib.Omega.{arith}
use native.Mathlib.Nat.{mul_comm}
use lib.Bits.{xor_zero_l, xor_zero_r, xor_comm, xor_self}
use borrow.Author.Tests.{lt-ltb, ltb-true}
use Rattle.algebra.specs.Group.{GroupLaws, RingLaws, ScaledLaws}
use Rattle.algebra.specs.Field.{FieldLaws}
use Rattle.field.specs.declared.block.Block.{Block}
use Rattle.field.specs.Binary.{block, block_zero, block_add, block_scale, bit_add, bit_mul, block_group, bit_ring, blocks, binary}
use Rattle.prime.proofs.Modular.{mod_mul_assoc, mod_mul-add}
use Rattle.field.proofs.Xor.{xor_assoc, xor-back}
use Rattle.algebra.proofs.Words.{one-word_laws, two-word_laws}

-- blocks are equal by their words
pub block_eq : {a b c d : ℕ} → a ≡ c → b ≡ d → block a b ≡ block c d
block_eq p q = cc

zero-block : (a : Block) → block_add block_zero a ≡ a
zero-block a = block_eq (xor_zero_l a.low) (xor_zero_l a.high)

block-zero : (a : Block) → block_add a block_zero ≡ a
block-zero a = block_eq (xor_zero_r a.low) (xor_zero_r a.high)

block_double : (a : Block) → block_add a a ≡ block_zero
block_double a = block_eq (xor_self a.low) (xor_self a.high)

pub block_laws : GroupLaws block_group
block_laws =
    record {
      zero-element = refl;
      add-element = λ a b. refl;
      sub-element = λ a b. refl;
      add_comm = λ a b. block_eq (xor_comm a.low b.low) (xor_comm a.high b.high);
      add_assoc = λ a b c. block_eq (xor_assoc a.low b.low c.low) (xor_assoc a.high b.high c.high);
      zero-add = λ a h. zero-block a;
      add-sub = λ a b h k. block_eq (xor-back a.low b.low) (xor-back a.high b.high);
    }

pub bit_laws : RingLaws bit_ring
bit_laws =
    record {
      group = record {
        zero-element = refl;
        add-element = λ a b. lt-ltb (bit_add a b) 2 (omega arith);
        sub-element = λ a b. lt-ltb (bit_add a b) 2 (omega arith);
        add_comm = λ a b. omega arith;
        add_assoc = λ a b c. omega arith;
        zero-add = λ a h. omega (arith, ltb-true a 2 h);
        add-sub = λ a b h k. omega (arith, ltb-true a 2 h, ltb-true b 2 k);
      };
      one-element = refl;
      mul-element = λ a b. lt-ltb (bit_mul a b) 2 (omega arith);
      mul_comm = λ a b. ap (λ (x : ℕ). x % 2) (mul_comm a b);
      mul_assoc = λ a b c. mod_mul_assoc a b c 2;
      one-mul = λ a h. omega (arith, ltb-true a 2 h);
      mul-add = λ a b c. mod_mul-add a b c 2;
    }

-- scaling, case by case of the bits
scale-sum : (c : ℕ) (a b : Block) → block_scale c (block_add a b) ≡ block_add (block_scale c a) (block_scale c b)
unfolding block_scale
scale-sum zero a b = refl
scale-sum (suc zero) a b = refl
scale-sum (suc (suc c)) a b = refl

sum-scale : (c d : ℕ) (a : Block) → c < 2 → d < 2 → block_scale (bit_add c d) a ≡ block_add (block_scale c a) (block_scale d a)
unfolding block_scale
sum-scale zero zero a h k = refl
sum-scale zero (suc zero) a h k = sym (zero-block a)
sum-scale (suc zero) zero a h k = sym (block-zero a)
sum-scale (suc zero) (suc zero) a h k = sym (block_double a)
sum-scale c (suc (suc d)) a h k = absurd (omega arith)
sum-scale (suc (suc c)) zero a h k = absurd (omega arith)
sum-scale (suc (suc c)) (suc zero) a h k = absurd (omega arith)

product_scale : (c d : ℕ) (a : Block) → c < 2 → d < 2 → block_scale (bit_mul c d) a ≡ block_scale c (block_scale d a)
unfolding block_scale
product_scale zero zero a h k = refl
product_scale zero (suc zero) a h k = refl
product_scale (suc zero) zero a h k = refl
product_scale (suc zero) (suc zero) a h k = refl
product_scale zero (suc (suc d)) a h k = absurd (omega arith)
product_scale (suc zero) (suc (suc d)) a h k = absurd (omega arith)
product_scale (suc (suc c)) d a h k = absurd (omega arith)

pub block_scaled_laws : ScaledLaws bit_ring blocks
unfolding block_scale
block_scaled_laws =
    record {
      group = block_laws;
      scale-element = λ c a h. refl;
      one-scale = λ a h. refl;
      zero-scale = λ a. refl;
      scale-add = scale-sum;
      add-scale = λ c d a h k. sum-scale c d a (ltb-true c 2 h) (ltb-true d 2 k);
      mul-scale = λ c d a h k. product_scale c d a (ltb-true c 2 h) (ltb-true d 2 k);
    }

-- field 1 obeys the laws
pub binary_laws : FieldLaws binary
binary_laws =
    record {
      ring = bit_laws;
      scaled = block_scaled_laws;
      noise_values = one-word_laws (λ b. b) (λ w. w) (λ b. refl) (λ w. refl);
      elements = two-word_laws (λ b. b.low) (λ b. b.high) block (λ b. refl) (λ x y. refl) (λ x y. refl);
    }
