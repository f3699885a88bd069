-- The S-box table's rule, from one computed test over its 256 entries. Assumes nothing.
use mathlib.Core.Path.{◌≡◌}
use mathlib.Core.Bool.{Bool, true, false}
use mathlib.Core.Logic.{◌⊎◌, inl, inr}
use mathlib.Core.List.{List}
use Prim.Native.Nat.{ℕ}
use lib.Dec.{T, eqb, eqb→eq, ltb, ltb→lt}
use lib.ListN.{get_or}
use Rattle.aes_sbox.specs.Byte.{mul_bytes, inverse, affine, s_box}
use Rattle.aes_sbox.specs.Table.{SBoxEntry, SBoxTable}
use Rattle.aes_sbox.proofs.Every.{both, either, both_left, both_right, passes, at}

-- y is the inverse of x: their product is {01}, or both are {00}
abbrev are_inverse : ℕ → ℕ → Bool
are_inverse x y = either (eqb (mul_bytes x y) 1) (both (eqb x 0) (eqb y 0))

-- the test of an entry v: the inverse of x is a byte, it is the inverse, and v is its affine step
abbrev pub is_sub : ℕ → ℕ → Bool
is_sub x v = both (ltb (inverse x) 256) (both (are_inverse x (inverse x)) (eqb v (affine (inverse x))))

inverse-from : (x y : ℕ) → T (are_inverse x y) → (mul_bytes x y ≡ 1) ⊎ ((x ≡ 0) × (y ≡ 0))
inverse-from x y t = from (eqb (mul_bytes x y) 1) (λ e. eqb→eq _ _ e) t
  where
    from : (a : Bool) → (T a → mul_bytes x y ≡ 1) → T (either a (both (eqb x 0) (eqb y 0))) → (mul_bytes x y ≡ 1) ⊎ ((x ≡ 0) × (y ≡ 0))
    from true k t = inl (k tt)
    from false k t = inr (eqb→eq x 0 (both_left (eqb x 0) (eqb y 0) t), eqb→eq y 0 (both_right (eqb x 0) (eqb y 0) t))

module _ (x v : ℕ) (t : T (is_sub x v)) where
  step_from : v ≡ affine (inverse x)
  step_from =
      eqb→eq v _
      (both_right (are_inverse x (inverse x)) (eqb v (affine (inverse x)))
      (both_right (ltb (inverse x) 256) (both (are_inverse x (inverse x)) (eqb v (affine (inverse x)))) t))

  entry-from : SBoxEntry x v
  entry-from =
      record {
        y = inverse x;
        byte = ltb→lt _ 256 (both_left (ltb (inverse x) 256) (both (are_inverse x (inverse x)) (eqb v (affine (inverse x)))) t);
        inverse = inverse-from x (inverse x)
            (both_left (are_inverse x (inverse x)) (eqb v (affine (inverse x)))
            (both_right (ltb (inverse x) 256) (both (are_inverse x (inverse x)) (eqb v (affine (inverse x)))) t));
        step = step_from;
      }

pub sub-rule : (t : List ℕ) → T (passes is_sub 256 t) → SBoxTable t
unfolding s_box
sub-rule t h =
    record {
      rule = λ x b. entry-from x (get_or t x 0) (at is_sub 256 t h x b);
      entry = λ x b. step_from x (get_or t x 0) (at is_sub 256 t h x b);
    }
