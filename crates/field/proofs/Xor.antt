-- Exclusive or is associative.
use mathlib.Core.Path.{◌≡◌, refl, sym, ap, ◌∙◌}
use Prim.Native.Nat.{ℕ, zero, suc, ◌+◌, ◌*◌, ◌/◌, ◌%◌, ◌<◌}
use native.Mathlib.Omega.{arith}
use lib.Arith.{bin_ind}
use lib.Bits.{bit_xor, differ, xor_step, xor_zero_l, xor_comm, xor_self}

differ-below : (x y : ℕ) → x < 2 → y < 2 → differ x y < 2
differ-below zero y h k = k
differ-below (suc x) zero h k = h
differ-below (suc zero) (suc y) h k = omega arith
differ-below (suc (suc x)) (suc y) h k = absurd (omega arith)

differ_assoc : (x y z : ℕ) → x < 2 → y < 2 → z < 2 → differ (differ x y) z ≡ differ x (differ y z)
differ_assoc zero y z h k l = refl
differ_assoc (suc zero) zero z h k l = refl
differ_assoc (suc zero) (suc zero) zero h k l = refl
differ_assoc (suc zero) (suc zero) (suc zero) h k l = refl
differ_assoc (suc zero) (suc zero) (suc (suc z)) h k l = absurd (omega arith)
differ_assoc (suc zero) (suc (suc y)) z h k l = absurd (omega arith)
differ_assoc (suc (suc x)) y z h k l = absurd (omega arith)

-- the half and the last digit of an exclusive or
digit : (x q d : ℕ) → d < 2 → x ≡ q * 2 + d → (x / 2 ≡ q) × (x % 2 ≡ d)
digit x q d h e = (omega arith, omega arith)

xor-digit : (a b : ℕ) → (bit_xor a b / 2 ≡ bit_xor (a / 2) (b / 2)) × (bit_xor a b % 2 ≡ differ (a % 2) (b % 2))
xor-digit a b =
    digit (bit_xor a b) (bit_xor (a / 2) (b / 2)) (differ (a % 2) (b % 2)) (differ-below (a % 2) (b % 2) (omega arith) (omega arith)) (xor_step a b)

step_eq : {x x' y y' : ℕ} → x ≡ x' → y ≡ y' → x * 2 + y ≡ x' * 2 + y'
step_eq p q = cc

pub xor_assoc : (a b c : ℕ) → bit_xor (bit_xor a b) c ≡ bit_xor a (bit_xor b c)
xor_assoc =
    bin_ind (λ (a : ℕ). (b c : ℕ) → bit_xor (bit_xor a b) c ≡ bit_xor a (bit_xor b c))
    (λ b c. ap (λ (x : ℕ). bit_xor x c) (xor_zero_l b) ∙ sym (xor_zero_l (bit_xor b c)))
    (λ a shorter b c.
    let ab = xor-digit a b in
    let bc = xor-digit b c in
    xor_step (bit_xor a b) c
    ∙ step_eq
    (ap (λ (x : ℕ). bit_xor x (c / 2)) ab.0 ∙ shorter (b / 2) (c / 2) ∙ ap (bit_xor (a / 2)) (sym bc.0))
    (ap (λ (x : ℕ). differ x (c % 2)) ab.1
    ∙ differ_assoc (a % 2) (b % 2) (c % 2) (omega arith) (omega arith) (omega arith)
    ∙ ap (differ (a % 2)) (sym bc.1))
    ∙ sym (xor_step a (bit_xor b c)))

-- adding twice takes away
pub xor-back : (a b : ℕ) → bit_xor b (bit_xor a b) ≡ a
xor-back a b =
    ap (bit_xor b) (xor_comm a b) ∙ sym (xor_assoc b b a) ∙ ap (λ (x : ℕ). bit_xor x a) (xor_self b) ∙ xor_zero_l a
