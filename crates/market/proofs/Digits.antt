-- Bits of numbers, words as numbers, and lengths in binary. Assumes nothing.
use Prim.Native.Nat.{ℕ, zero, suc, ◌+◌, ◌*◌, ◌/◌, ◌%◌, ◌^◌, ◌<◌, ◌≤◌}
use mathlib.Core.Bool.{Bool}
use mathlib.Core.List.{List, [], ◌∷◌}
use mathlib.Core.Path.{◌≡◌, sym, ap, ◌∙◌, subst}
use borrow.Author.Tests.{eq-eqb, ne_eqb}
use native.Mathlib.Nat.{pow-suc, div-div-eq-div-mul, zero-div, div_self}
use native.Mathlib.Omega.{arith}
use lib.ListN.{length, get_or}
use Rattle.algebra.specs.Choice.{choose}
use Rattle.number.proofs.Places.{either}
use Rattle.market.specs.Circuit.{bit, length_within}
use Rattle.market.proofs.Holds.{From, end, more}
use Rattle.market.proofs.Words.{number, two_more}

pub shift_more : (k q : ℕ) → q / 2 ^ suc k ≡ q / 2 ^ k / 2
shift_more k q = ap (λ (n : ℕ). q / n) (pow-suc 2 k) ∙ sym (div-div-eq-div-mul q (2 ^ k) 2)

pub shift_first : (k q : ℕ) → q / 2 ^ suc k ≡ q / 2 / 2 ^ k
shift_first k q = ap (λ (n : ℕ). q / n) (two_more k) ∙ sym (div-div-eq-div-mul q 2 (2 ^ k))

pub power-some : (k : ℕ) → 1 ≤ 2 ^ k
power-some zero = omega arith
power-some (suc k) = omega (arith, power-some k, two_more k)

pub bit-none : (i : ℕ) → bit i 0 ≡ 0
bit-none i = ap (λ (n : ℕ). n % 2) (zero-div (2 ^ i))

pub bit-own : (i : ℕ) → bit i (2 ^ i) ≡ 1
bit-own i = ap (λ (n : ℕ). n % 2) (div_self (power-some i))

pub bit_below : (i q : ℕ) → bit i q < 2
bit_below i q = omega arith

module _ (v : ℕ → ℕ) where
  -- a word whose wires have a number's bits is that number
  pub number_digits : (q : ℕ) {k n : ℕ} {ws : List ℕ} → From (λ i w. v w ≡ bit i q) k n ws → q / 2 ^ k < 2 ^ n → number v ws ≡ q / 2 ^ k
  unfolding number
  number_digits q end h = omega (arith, h)
  number_digits q {k} (more {n = n} {x = w} {xs = ws} r s) h =
      omega (arith, r, h, two_more n, shift_more k q, number_digits q s (omega (arith, h, two_more n, shift_more k q)))

  -- a word's wires have its number's bits
  pub number_bit : ((w : ℕ) → v w < 2) → (ws : List ℕ) (i : ℕ) → i < length ws → v (get_or ws i 0) ≡ bit i (number v ws)
  unfolding number
  number_bit bits [] i h = absurd (omega (arith, h))
  number_bit bits (w ∷ ws) zero h = omega (arith, bits w)
  number_bit bits (w ∷ ws) (suc i) h =
      number_bit bits ws i (omega (arith, h))
      ∙ ap (λ (n : ℕ). n / 2 ^ i % 2) {x = number v ws} {y = (v w + 2 * number v ws) / 2} (omega (arith, bits w))
      ∙ ap (λ (n : ℕ). n % 2) (sym (shift_first i (v w + 2 * number v ws)))

  pub number-below : ((w : ℕ) → v w < 2) → (ws : List ℕ) → number v ws < 2 ^ length ws
  unfolding number
  number-below bits [] = omega arith
  number-below bits (w ∷ ws) = omega (arith, bits w, number-below bits ws, two_more (length ws))

-- the length of a number in binary
pub length_above : (most n : ℕ) → n ≤ most → n < 2 ^ length_within most n
unfolding length_within
length_above zero n h = omega arith
length_above (suc most) n h =
    either n 0
    (λ e. subst (λ (b : Bool). n < 2 ^ choose b 0 (1 + length_within most (n / 2))) (sym (eq-eqb n 0 e)) (omega (arith, e)))
    (λ e. subst (λ (b : Bool). n < 2 ^ choose b 0 (1 + length_within most (n / 2))) (sym (ne_eqb n 0 e))
    (subst (λ (m : ℕ). n < 2 ^ m) {x = suc (length_within most (n / 2))} {y = 1 + length_within most (n / 2)} (omega arith)
    (omega (arith, two_more (length_within most (n / 2)), length_above most (n / 2) (omega (arith, h))))))

pub length_least : (most n i : ℕ) → i < length_within most n → 2 ^ i ≤ n
unfolding length_within
length_least zero n i h = absurd (omega (arith, h))
length_least (suc most) n i h =
    either n 0
    (λ e. absurd (omega (arith, subst (λ (b : Bool). i < choose b 0 (1 + length_within most (n / 2))) (eq-eqb n 0 e) h)))
    (λ e. at i (λ j. length_least most (n / 2) j) e (subst (λ (b : Bool). i < choose b 0 (1 + length_within most (n / 2))) (ne_eqb n 0 e) h))
  where
    at : (i : ℕ) → ((j : ℕ) → j < length_within most (n / 2) → 2 ^ j ≤ n / 2) → (n ≡ 0 → ⊥) → i < 1 + length_within most (n / 2) → 2 ^ i ≤ n
    at zero f e g = omega (arith, e)
    at (suc j) f e g = omega (arith, two_more j, f j (omega (arith, g)))
