-- Arithmetic modulo p = 2^61 − 1: folding a word keeps its class, sums and products may be reduced first, and the product of
-- two numbers from their halves of 31 bits.
use mathlib.Core.Path.{◌≡◌, sym, ap, ap₂, ◌∙◌}
use Prim.Native.Nat.{ℕ, ◌+◌, ◌-◌, ◌*◌, ◌/◌, ◌%◌, ◌<◌, ◌≤◌}
use native.Mathlib.Nat.{mod-eq_of_lt, mod-eq-sub-mod, mod-add-mod, add-mod-mod, add-mod, div-add-mod', mul-add-mod_self_right, mul_comm, mul-le-mul, add_assoc, mul_assoc, mul-add}
use native.Mathlib.Omega.{arith}
use Rattle.prime.specs.declared.prime.Prime.{Prime}
use Rattle.prime.specs.Prime.{modulus, prime, prime_reduce, prime_add, prime_sub, prime_mul}

-- a factor may be reduced first
pub mod_mul_mod : (a b m : ℕ) → (a % m * b) % m ≡ (a * b) % m
mod_mul_mod a b m =
    let e : a / m * b * m + a % m * b ≡ (a / m * m + a % m) * b = omega arith in
    sym (mul-add-mod_self_right (a / m * b) m (a % m * b)) ∙ ap (λ (x : ℕ). x % m) (e ∙ ap (λ (x : ℕ). x * b) (div-add-mod' a m))

pub mul_mod_mod : (a b m : ℕ) → (a * (b % m)) % m ≡ (a * b) % m
mul_mod_mod a b m =
    ap (λ (x : ℕ). x % m) (mul_comm a (b % m)) ∙ mod_mul_mod b a m ∙ ap (λ (x : ℕ). x % m) (mul_comm b a)

-- sums and products modulo m: grouping, and the product of a sum
pub mod_add_assoc : (a b c m : ℕ) → ((a + b) % m + c) % m ≡ (a + (b + c) % m) % m
mod_add_assoc a b c m =
    mod-add-mod (a + b) m c ∙ ap (λ (x : ℕ). x % m) (add_assoc a b c) ∙ sym (add-mod-mod a (b + c) m)

pub mod_mul_assoc : (a b c m : ℕ) → ((a * b) % m * c) % m ≡ (a * ((b * c) % m)) % m
mod_mul_assoc a b c m =
    mod_mul_mod (a * b) c m ∙ ap (λ (x : ℕ). x % m) (mul_assoc a b c) ∙ sym (mul_mod_mod a (b * c) m)

pub mod_mul-add : (a b c m : ℕ) → (a * ((b + c) % m)) % m ≡ ((a * b) % m + (a * c) % m) % m
mod_mul-add a b c m =
    mul_mod_mod a (b + c) m ∙ ap (λ (x : ℕ). x % m) (mul-add a b c) ∙ add-mod (a * b) (a * c) m

-- a word with its bits from 61 on added to those below
abbrev pub folded : ℕ → ℕ
folded x = x / 2305843009213693952 + x % 2305843009213693952

pub fold_mod : (x : ℕ) → folded x % modulus ≡ x % modulus
fold_mod x =
    let q = x / 2305843009213693952 in
    let e : q * modulus + folded x ≡ x = omega arith in
    sym (mul-add-mod_self_right q modulus (folded x)) ∙ ap (λ (y : ℕ). y % modulus) e

-- what `reduce` returns
pub reduced_below : (x f : ℕ) → f ≡ folded x → f < modulus → prime f ≡ prime_reduce x
unfolding prime_reduce
reduced_below x f e h = ap prime (sym (mod-eq_of_lt h) ∙ ap (λ (y : ℕ). y % modulus) e ∙ fold_mod x)

pub reduced_above : (x f : ℕ) → f ≡ folded x → modulus ≤ f → x < 18446744073709551616 → prime (f - modulus) ≡ prime_reduce x
unfolding prime_reduce
reduced_above x f e h w =
    let below : f - modulus < modulus = omega arith in
    ap prime (sym (mod-eq_of_lt below) ∙ sym (mod-eq-sub-mod h) ∙ ap (λ (y : ℕ). y % modulus) e ∙ fold_mod x)

-- what `add`, `sub` and `mul` return
pub added : (a b : Prime) (f g : ℕ) (r : Prime) → f ≡ folded a.word → g ≡ folded b.word → r ≡ prime_reduce (f + g) → r ≡ prime_add a b
unfolding prime_reduce prime_add
added a b f g r e₁ e₂ e =
    e ∙ ap prime (ap (λ (x : ℕ). x % modulus) (cc) ∙ add-mod (folded a.word) (folded b.word) modulus
    ∙ rw (fold_mod a.word, fold_mod b.word) (sym (add-mod a.word b.word modulus)))

pub subtracted : (a b : Prime) (f : ℕ) (t r : Prime) → f ≡ folded a.word → t ≡ prime_reduce b.word → r ≡ prime_reduce (f + (modulus - t.word)) → r ≡ prime_sub a b
unfolding prime_reduce prime_sub
subtracted a b f t r e₁ e₂ e =
    let k = modulus - b.word % modulus in
    let s : r ≡ prime ((folded a.word + k) % modulus) = e ∙ rw (e₁, e₂) in
    s ∙ ap prime (sym (mod-add-mod (folded a.word) modulus k) ∙ rw (fold_mod a.word) (mod-add-mod a.word modulus k))

pub reduced_word : (x : ℕ) (t : Prime) → t ≡ prime_reduce x → t.word < modulus
unfolding prime_reduce
reduced_word x t e = rw e (omega arith)

-- a product of folded factors
folded_product : (x y f g : ℕ) → f ≡ folded x → g ≡ folded y → (f * g) % modulus ≡ (x * y) % modulus
folded_product x y f g e₁ e₂ =
    let p : f % modulus ≡ x % modulus = rw e₁ (fold_mod x) in
    let q : g % modulus ≡ y % modulus = rw e₂ (fold_mod y) in
    sym (mod_mul_mod f g modulus) ∙ ap (λ (k : ℕ). (k * g) % modulus) p ∙ mod_mul_mod x g modulus
    ∙ sym (mul_mod_mod x g modulus) ∙ ap (λ (k : ℕ). (x * k) % modulus) q ∙ mul_mod_mod x y modulus

pub multiplied : (a b : Prime) (f g z : ℕ) (r : Prime) → f ≡ folded a.word → g ≡ folded b.word → z % modulus ≡ (f * g) % modulus → r ≡ prime_reduce z → r ≡ prime_mul a b
unfolding prime_reduce prime_mul
multiplied a b f g z r e₁ e₂ p e = e ∙ ap prime (p ∙ folded_product a.word b.word f g e₁ e₂)

-- what `add_product` returns
pub product_added : (t a b f g h z : ℕ) → f ≡ folded t → g ≡ folded a → h ≡ folded b → z % modulus ≡ (g * h) % modulus
    → prime_reduce (f + z) ≡ prime_add (prime t) (prime_mul (prime a) (prime b))
unfolding prime_reduce prime_add prime_mul
product_added t a b f g h z e₁ e₂ e₃ p =
    let x : f % modulus ≡ t % modulus = rw e₁ (fold_mod t) in
    let y : z % modulus ≡ (a * b) % modulus = p ∙ folded_product a b g h e₂ e₃ in
    ap prime (add-mod f z modulus ∙ ap₂ (λ (i j : ℕ). (i + j) % modulus) x y ∙ mod-add-mod t modulus ((a * b) % modulus))

-- the product from halves of 31 bits: 2^62 is 2 and 2^61 is 1 modulo p
halves : (a₁ a₀ b₁ b₀ m₁ m₀ : ℕ) → m₁ * 1073741824 + m₀ ≡ a₁ * b₀ + a₀ * b₁
    → (2 * (a₁ * b₁) + m₁) * modulus + (2 * (a₁ * b₁) + m₁ + m₀ * 2147483648 + a₀ * b₀) ≡ (a₁ * 2147483648 + a₀) * (b₁ * 2147483648 + b₀)
halves a₁ a₀ b₁ b₀ m₁ m₀ e = omega arith

abbrev pub product : ℕ → ℕ → ℕ
product a b =
    let a₁ = a / 2147483648 in
    let a₀ = a % 2147483648 in
    let b₁ = b / 2147483648 in
    let b₀ = b % 2147483648 in
    let m = a₁ * b₀ + a₀ * b₁ in
    2 * (a₁ * b₁) + m / 1073741824 + m % 1073741824 * 2147483648 + a₀ * b₀

pub product_mod : (a b : ℕ) → product a b % modulus ≡ (a * b) % modulus
product_mod a b =
    let a₁ = a / 2147483648 in
    let a₀ = a % 2147483648 in
    let b₁ = b / 2147483648 in
    let b₀ = b % 2147483648 in
    let m = a₁ * b₀ + a₀ * b₁ in
    let e = halves a₁ a₀ b₁ b₀ (m / 1073741824) (m % 1073741824) (div-add-mod' m 1073741824) in
    sym (mul-add-mod_self_right (2 * (a₁ * b₁) + m / 1073741824) modulus (product a b))
    ∙ ap (λ (x : ℕ). x % modulus) (e ∙ rw (div-add-mod' a 2147483648, div-add-mod' b 2147483648))

-- no step of the product passes a word
pub record Within (a b : ℕ) : Type 0 where
  pub high-low : a / 2147483648 * (b % 2147483648) ≤ 1073741824 * 2147483647
  pub low-high : a % 2147483648 * (b / 2147483648) ≤ 2147483647 * 1073741824
  pub high-high : a / 2147483648 * (b / 2147483648) ≤ 1073741824 * 1073741824
  pub low-low : a % 2147483648 * (b % 2147483648) ≤ 2147483647 * 2147483647

pub within : (a b : ℕ) → a ≤ modulus + 7 → b ≤ modulus + 7 → Within a b
within a b h k =
    let a₁ : a / 2147483648 ≤ 1073741824 = omega arith in
    let a₀ : a % 2147483648 ≤ 2147483647 = omega arith in
    let b₁ : b / 2147483648 ≤ 1073741824 = omega arith in
    let b₀ : b % 2147483648 ≤ 2147483647 = omega arith in
    record { high-low = mul-le-mul a₁ b₀; low-high = mul-le-mul a₀ b₁; high-high = mul-le-mul a₁ b₁; low-low = mul-le-mul a₀ b₀ }
