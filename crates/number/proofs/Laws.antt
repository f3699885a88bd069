-- The number code has one writing for each number: reading a writing gives the number back, and what reads as a number is
-- exactly its writing. Assumes nothing.
use Prim.Native.Nat.{ℕ, ◌+◌, ◌-◌, ◌*◌, ◌/◌, ◌%◌, ◌≤◌, ◌<◌}
use mathlib.Core.List.{List, [], ◌∷◌}
use mathlib.Core.Path.{◌≡◌, refl, sym, ap, ap₂, ◌∙◌, subst}
use native.Mathlib.Omega.{arith}
use borrow.Author.Tests.{lt-ltb, le-ltb}
use lib.ListN.{length, get_or}
use Rattle.number.proofs.Places.{split, whole_is, refused-whole, has-front, has-back, has_join, has_is, has-byte, byte-has}
use Rattle.number.proofs.Steps.{ends_0, value_0, ends_1, zero_1, value_1, ends_2, zero_2, value_2, top_bit, one, two, three}
pub use Rattle.number.proofs.Steps.{length-number}
use Rattle.number.specs.Number.{write_number, read_number, number_length}
use Rattle.number.specs.Inner.Written.{numbers}
use Rattle.number.specs.Reading.{Whole, Refused, Parsed, Bytes}
use Rattle.number.specs.Inner.Known.{Has}

positive : (b : ℕ) → (b ≡ 0 → ⊥) → 0 < b
positive b z = split 0 b (λ h. h) (λ h. absurd (z (omega arith)))

-- the middle group of three
middle : (b c q : ℕ) → q ≡ b - 128 + c * 128 → 128 ≤ b → b < 256 → b ≡ 128 + q % 128
middle b c q e h g = omega arith

-- one to three bytes
pub length_bounds : (n : ℕ) → (1 ≤ number_length n) × (number_length n ≤ 3)
length_bounds n =
    split n 128 (λ h. (omega (arith, one n h), omega (arith, one n h)))
    (λ h. split n 16384 (λ g. (omega (arith, two n h g), omega (arith, two n h g))) (λ g. (omega (arith, three n h g), omega (arith, three n h g))))

-- the writing in one, two and three bytes
module _ (n : ℕ) where
  pub writing_1 : n < 128 → write_number n ≡ n ∷ []
  unfolding write_number
  writing_1 h = simp (lt-ltb _ _ h)

  pub writing_2 : 128 ≤ n → n < 16384 → write_number n ≡ (128 + n % 128) ∷ n / 128 ∷ []
  unfolding write_number
  writing_2 h g = simp (le-ltb _ _ h, lt-ltb _ _ g)

  pub writing_3 : 16384 ≤ n → write_number n ≡ (128 + n % 128) ∷ (128 + n / 128 % 128) ∷ n / 16384 ∷ []
  unfolding write_number
  writing_3 g = let h : 128 ≤ n = omega arith in simp (le-ltb _ _ h, le-ltb _ _ g)

-- two and three bytes that stand one after the other
module _ (s : List ℕ) (at : ℕ) where
  has_2 : (x y : ℕ) → Has s at (x ∷ y ∷ []) → ((at < length s) × (get_or s at 0 ≡ x)) × ((at + 1 < length s) × (get_or s (at + 1) 0 ≡ y))
  has_2 x y h = (has-byte s at x (has-front s at (x ∷ []) (y ∷ []) h), has-byte s (at + 1) y (has-back s at (x ∷ []) (y ∷ []) h))

  has_3 : (x y z : ℕ) → Has s at (x ∷ y ∷ z ∷ [])
      → ((at < length s) × (get_or s at 0 ≡ x)) × ((at + 1 < length s) × (get_or s (at + 1) 0 ≡ y)) × ((at + 1 + 1 < length s) × (get_or s (at + 1 + 1) 0 ≡ z))
  has_3 x y z h =
      let f = has-byte s at x (has-front s at (x ∷ []) (y ∷ z ∷ []) h) in
      let g = has-back s at (x ∷ []) (y ∷ z ∷ []) h in
      (f, has-byte s (at + 1) y (has-front s (at + 1) (y ∷ []) (z ∷ []) g), has-byte s (at + 1 + 1) z (has-back s (at + 1) (y ∷ []) (z ∷ []) g))

  -- reading a writing gives the number back
  pub number-reads : (n : ℕ) → n < numbers → Has s at (write_number n) → read_number s at ≡ Whole (n, at + number_length n)
  number-reads n k h =
      split n 128
      (λ a.
      let w = has-byte s at n (has_is s at (writing_1 n a) h) in
      rw (← one n a) (sym (value_0 s at w.0 (sym w.1) a)))
      (λ a. split n 16384
      (λ b.
      let w = has_2 (128 + n % 128) (n / 128) (has_is s at (writing_2 n a b) h) in
      rw (← two n a b)
      (sym (value_1 s at w.0.0 (sym w.0.1) (omega arith) w.1.0 (sym w.1.1) (omega arith) (λ z. omega arith))
      ∙ pair (omega arith) (omega arith)))
      (λ b.
      let w = has_3 (128 + n % 128) (128 + n / 128 % 128) (n / 16384) (has_is s at (writing_3 n b) h) in
      rw (← three n a b)
      (sym (value_2 s at w.0.0 (sym w.0.1) (omega arith) w.1.0 (sym w.1.1) (omega arith) w.2.0 (sym w.2.1) (omega arith) (λ z. omega arith))
      ∙ pair (omega arith) (omega arith))))
    where
      pair : {a b p q : ℕ} → a ≡ b → p ≡ q → ◌≡◌ {A = Parsed ℕ} (Whole (a, p)) (Whole (b, q))
      pair e f = cc

  -- what reads as a number is exactly its writing
  abbrev Written : ℕ → ℕ → Type 0
  Written n next = (n < numbers) × Has s at (write_number n) × (next ≡ at + number_length n)

  same : {m p n next : ℕ} → Whole (m, p) ≡ read_number s at → read_number s at ≡ Whole (n, next) → Written m p → Written n next
  same {m} {p} {n} {next} f e w = subst (λ (z : ℕ × ℕ). Written z.0 z.1) (whole_is (f ∙ e)) w

  module _ (a : ℕ) (h₀ : at < length s) (r₀ : a ≡ get_or s at 0) where
    wrote_1 : a < 128 → Written a (at + 1)
    wrote_1 k = (omega arith, has_is s at (ap (λ (x : ℕ). x ∷ []) (sym r₀) ∙ sym (writing_1 a k)) (byte-has s at h₀), ap (λ (x : ℕ). at + x) (one a k))

    module _ (b : ℕ) (h₁ : at + 1 < length s) (r₁ : b ≡ get_or s (at + 1) 0) (k₀ : 128 ≤ a) (l₀ : a < 256) where
      has_ab : Has s at (a ∷ b ∷ [])
      has_ab =
          has_join s at (a ∷ []) (b ∷ []) (has_is s at (ap (λ (x : ℕ). x ∷ []) (sym r₀)) (byte-has s at h₀))
          (has_is s (at + 1) (ap (λ (x : ℕ). x ∷ []) (sym r₁)) (byte-has s (at + 1) h₁))

      wrote_2 : b < 128 → (b ≡ 0 → ⊥) → Written (a - 128 + b * 128) (at + 1 + 1)
      wrote_2 k z =
          let n : ℕ = a - 128 + b * 128 in
          let p : 0 < b = positive b z in
          let e₀ : a ≡ 128 + n % 128 = omega arith in
          let e₁ : b ≡ n / 128 = omega arith in
          let f : 128 ≤ n = omega arith in
          let g : n < 16384 = omega arith in
          (omega arith, has_is s at (ap₂ (λ (x y : ℕ). x ∷ y ∷ []) e₀ e₁ ∙ sym (writing_2 n f g)) has_ab, omega (arith, two n f g))

      wrote_3 : (c : ℕ) → at + 1 + 1 < length s → c ≡ get_or s (at + 1 + 1) 0 → 128 ≤ b → b < 256 → c < 128 → (c ≡ 0 → ⊥)
          → Written (a - 128 + (b - 128) * 128 + c * 16384) (at + 1 + 1 + 1)
      wrote_3 c h₂ r₂ k₁ l₁ k z =
          let n : ℕ = a - 128 + (b - 128) * 128 + c * 16384 in
          let p : 0 < c = positive c z in
          let e₀ : a ≡ 128 + n % 128 = omega arith in
          let q : n / 128 ≡ b - 128 + c * 128 = omega arith in
          let e₁ : b ≡ 128 + n / 128 % 128 = middle b c (n / 128) q k₁ l₁ in
          let e₂ : c ≡ n / 16384 = omega arith in
          let g : 16384 ≤ n = omega arith in
          let last : Has s (at + (1 + 1)) (c ∷ []) =
          subst (λ (i : ℕ). Has s i (c ∷ [])) {x = at + 1 + 1} (omega arith)
          (has_is s (at + 1 + 1) (ap (λ (x : ℕ). x ∷ []) (sym r₂)) (byte-has s (at + 1 + 1) h₂)) in
          (omega arith, has_is s at (ap₃ e₀ e₁ e₂ ∙ sym (writing_3 n g)) (has_join s at (a ∷ b ∷ []) (c ∷ []) has_ab last), omega (arith, three n (omega arith) g))
        where
          ap₃ : {x y z x' y' z' : ℕ} → x ≡ x' → y ≡ y' → z ≡ z' → x ∷ y ∷ z ∷ [] ≡ x' ∷ y' ∷ z' ∷ []
          ap₃ p q r = cc

  pub number-whole : Bytes s → {n next : ℕ} → read_number s at ≡ Whole (n, next) → (n < numbers) × Has s at (write_number n) × (next ≡ at + number_length n)
  unfolding Bytes
  number-whole bytes e =
      let a : ℕ = get_or s at 0 in
      let b : ℕ = get_or s (at + 1) 0 in
      let c : ℕ = get_or s (at + 1 + 1) 0 in
      let refuse : (k : ℕ) → Refused k ≡ read_number s at → ⊥ = λ k f. refused-whole f e in
      split at (length s)
      (λ h₀. split a 128 (λ k. same (value_0 s at h₀ refl k) e (wrote_1 a h₀ refl k))
      (λ k₀. split (at + 1) (length s)
      (λ h₁. split b 128
      (λ k. split 0 b
      (λ z. let f : b ≡ 0 → ⊥ = λ e. omega arith in same (value_1 s at h₀ refl k₀ h₁ refl k f) e (wrote_2 a h₀ refl b h₁ refl k₀ (bytes at) k f))
      (λ z. absurd (refuse 11 (zero_1 s at h₀ refl k₀ h₁ refl k (omega arith)))))
      (λ k₁. split (at + 1 + 1) (length s)
      (λ h₂. split c 128
      (λ k. split 0 c
      (λ z. let f : c ≡ 0 → ⊥ = λ e. omega arith in same (value_2 s at h₀ refl k₀ h₁ refl k₁ h₂ refl k f) e (wrote_3 a h₀ refl b h₁ refl k₀ (bytes at) c h₂ refl k₁ (bytes (at + 1)) k f))
      (λ z. absurd (refuse 11 (zero_2 s at h₀ refl k₀ h₁ refl k₁ h₂ refl k (omega arith)))))
      (λ k. absurd (refuse 11 (top_bit s at h₀ refl k₀ h₁ refl k₁ h₂ refl k))))
      (λ h₂. absurd (refuse 10 (ends_2 s at h₀ refl k₀ h₁ refl k₁ h₂)))))
      (λ h₁. absurd (refuse 10 (ends_1 s at h₀ refl k₀ h₁)))))
      (λ h₀. absurd (refuse 10 (ends_0 s at h₀)))
