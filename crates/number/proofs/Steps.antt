-- What the definitions of reading, length and writing of a number say, one law a way,
-- from the tests that lead to it. Assumes nothing.
use Prim.Native.Nat.{ℕ, ◌+◌, ◌-◌, ◌*◌, ◌/◌, ◌%◌, ◌≤◌, ◌<◌}
use mathlib.Core.List.{List}
use mathlib.Core.Path.{◌≡◌, refl}
use borrow.Author.Tests.{lt-ltb, le-ltb, eq-eqb, ne_eqb}
use Rattle.number.proofs.Places.{split}
use native.Mathlib.Numerals.{add-one, towards_suc}
use native.Mathlib.Omega.{arith}
use lib.ListN.{length, get_or, set}
use Rattle.number.specs.Number.{write_number, last_group, read_number, number_length}
use Rattle.number.specs.Inner.Written.{Room, Wrote}
use Rattle.number.specs.Reading.{Whole, Refused, read_byte}

module _ (s : List ℕ) (at : ℕ) where
  pub ends_0 : length s ≤ at → Refused 10 ≡ read_number s at
  unfolding read_number read_byte
  ends_0 h = simp (le-ltb _ _ h)

  module _ {a : ℕ} (h : at < length s) (read : a ≡ get_or s at 0) where
    pub value_0 : a < 128 → Whole (a, at + 1) ≡ read_number s at
    unfolding read_number read_byte
    value_0 g = simp (lt-ltb _ _ h, ← read, lt-ltb _ _ g)

    module _ (g : 128 ≤ a) where
      pub ends_1 : length s ≤ at + 1 → Refused 10 ≡ read_number s at
      unfolding read_number read_byte
      ends_1 h₁ = simp (lt-ltb _ _ h, ← read, le-ltb _ _ g, le-ltb _ _ h₁)

      module _ {b : ℕ} (h₁ : at + 1 < length s) (read₁ : b ≡ get_or s (at + 1) 0) where
        pub zero_1 : b < 128 → b ≡ 0 → Refused 11 ≡ read_number s at
        unfolding read_number read_byte last_group
        zero_1 k z = simp (lt-ltb _ _ h, ← read, le-ltb _ _ g, lt-ltb _ _ h₁, ← read₁, lt-ltb _ _ k, eq-eqb _ _ z)

        pub value_1 : b < 128 → (b ≡ 0 → ⊥) → Whole (a - 128 + b * 128, at + 1 + 1) ≡ read_number s at
        unfolding read_number read_byte last_group
        value_1 k z = simp (lt-ltb _ _ h, ← read, le-ltb _ _ g, lt-ltb _ _ h₁, ← read₁, lt-ltb _ _ k, ne_eqb _ _ z)

        module _ (k : 128 ≤ b) where
          pub ends_2 : length s ≤ at + 1 + 1 → Refused 10 ≡ read_number s at
          unfolding read_number read_byte
          ends_2 h₂ = simp (lt-ltb _ _ h, ← read, le-ltb _ _ g, lt-ltb _ _ h₁, ← read₁, le-ltb _ _ k, le-ltb _ _ h₂)

          module _ {c : ℕ} (h₂ : at + 1 + 1 < length s) (read₂ : c ≡ get_or s (at + 1 + 1) 0) where
            pub zero_2 : c < 128 → c ≡ 0 → Refused 11 ≡ read_number s at
            unfolding read_number read_byte last_group
            zero_2 l z =
                simp (lt-ltb _ _ h, ← read, le-ltb _ _ g, lt-ltb _ _ h₁, ← read₁, le-ltb _ _ k, lt-ltb _ _ h₂, ← read₂, lt-ltb _ _ l, eq-eqb _ _ z)

            pub value_2 : c < 128 → (c ≡ 0 → ⊥) → Whole (a - 128 + (b - 128) * 128 + c * 16384, at + 1 + 1 + 1) ≡ read_number s at
            unfolding read_number read_byte last_group
            value_2 l z =
                simp (lt-ltb _ _ h, ← read, le-ltb _ _ g, lt-ltb _ _ h₁, ← read₁, le-ltb _ _ k, lt-ltb _ _ h₂, ← read₂, lt-ltb _ _ l, ne_eqb _ _ z)

            pub top_bit : 128 ≤ c → Refused 11 ≡ read_number s at
            unfolding read_number read_byte
            top_bit l =
                simp (lt-ltb _ _ h, ← read, le-ltb _ _ g, lt-ltb _ _ h₁, ← read₁, le-ltb _ _ k, lt-ltb _ _ h₂, ← read₂, le-ltb _ _ l)

module _ (n : ℕ) where
  pub one : n < 128 → 1 ≡ number_length n
  unfolding number_length
  one h = simp (lt-ltb _ _ h)

  pub two : 128 ≤ n → n < 16384 → 2 ≡ number_length n
  unfolding number_length
  two h g = simp (le-ltb _ _ h, lt-ltb _ _ g)

  pub three : 128 ≤ n → 16384 ≤ n → 3 ≡ number_length n
  unfolding number_length
  three h g = simp (le-ltb _ _ h, le-ltb _ _ g)

  pub length-number : length (write_number n) ≡ number_length n
  unfolding write_number number_length
  length-number =
      split n 128 (λ h. simp (lt-ltb _ _ h))
      (λ h. split n 16384 (λ g. simp (le-ltb _ _ h, lt-ltb _ _ g)) (λ g. simp (le-ltb _ _ h, le-ltb _ _ g)))

  module _ (b : List ℕ) (at : ℕ) where
    pub wrote_1 : n < 128 → Wrote b at (write_number n) (at + 1) (set b at n)
    unfolding write_number
    wrote_1 h = record { place = simp (lt-ltb _ _ h); stored = simp (lt-ltb _ _ h) }

    pub wrote_2 : 128 ≤ n → n < 16384 → Wrote b at (write_number n) (at + 2) (set (set b at (128 + n % 128)) (at + 1) (n / 128))
    unfolding write_number
    wrote_2 h g = record { place = simp (le-ltb _ _ h, lt-ltb _ _ g) (omega arith); stored = simp (le-ltb _ _ h, lt-ltb _ _ g, add-one) }

    pub wrote_3 : 128 ≤ n → 16384 ≤ n
        → Wrote b at (write_number n) (at + 3) (set (set (set b at (128 + n % 128)) (at + 1) (128 + n / 128 % 128)) (at + 2) (n / 16384))
    unfolding write_number
    wrote_3 h g = record { place = simp (le-ltb _ _ h, le-ltb _ _ g) (omega arith); stored = simp (le-ltb _ _ h, le-ltb _ _ g) (simp towards_suc refl) }

    module _ (room : Room b at (write_number n)) where
      pub room_1 : at < length b
      room_1 = split n 128 (λ h. omega (arith, length-number, one h)) (λ h. split n 16384 (λ g. omega (arith, length-number, two h g)) (λ g. omega (arith, length-number, three h g)))

      pub room_2 : 128 ≤ n → at + 1 < length b
      room_2 h = split n 16384 (λ g. omega (arith, length-number, two h g)) (λ g. omega (arith, length-number, three h g))

      pub room_3 : 128 ≤ n → 16384 ≤ n → at + 2 < length b
      room_3 h g = omega (arith, length-number, three h g)
