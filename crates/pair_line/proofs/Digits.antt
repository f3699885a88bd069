-- Decimal digits as they are written: the last one after those before it, with room for all of them. Assumes nothing.
use mathlib.Core.Path.{◌≡◌, refl, ap, ◌∙◌}
use mathlib.Core.List.{List, [], ◌∷◌, ◌++◌}
use Prim.Native.Nat.{ℕ, zero, suc, ◌+◌, ◌-◌, ◌/◌, ◌%◌, ◌≤◌, ◌<◌}
use native.Mathlib.Omega.{arith}
use lib.Dec.{ltb}
use lib.ListN.{length, set, length-append}
use borrow.Author.Tests.{le-ltb, lt-ltb}
use Rattle.algebra.proofs.Choice.{choose-true, choose-false, choose_either}
use Rattle.number.proofs.Places.{wrote_then, room-front, room_back}
use Rattle.number.specs.Inner.Written.{Room, Wrote}
use Rattle.pairing.specs.Line.{digits}

-- one digit
digits_last : (left x : ℕ) → x < 10 → digits left x ≡ (48 + x) ∷ []
unfolding digits
digits_last zero x h = ap (λ (d : ℕ). (48 + d) ∷ []) {x = x % 10} {y = x} (omega arith)
digits_last (suc n) x h = choose-true (ltb x 10) _ _ (lt-ltb x 10 h)

-- the digits before the last, and the last
digits_more : (left x : ℕ) → (left ≡ 0 → ⊥) → 10 ≤ x → digits left x ≡ digits (left - 1) (x / 10) ++ ((48 + x % 10) ∷ [])
unfolding digits
digits_more zero x n h = absurd (n refl)
digits_more (suc m) x n h =
    choose-false (ltb x 10) _ _ (le-ltb x 10 (omega arith))
    ∙ ap (λ (k : ℕ). digits k (x / 10) ++ ((48 + x % 10) ∷ [])) {x = m} {y = suc m - 1} (omega arith)

-- they take at most one place more than is left
pub digits-most : (left x : ℕ) → length (digits left x) ≤ left + 1
unfolding digits
digits-most zero x = omega arith
digits-most (suc n) x =
    choose_either (λ (l : List ℕ). length l ≤ suc n + 1) (ltb x 10) _ _ (omega arith)
    (let h = digits-most n (x / 10) in simp length-append (omega arith))

-- ---- one digit alone, in the last place that is left or of a number below 10

module _ (out : List ℕ) (at left x : ℕ) where
  none_digits : left ≡ 0 → digits left x ≡ (48 + x % 10) ∷ []
  unfolding digits
  none_digits e = rw e

  module _ (room : Room out at (digits left x)) where
    pub none-room : left ≡ 0 → at < length out
    none-room e = omega (arith, room.fits, ap length (none_digits e))

    pub one-room : x < 10 → at < length out
    one-room h = omega (arith, room.fits, ap length (digits_last left x h))

  pub none-wrote : left ≡ 0 → Wrote out at (digits left x) (at + 1) (set out at (48 + x % 10))
  none-wrote e = rw (none_digits e) (record { place = refl; stored = refl })

  pub one-wrote : x < 10 → Wrote out at (digits left x) (at + 1) (set out at (48 + x))
  one-wrote h = rw (digits_last left x h) (record { place = refl; stored = refl })

  -- ---- the last digit after the others

  module _ (more : left ≡ 0 → ⊥) (h : 10 ≤ x) where
    abbrev others : List ℕ
    others = digits (left - 1) (x / 10)

    abbrev last : List ℕ
    last = (48 + x % 10) ∷ []

    pub others-room : Room out at (digits left x) → Room out at others
    others-room room = room-front others last (rw (digits_more left x more h) at room)

    module _ {r : ℕ} {b : List ℕ} (w : Wrote out at others r b) where
      pub last-room : Room out at (digits left x) → r < length b
      last-room room = omega (arith, (room_back others last w (rw (digits_more left x more h) at room)).fits)

      pub more-wrote : Wrote out at (digits left x) (r + 1) (set b r (48 + x % 10))
      more-wrote = rw (digits_more left x more h) (wrote_then {v = last} w (record { place = refl; stored = refl }))
