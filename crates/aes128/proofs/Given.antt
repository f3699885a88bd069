-- Words and states as functions are given them, arrays of bytes. Assumes nothing.
use mathlib.Core.Path.{◌≡◌, refl}
use mathlib.Core.Bool.{Bool, true, false}
use mathlib.Core.List.{List, [], ◌∷◌}
use Prim.Native.Nat.{ℕ, zero, suc, ◌≤◌, ◌<◌}
use native.Mathlib.Omega.{arith}
use mir.Syntax.{w8}
use mir.Val.{Val}
use denote.Array as array
use denote.Laws.{Is}
use denote.Plain.{UInt}
use denote.Shadow.{shadow}
use denote.RattleType.{RattleType}
use borrow.Author.Tests.{ltb-true, ltb-false}
use lib.Dec.{ltb, lit<}
use lib.ListN.{length, get_or, get_or-eq_default}
use Rattle.aes128.specs.Inner.Sizes.{IsWord, IsState}

-- a condition on each element of an array, from one on a value of the elements' type
each-value : (R : RattleType) (P : R.Denot → Type 0) → ((x : R.Denot) (vs : List Val) → Is R x vs → P x)
    → (none : R.Denot) (xs : List R.Denot) (us : List Val) → shadow (array.each R.Denot R.own_val xs us)
    → (i : ℕ) → i < length xs → P (get_or xs i none)
each-value R P of none [] us s i h = absurd (omega arith)
each-value R P of none (x ∷ xs) [] s i h = absurd s
each-value R P of none (x ∷ xs) (u ∷ us) s zero h = of x (u ∷ []) s.0
each-value R P of none (x ∷ xs) (u ∷ us) s (suc i) h = each-value R P of none xs us s.1 i (omega arith)

byte_word : (w : List ℕ) (vs : List Val) → Is (array.Array (UInt w8) 4) w vs → IsWord w
byte_word w vs g = record { size = g.1.0.1; bytes = λ r. at r (ltb r 4) refl }
  where
    at : (r : ℕ) (t : Bool) → ltb r 4 ≡ t → get_or w r 0 < 256
    at r true e = each-value (UInt w8) (λ x. x < 256) (λ x us i. i.1) 0 w g.0 g.1.1 r (rw g.1.0.1 (ltb-true r 4 e))
    at r false e =
        let out : length w ≤ r = rw g.1.0.1 (ltb-false r 4 e) in
        rw (get_or-eq_default w 0 out) (lit< tt)

-- four columns of four bytes that a function is given are a state
pub given-state : (s : List (List ℕ)) (vs : List Val) → Is (array.Array (array.Array (UInt w8) 4) 4) s vs → IsState s
given-state s vs g =
    record {
      size = g.1.0.1;
      words = λ c h. each-value (array.Array (UInt w8) 4) IsWord byte_word [] s g.0 g.1.1 c (rw g.1.0.1 h);
    }
