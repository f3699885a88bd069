-- Lists of gates: the gate at a place, and how many ANDs come before it. Assumes nothing.
use Prim.Native.Nat.{ℕ, ◌+◌, ◌≤◌}
use mathlib.Core.Bool.{Bool, true, false}
use mathlib.Core.List.{List, [], ◌∷◌, ◌++◌}
use mathlib.Core.Path.{◌≡◌, refl, sym, ap, ◌∙◌}
use native.Mathlib.Nat.{add-zero, zero-add}
use native.Mathlib.Omega.{arith}
use lib.ListN.{length, get_or, take, drop, take-append-drop}
use lib.Seq.{drop-drop, get_or-drop, take-add, length-take-le}
use mir.Val.{bool_byte}
use Rattle.algebra.specs.Choice.{choose}
use Rattle.circuit.specs.Content.{Gate, Xor, And, Not, is_and, ands_in}
use Rattle.circuit.specs.Inner.GateNumbers.{gate_of}
use Rattle.circuit.specs.declared.Gate as code
use Rattle.circuit.specs.declared.Gate.TheVariants as variant

-- one for what is so, else none; of a gate for an AND
pub byte_of : (b : Bool) → bool_byte b ≡ choose b 1 0
byte_of true = refl
byte_of false = refl

pub one_for : (g : Gate) {t : Bool} {n : ℕ} → n ≡ bool_byte t → t ≡ is_and g → n ≡ choose (is_and g) 1 0
one_for g {t} e h = e ∙ byte_of t ∙ ap (λ (b : Bool). choose b 1 0) h

-- a gate of the code that is no AND
pub no_and : (g : code.Gate) → ((a b : ℕ) → g ≡ variant.And a b → ⊥) → is_and (gate_of g) ≡ false
no_and (variant.Xor a b) h = refl
no_and (variant.And a b) h = absurd (h a b refl)
no_and (variant.Not a) h = refl

pub ands_append : (xs ys : List Gate) → ands_in (xs ++ ys) ≡ ands_in xs + ands_in ys
unfolding ands_in
ands_append [] ys = sym (zero-add (ands_in ys))
ands_append (g ∷ xs) ys = omega (arith, ands_append xs ys)

pub ands-few : (gs : List Gate) → ands_in gs ≤ length gs
unfolding ands_in
ands-few [] = omega arith
ands-few (Xor a b ∷ gs) = omega (arith, ands-few gs)
ands-few (And a b ∷ gs) = omega (arith, ands-few gs)
ands-few (Not a ∷ gs) = omega (arith, ands-few gs)

pub before_few : (gs : List Gate) (i : ℕ) → i ≤ length gs → ands_in (take i gs) ≤ i
before_few gs i h = omega (arith, ands-few (take i gs), length-take-le i gs h)

-- the first of what is left
module _ (gs : List Gate) (i : ℕ) {g : Gate} {later : List Gate} (e : drop i gs ≡ g ∷ later) where
  pub head_at : (d : Gate) → get_or gs i d ≡ g
  head_at d = ap (λ (n : ℕ). get_or gs n d) (sym (add-zero i)) ∙ sym (get_or-drop i gs 0 d) ∙ ap (λ (l : List Gate). get_or l 0 d) e

  pub tail_at : drop (i + 1) gs ≡ later
  tail_at = sym (drop-drop 1 i gs) ∙ ap (drop 1) e

  pub ands_more : ands_in (take (i + 1) gs) ≡ ands_in (take i gs) + choose (is_and g) 1 0
  unfolding ands_in
  ands_more =
      ap ands_in (take-add i 1 gs ∙ ap (λ (l : List Gate). take i gs ++ take 1 l) e)
      ∙ ands_append (take i gs) (g ∷ [])
      ∙ ap (λ (n : ℕ). ands_in (take i gs) + n) (add-zero (choose (is_and g) 1 0))

  pub ands_split : ands_in gs ≡ ands_in (take i gs) + (choose (is_and g) 1 0 + ands_in later)
  unfolding ands_in
  ands_split = ap ands_in (sym (take-append-drop i gs)) ∙ ands_append (take i gs) (drop i gs) ∙ ap (λ (l : List Gate). ands_in (take i gs) + ands_in l) e
