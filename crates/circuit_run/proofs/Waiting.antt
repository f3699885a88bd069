-- How many bytes wait: of lists that are joined, byte by byte, and of the first of them. Assumes nothing.
use Prim.Native.Nat.{ℕ, ◌+◌, ◌-◌, ◌≤◌, ◌<◌}
use mathlib.Core.List.{List, [], ◌∷◌, ◌++◌}
use mathlib.Core.Path.{◌≡◌, refl, sym, ap, ◌∙◌}
use native.Mathlib.Nat.{zero-add}
use native.Mathlib.Numerals.{add-one}
use native.Mathlib.Omega.{arith}
use lib.ListN.{length, get_or, take, drop, length-drop}
use lib.Seq.{take-suc, take-add, take_all, get_or-drop}
use Rattle.number.proofs.Places.{either}
use borrow.Author.Tests.{eq-eqb, ne_eqb}
use Rattle.circuit_run.specs.Inner.RoundTests.{wait_of}
use Rattle.circuit_run.specs.Round.{waiting}

pub waiting_append : (xs ys : List ℕ) → waiting (xs ++ ys) ≡ waiting xs + waiting ys
unfolding waiting
waiting_append [] ys = sym (zero-add (waiting ys))
waiting_append (x ∷ xs) ys = omega (arith, waiting_append xs ys)

pub wait_small : (byte : ℕ) → wait_of byte ≤ 1
wait_small byte = either byte 1 (λ e. simp (eq-eqb _ _ e) (omega arith)) (λ n. simp (ne_eqb _ _ n) (omega arith))

waiting_one : (bytes : List ℕ) (i : ℕ) → i < length bytes → waiting (take (i + 1) bytes) ≡ waiting (take i bytes) + wait_of (get_or bytes i 0)
unfolding waiting
waiting_one bytes i h =
    ap (λ (n : ℕ). waiting (take n bytes)) (add-one i)
    ∙ ap waiting (take-suc bytes i 0 h)
    ∙ waiting_append (take i bytes) (get_or bytes i 0 ∷ [])
    ∙ omega arith

-- of the gates before a gate: none, one more, and no more than of all
abbrev pub waiting_up_to : ℕ → List ℕ → ℕ → ℕ
waiting_up_to inputs bytes i = waiting (take i (drop inputs bytes))

pub waiting_none : (inputs : ℕ) (bytes : List ℕ) → 0 ≡ waiting_up_to inputs bytes 0
unfolding waiting
waiting_none inputs bytes = refl

pub waiting_more : (inputs : ℕ) (bytes : List ℕ) (i : ℕ) → inputs + i < length bytes
    → waiting_up_to inputs bytes (i + 1) ≡ waiting_up_to inputs bytes i + wait_of (get_or bytes (inputs + i) 0)
waiting_more inputs bytes i h =
    let d : List ℕ = drop inputs bytes in
    waiting_one d i (omega (arith, length-drop inputs bytes))
    ∙ ap (λ (x : ℕ). waiting (take i d) + wait_of x) (get_or-drop inputs bytes i 0)

pub waiting_upto : (inputs : ℕ) (bytes : List ℕ) (i n : ℕ) → i ≤ n → waiting_up_to inputs bytes i ≤ waiting_up_to inputs bytes n
waiting_upto inputs bytes i n h =
    let d : List ℕ = drop inputs bytes in
    let e : waiting (take n d) ≡ waiting (take i d) + waiting (take (n - i) (drop i d)) =
    ap (λ (m : ℕ). waiting (take m d)) {x = n} {y = i + (n - i)} (omega arith) ∙ ap waiting (take-add i (n - i) d)
    ∙ waiting_append (take i d) (take (n - i) (drop i d)) in
    omega (arith, e)

-- ---- the loop that counts them

pub record CountTurn (bytes : List ℕ) (count i : ℕ) : Type 0 where
  pub counted : count ≡ waiting (take i bytes)
  pub few : count ≤ i

pub count-start : (bytes : List ℕ) → CountTurn bytes 0 0
unfolding waiting
count-start bytes = record { counted = refl; few = omega arith }

module _ {bytes : List ℕ} {count i : ℕ} (turn : CountTurn bytes count i) where
  pub count_next : i < length bytes → {n : ℕ} → n ≡ wait_of (get_or bytes i 0) → CountTurn bytes (count + n) (i + 1)
  count_next more {n} e =
      record {
        counted = omega (arith, turn.counted, e, waiting_one bytes i more);
        few = omega (arith, turn.few, e, wait_small (get_or bytes i 0));
      }

  pub count_done : length bytes ≤ i → count ≡ waiting bytes
  count_done over = turn.counted ∙ ap waiting (take_all i bytes over)
