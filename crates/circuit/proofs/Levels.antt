-- The levels of a circuit's wires: an input's is 0, a gate's follows from its wires', and the depth is the greatest. Assumes nothing.
use Prim.Native.Nat.{ℕ, zero, suc, ◌+◌, ◌≤◌, ◌<◌}
use mathlib.Core.List.{List, [], ◌∷◌}
use mathlib.Core.Path.{◌≡◌, ap, ◌∙◌, subst}
use borrow.Author.Tests.{le-leb, lt-leb}
use native.Mathlib.Omega.{arith}
use lib.ListN.{length, get_or, take, replicate, length-replicate, get_or-replicate}
use lib.Seq.{get_or-take}
use Rattle.circuit.proofs.Folds.{fold_length, fold_keeps, fold_holds, below_at}
use Rattle.circuit.specs.Admitted.{GateBelow, GatesBelow}
use Rattle.circuit.specs.Content.{Gate, Xor, And, Not, Circuit}
use Rattle.circuit.specs.Levels.{greater, gate_level, levels, level_of, greatest}
use Rattle.number.proofs.Places.{split, choose_yes, choose_no}

-- ---- the greater, and the greatest

pub greater_is : (a b : ℕ) → (a ≤ b → greater a b ≡ b) × (b < a → greater a b ≡ a)
greater_is a b = (λ h. choose_yes b a (le-leb a b h), λ h. choose_no b a (lt-leb a b h))

pub greater-below : (a b m : ℕ) → a < m → b < m → greater a b < m
greater-below a b m h k =
    split b a (λ l. omega (arith, (greater_is a b).1 l)) (λ l. omega (arith, (greater_is a b).0 l))

pub greater-from : (a b : ℕ) → (a ≤ greater a b) × (b ≤ greater a b)
greater-from a b =
    split b a (λ l. (omega (arith, (greater_is a b).1 l), omega (arith, (greater_is a b).1 l)))
    (λ l. (omega (arith, (greater_is a b).0 l), omega (arith, (greater_is a b).0 l)))

pub greatest-from : (ns : List ℕ) (w : ℕ) → get_or ns w 0 ≤ greatest ns
unfolding greatest
greatest-from [] w = omega arith
greatest-from (n ∷ ns) zero = (greater-from n (greatest ns)).0
greatest-from (n ∷ ns) (suc w) = omega (arith, greatest-from ns w, (greater-from n (greatest ns)).1)

pub greatest-below : (ns : List ℕ) (m : ℕ) → ((w : ℕ) → w < length ns → get_or ns w 0 ≤ m) → greatest ns ≤ m
unfolding greatest
greatest-below [] m all = omega arith
greatest-below (n ∷ ns) m all =
    omega (
      arith,
      greater-below n (greatest ns) (suc m) (omega (arith, all 0 (omega arith)))
          (omega (arith, greatest-below ns m (λ w h. all (suc w) (omega arith)))),
    )

-- ---- the levels of a circuit

-- a gate's level depends on the wires below it alone
pub level_below : (g : Gate) (n : ℕ) (xs ys : List ℕ) → GateBelow n g → ((w : ℕ) → w < n → get_or xs w 0 ≡ get_or ys w 0) → gate_level g xs ≡ gate_level g ys
unfolding GateBelow gate_level
level_below (Xor a b) n xs ys ok same = rw (same a ok.0, same b ok.1)
level_below (And a b) n xs ys ok same = rw (same a ok.0, same b ok.1)
level_below (Not a) n xs ys ok same = same a ok

module _ (c : Circuit) where
  pub levels-length : length (levels c) ≡ c.inputs + length c.gates
  unfolding levels
  levels-length =
      fold_length gate_level c.gates (replicate c.inputs 0) ∙ ap (λ (n : ℕ). n + length c.gates) (length-replicate {A = ℕ} c.inputs 0)

  pub level_input : (w : ℕ) → w < c.inputs → level_of c w ≡ 0
  unfolding levels
  level_input w h =
      fold_keeps gate_level c.gates (replicate c.inputs 0) w (omega (arith, length-replicate {A = ℕ} c.inputs 0))
      ∙ get_or-replicate c.inputs w 0 0 h

  pub level_gate : GatesBelow c.inputs c.gates → (i : ℕ) → i < length c.gates
      → level_of c (c.inputs + i) ≡ gate_level (get_or c.gates i (Not 0)) (levels c)
  unfolding levels
  level_gate ok i h =
      subst (λ (n : ℕ). get_or (levels c) (n + i) 0 ≡ gate_level (get_or c.gates i (Not 0)) (take (n + i) (levels c))) (length-replicate {A = ℕ} c.inputs 0)
      (fold_holds gate_level c.gates (replicate c.inputs 0) i h)
      ∙ level_below (get_or c.gates i (Not 0)) (c.inputs + i) (take (c.inputs + i) (levels c)) (levels c) (below_at c.gates c.inputs i ok h)
      (λ v k. get_or-take (c.inputs + i) (levels c) v 0 k)

  -- an AND's level is above its wires'
  pub and_raised : GatesBelow c.inputs c.gates → (i a b : ℕ) → i < length c.gates → get_or c.gates i (Not 0) ≡ And a b
      → (level_of c a < level_of c (c.inputs + i)) × (level_of c b < level_of c (c.inputs + i))
  unfolding gate_level
  and_raised ok i a b h e =
      let is : level_of c (c.inputs + i) ≡ gate_level (And a b) (levels c) = level_gate ok i h ∙ ap (λ (g : Gate). gate_level g (levels c)) e in
      let r = greater-from (level_of c a) (level_of c b) in
      (omega (arith, is, r.0), omega (arith, is, r.1))
