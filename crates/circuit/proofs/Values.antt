-- The values of a circuit's wires: each gate's wire has the gate's value. Assumes nothing.
use Prim.Native.Nat.{ℕ, ◌+◌, ◌<◌}
use mathlib.Core.List.{List}
use mathlib.Core.Path.{◌≡◌, ap, ap₂, ◌∙◌, subst}
use lib.Bits.{bit_xor, bit_and}
use lib.ListN.{length, get_or, take}
use lib.Seq.{get_or-take}
use Rattle.circuit.proofs.Folds.{fold_holds, below_at}
use Rattle.circuit.specs.Admitted.{GateBelow, GatesBelow}
use Rattle.circuit.specs.Content.{Gate, Xor, And, Not}
use Rattle.circuit.specs.Value.{gate_value, wire_values}

-- a gate's value depends on the wires below it alone
value-below : (g : Gate) (wire : ℕ) (xs ys : List ℕ) → GateBelow wire g → ((w : ℕ) → w < wire → get_or xs w 0 ≡ get_or ys w 0)
    → gate_value g xs ≡ gate_value g ys
unfolding GateBelow gate_value
value-below (Xor a b) wire xs ys ok same = ap₂ bit_xor (same a ok.0) (same b ok.1)
value-below (And a b) wire xs ys ok same = ap₂ bit_and (same a ok.0) (same b ok.1)
value-below (Not a) wire xs ys ok same = ap (λ (x : ℕ). bit_xor x 1) (same a ok)

pub values_hold : (gs : List Gate) (wires : List ℕ) (n : ℕ) → length wires ≡ n → GatesBelow n gs → (i : ℕ) → i < length gs
    → get_or (wire_values gs wires) (n + i) 0 ≡ gate_value (get_or gs i (Not 0)) (wire_values gs wires)
values_hold gs wires n e ok i h =
    let all : List ℕ = wire_values gs wires in
    subst (λ (m : ℕ). get_or all (m + i) 0 ≡ gate_value (get_or gs i (Not 0)) (take (m + i) all)) e (fold_holds gate_value gs wires i h)
    ∙ value-below (get_or gs i (Not 0)) (n + i) (take (n + i) all) all (below_at gs n i ok h) (λ w k. get_or-take (n + i) all w 0 k)
